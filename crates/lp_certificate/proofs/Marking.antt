-- The marks of the places that were given a number: one part more is one mark more.
--
-- `marked_has`: noting one more number keeps that there is a note for each column and row.
-- `nothing_has`: lists of false as long as the columns, the rows and the columns have a note for each.
use Rattle.std.proofs.Common.{◌≡◌, ℕ, zero, suc, ◌<◌, Bool, true, false, ◌&&◌, ◌||◌, Some, List, [], ◌∷◌, ◌++◌, length, get_or, set}
use Rattle.std.proofs.Common.{refl, sym, ap, ap₂, ◌∙◌, subst, ⊎_elim, ◌≢◌, get_or-set_same, get_or-set_other, length-set}
use Rattle.std.specs.Prelude.{replicate}
use Rattle.std.proofs.lemmas.List.{length-replicate}
use Rattle.std.specs.List.{list_any}
use Rattle.std.proofs.lemmas.Bool.{cases_eq}
use Rattle.std.proofs.lemmas.List.Quantifiers.{position-Some}
use Rattle.spec_text.specs.Words.{same}
use Rattle.spec_text.proofs.WordLemmas.{same-refl, same_true}
use Rattle.spec_model.specs.Model.{Model, Name, ExactRow, ExactColumn, no_row, no_column, width, height}
use Rattle.spec_model.specs.Kept.{row_place, column_place}
use Rattle.spec_check.specs.declared.certificate.Letter.{Letter}
use Rattle.spec_check.specs.declared.certificate.Letter.TheVariants.{X, Y, R}
use Rattle.spec_check.specs.Raw.{PartOf}
use Rattle.spec_check.specs.Settle.{place_of, same_letter, is_given}
use Rattle.lp_certificate.specs.declared.given.Given.{Given}
use Rattle.lp_certificate.specs.Marks.{marks_of, with_mark, HasMarks, AreMarks}

-- ---- names by their places

-- the row at the place to which a name leads has that name
row_named : (m : Model) (name : Name) (k : ℕ) → row_place m name ≡ Some k → (get_or m.rows k no_row).name ≡ name
unfolding row_place
row_named m name k e =
    same_true _ name (position-Some (λ (r : ExactRow). same r.name name) m.rows k no_row e).1

-- the column at the place to which a name leads has that name
column_named : (m : Model) (name : Name) (k : ℕ) → column_place m name ≡ Some k → (get_or m.columns k no_column).name ≡ name
unfolding column_place
column_named m name k e =
    same_true _ name (position-Some (λ (c : ExactColumn). same c.name name) m.columns k no_column e).1

-- two names that lead to one place, by one letter, are equal
one_name : (m : Model) (letter : Letter) (a b : Name) (k : ℕ) → place_of m letter a ≡ Some k → place_of m letter b ≡ Some k →
    a ≡ b
one_name m X a b k e f = sym (column_named m a k e) ∙ column_named m b k f
one_name m Y a b k e f = sym (row_named m a k e) ∙ row_named m b k f
one_name m R a b k e f = sym (column_named m a k e) ∙ column_named m b k f

-- two equal names lead, by one letter, to one place
one_place : (m : Model) (letter : Letter) (a b : Name) (j k : ℕ) → place_of m letter a ≡ Some j → place_of m letter b ≡ Some k →
    a ≡ b → j ≡ k
one_place m letter a b j k e f g =
    let h : Some j ≡ Some k = sym e ∙ ap (place_of m letter) g ∙ f in cc

-- ---- no mark yet

-- in a list of n false tests no place is true
none_at : (n k : ℕ) → get_or (replicate n false) k false ≡ false
none_at zero zero = refl
none_at zero (suc k) = refl
none_at (suc n) zero = refl
none_at (suc n) (suc k) = none_at n k

-- ---- one of two tests

-- where a is b and c is false, a is true just where b or c is
either : (a b c : Bool) → a ≡ b → c ≡ false → a ≡ (b || c)
either a true c e f = e
either a false c e f = e ∙ sym f

-- where a and c are true, a is true just where b or c is
all_true : (a b c : Bool) → a ≡ true → c ≡ true → a ≡ (b || c)
all_true a true c e f = e
all_true a false c e f = e ∙ sym f

module _ {F : Type 0} where
  -- where no part was put, notes that are all false say which names the parts give a number
  pub none_marked : (m : Model) (ps : List (PartOf F)) (a b c : ℕ) (g : Given) → ps ≡ [] → g.x ≡ replicate a false →
      g.y ≡ replicate b false → g.r ≡ replicate c false → AreMarks m ps g
  none_marked m ps a b c g n e f h X name k p =
      ap (λ z. get_or z k false) e ∙ none_at a k ∙ sym (ap (λ qs. is_given X name qs) n)
  none_marked m ps a b c g n e f h Y name k p =
      ap (λ z. get_or z k false) f ∙ none_at b k ∙ sym (ap (λ qs. is_given Y name qs) n)
  none_marked m ps a b c g n e f h R name k p =
      ap (λ z. get_or z k false) h ∙ none_at c k ∙ sym (ap (λ qs. is_given R name qs) n)

  -- ---- one part more
  -- one of the parts with one more passes a test exactly where one of the parts or the new one does
  any_more : (f : PartOf F → Bool) (ps : List (PartOf F)) (p : PartOf F) →
      list_any f (ps ++ p ∷ []) ≡ (list_any f ps || f p)
  any_more f [] p = last (f p)
    where
      last : (b : Bool) → (b || false) ≡ b
      last true = refl
      last false = refl
  any_more f (q ∷ ps) p = ap (λ b. f q || b) (any_more f ps p) ∙ assoc (f q) (list_any f ps) (f p)
    where
      assoc : (a b c : Bool) → (a || (b || c)) ≡ ((a || b) || c)
      assoc true b c = refl
      assoc false b c = refl

  -- where the marks of a letter say which names the parts give a number, they do with one more part with this letter
  -- once its place is marked
  marked : (m : Model) (letter : Letter) (marks : List Bool) (before : List (PartOf F)) (p : PartOf F) (j : ℕ) →
      same_letter p.letter letter ≡ true → place_of m letter p.name ≡ Some j → j < length marks →
      ((name : Name) (k : ℕ) → place_of m letter name ≡ Some k → get_or marks k false ≡ is_given letter name before) →
      (name : Name) (k : ℕ) → place_of m letter name ≡ Some k →
      get_or (set marks j true) k false ≡ is_given letter name (before ++ p ∷ [])
  marked m letter marks before p j l e h w name k f =
      ⊎_elim here there (cases_eq k j)
      ∙ sym (any_more (λ q. same_letter q.letter letter && same q.name name) before p)
    where
      here : k ≡ j → get_or (set marks j true) k false ≡ (is_given letter name before || (same_letter p.letter letter && same p.name name))
      here g =
          all_true _ (is_given letter name before) _
          (ap (λ i. get_or (set marks j true) i false) g ∙ get_or-set_same marks j true false h)
          (ap₂ ◌&&◌ l
          (ap (λ n. same p.name n) (one_name m letter name p.name k f (subst (λ i. place_of m letter p.name ≡ Some i) (sym g) e))
          ∙ same-refl p.name))

      there : k ≢ j → get_or (set marks j true) k false ≡ (is_given letter name before || (same_letter p.letter letter && same p.name name))
      there o =
          either _ (is_given letter name before) _ (get_or-set_other marks j k true false o ∙ w name k f)
          (ap (λ b. b && same p.name name) l ∙ apart (same p.name name) refl)
        where
          apart : (b : Bool) → same p.name name ≡ b → b ≡ false
          apart true s = absurd (o (sym (one_place m letter p.name name j k e f (same_true p.name name s))))
          apart false s = refl

  -- a part with one letter does not change which names have a number with another letter
  unmarked : (letter other : Letter) (marks : List Bool) (before : List (PartOf F)) (p : PartOf F) (name : Name) (k : ℕ) →
      p.letter ≡ other → same_letter other letter ≡ false → get_or marks k false ≡ is_given letter name before →
      get_or marks k false ≡ is_given letter name (before ++ p ∷ [])
  unmarked letter other marks before p name k e l w =
      either _ (is_given letter name before) _ w
      (ap (λ b. b && same p.name name) (ap (λ a. same_letter a letter) e ∙ l))
      ∙ sym (any_more (λ q. same_letter q.letter letter && same q.name name) before p)

  -- where the notes say which names the parts give a number, they do with one more part once its place is noted
  pub mark_more : (m : Model) (before : List (PartOf F)) (p : PartOf F) (j : ℕ) (g : Given) →
      place_of m p.letter p.name ≡ Some j → j < length (marks_of p.letter g) → AreMarks m before g →
      AreMarks m (before ++ p ∷ []) (with_mark p.letter j g)
  mark_more m before p j g e h w = by p.letter refl
    where
      by : (letter : Letter) → p.letter ≡ letter → AreMarks m (before ++ p ∷ []) (with_mark letter j g)
      by X s X name k f =
          marked m X g.x before p j (ap (λ a. same_letter a X) s) (subst (λ a. place_of m a p.name ≡ Some j) s e)
          (subst (λ a. j < length (marks_of a g)) s h) (w X) name k f
      by X s Y name k f = unmarked Y X g.y before p name k s refl (w Y name k f)
      by X s R name k f = unmarked R X g.r before p name k s refl (w R name k f)
      by Y s X name k f = unmarked X Y g.x before p name k s refl (w X name k f)
      by Y s Y name k f =
          marked m Y g.y before p j (ap (λ a. same_letter a Y) s) (subst (λ a. place_of m a p.name ≡ Some j) s e)
          (subst (λ a. j < length (marks_of a g)) s h) (w Y) name k f
      by Y s R name k f = unmarked R Y g.r before p name k s refl (w R name k f)
      by R s X name k f = unmarked X R g.x before p name k s refl (w X name k f)
      by R s Y name k f = unmarked Y R g.y before p name k s refl (w Y name k f)
      by R s R name k f =
          marked m R g.r before p j (ap (λ a. same_letter a R) s) (subst (λ a. place_of m a p.name ≡ Some j) s e)
          (subst (λ a. j < length (marks_of a g)) s h) (w R) name k f

pub marked_has : (m : Model) (letter : Letter) (k : ℕ) (g : Given) → HasMarks m g → HasMarks m (with_mark letter k g)
marked_has m X k g h X = length-set g.x k true ∙ h X
marked_has m X k g h Y = h Y
marked_has m X k g h R = h R
marked_has m Y k g h X = h X
marked_has m Y k g h Y = length-set g.y k true ∙ h Y
marked_has m Y k g h R = h R
marked_has m R k g h X = h X
marked_has m R k g h Y = h Y
marked_has m R k g h R = length-set g.r k true ∙ h R

pub nothing_has : (m : Model) (g : Given) → g.x ≡ replicate (width m) false → g.y ≡ replicate (height m) false →
    g.r ≡ replicate (width m) false → HasMarks m g
nothing_has m g e f h X = ap length e ∙ length-replicate (width m) false
nothing_has m g e f h Y = ap length f ∙ length-replicate (height m) false
nothing_has m g e f h R = ap length h ∙ length-replicate (width m) false
