-- The numbers that pairs give to rows, one pair after another.
--
-- `number_is`: a text that the reader takes as a number is read as that number.
-- `texts_none`: no pairs have no texts for a name.
-- `put_set`: setting the number of a row or of the objective leaves the set that is used.
use Rattle.std.proofs.Common.{◌≡◌, ℕ, Bool, true, false, cond, eqb→eq, eq-eqb, Some, Ok, List}
use Rattle.std.proofs.Common.{[], ◌∷◌, ◌++◌, map, refl, sym, ap, ◌∙◌, subst, subst₂, append-nil, T}
use Rattle.std.specs.List.{filter}
use Rattle.std.proofs.lemmas.List.{map-append}
use Rattle.std.proofs.lemmas.List.Elements.{filter-append}
use Rattle.std.proofs.lemmas.Bool.{or_parts}
use Rattle.spec_text.specs.Words.{same}
use Rattle.spec_text.proofs.WordLemmas.{same_true, same-refl}
use Rattle.spec_exact.specs.Fraction.{ℚ}
use Rattle.spec_model.specs.declared.parts.Kind.{Kind}
use Rattle.spec_model.specs.Model.{Name}
use Rattle.spec_mps.specs.declared.target.Target.{Target}
use Rattle.spec_mps.specs.declared.target.Target.TheVariants.{Objective, Row}
use Rattle.spec_mps.specs.NumberText.{NumberReading, Is, Shape, Wide, number_of, answer}
use Rattle.spec_mps.specs.Checks.{coded}
use Rattle.spec_mps.specs.Reader.{State, number_in, same_target, is_among}
use Rattle.spec_mps.proofs.CheckSteps.{same_ok}
use Rattle.spec_mps.specs.NumberCards.{Pairs, texts_for}
use Rattle.spec_mps.proofs.Order.{not_both}
use Rattle.spec_mps.proofs.RowViews.{RowView, row_view, place_in, one_name, one_target, counts, StandsFor}

-- ---- numbers

-- a text whose reading gives a number without fault is read as that number
number_read : (reading : NumberReading) (v : ℚ) → coded (answer reading) ≡ Ok v → reading ≡ Is v
number_read (Is q) v h = ap (λ x. Is x) (same_ok q v h)
number_read Shape v h = absurd (cc)
number_read Wide v h = absurd (cc)

pub number_is : (text : List ℕ) (v : ℚ) → number_in text ≡ Ok v → number_of text ≡ Is v
unfolding number_in
number_is text v h = number_read (number_of text) v h

-- ---- texts beside a name

-- the texts of a pair that may be left out are the pair's text, or none
one_or_none : (b : Bool) (pair : List ℕ × List ℕ) →
    map (λ (p : List ℕ × List ℕ). p.1) (cond b (pair ∷ []) []) ≡ cond b (pair.1 ∷ []) []
one_or_none true pair = refl
one_or_none false pair = refl

-- one more pair adds its text to a name's texts just where it has that name
texts_push : (name : Name) (pairs : Pairs) (pair : List ℕ × List ℕ) →
    texts_for name (pairs ++ pair ∷ []) ≡ texts_for name pairs ++ cond (same pair.0 name) (pair.1 ∷ []) []
unfolding texts_for
texts_push name pairs pair =
    ap (map (λ (p : List ℕ × List ℕ). p.1)) (filter-append (λ (p : List ℕ × List ℕ). same p.0 name) pairs (pair ∷ []))
    ∙ map-append (λ (p : List ℕ × List ℕ). p.1)
    (filter (λ p. same p.0 name) pairs) (cond (same pair.0 name) (pair ∷ []) [])
    ∙ ap (λ more. texts_for name pairs ++ more) (one_or_none (same pair.0 name) pair)

pub texts_none : (name : Name) → texts_for name [] ≡ []
unfolding texts_for
texts_none name = refl

-- the texts beside a name are as before with one more pair of another name
texts_same : (name : Name) (pairs : Pairs) (pair : List ℕ × List ℕ) → same pair.0 name ≡ false →
    texts_for name (pairs ++ pair ∷ []) ≡ texts_for name pairs
texts_same name pairs pair h =
    texts_push name pairs pair ∙ ap (λ b. texts_for name pairs ++ cond b (pair.1 ∷ []) []) h
    ∙ append-nil (texts_for name pairs)

-- a pair of a name without texts gives that name its one text
texts_one : (name : Name) (pairs : Pairs) (pair : List ℕ × List ℕ) → same pair.0 name ≡ true →
    texts_for name pairs ≡ [] → texts_for name (pairs ++ pair ∷ []) ≡ pair.1 ∷ []
texts_one name pairs pair h e = texts_push name pairs pair ∙ (λ i. e i ++ cond (h i) (pair.1 ∷ []) [])

-- ---- targets

-- two targets that are the same by the test are the same
same_target_true : (t u : Target) → same_target t u ≡ true → t ≡ u
same_target_true Objective Objective h = refl
same_target_true Objective (Row j) h = absurd (cc)
same_target_true (Row i) Objective h = absurd (cc)
same_target_true (Row i) (Row j) h = ap (λ k. Row k) (eqb→eq i j (subst T (sym h) tt))

-- each target is the same as itself by the test
same_target_itself : (t : Target) → same_target t t ≡ true
same_target_itself Objective = refl
same_target_itself (Row i) = eq-eqb i i refl

-- ---- one pair

-- what a number v at target x did from u to w: nothing, where x is a row of a kind that does not count; else x has the
-- value v and is noted, and all other targets keep their values
pub data Put (V : Type 0) (value_of : State → Target → V) (counted : Kind → Bool)
    (u : State) (x : Target) (v : V) (w : State) : Type 0 where
  PutNowhere : (off : counts counted (row_view u) x ≡ false) → (same : u ≡ w) → Put V value_of counted u x v w
  PutAt : (new : is_among x u.paired ≡ false) → (paired : w.paired ≡ x ∷ u.paired) → (set : w.set ≡ u.set) →
      (view : row_view w ≡ row_view u) → (here : value_of w x ≡ v) →
      (elsewhere : (t : Target) → same_target t x ≡ false → value_of w t ≡ value_of u t) →
      Put V value_of counted u x v w

-- the value of each target that counts is what these pairs say for its name, and the pairs say nothing for a target
-- that is not noted
pub record Tells (V : Type 0) (value_of : State → Target → V) (IsNumber : List (List ℕ) → V → Type 0)
    (counted : Kind → Bool) (view : RowView) (pairs : Pairs) (u : State) : Type 0 where
  pub view_is : row_view u ≡ view
  pub numbers : (name : Name) (t : Target) → StandsFor counted view name t →
      IsNumber (texts_for name pairs) (value_of u t)
  pub unpaired : (name : Name) (t : Target) → StandsFor counted view name t → is_among t u.paired ≡ false →
      texts_for name pairs ≡ []

pub put_set : (V : Type 0) (value_of : State → Target → V) (counted : Kind → Bool)
    (u : State) (x : Target) (v : V) (w : State) → Put V value_of counted u x v w → w.set ≡ u.set
put_set V value_of counted u x v w (PutNowhere off same) = ap (λ (x : State). x.set) (sym same)
put_set V value_of counted u x v w (PutAt new paired set same_view here elsewhere) = set

module _ {V : Type 0} {value_of : State → Target → V} {IsNumber : List (List ℕ) → V → Type 0} (counted : Kind → Bool)
    (view : RowView) (pairs : Pairs) (u w : State) (pair : List ℕ × List ℕ)
    (x : Target) (v : V) (at : place_in view pair.0 ≡ Some x)
    (one : IsNumber (pair.1 ∷ []) v) (k : Tells V value_of IsNumber counted view pairs u) where
  -- a target that the pair's name stands for is the pair's target
  own_target : (name : Name) (t : Target) → place_in view name ≡ Some t → same pair.0 name ≡ true → t ≡ x
  own_target name t h f = one_target view name t x h (ap (place_in view) (sym (same_true pair.0 name f)) ∙ at)

  -- a name that stands for another target than the pair's name does is another name
  other_name : (name : Name) (t : Target) → place_in view name ≡ Some t → same_target t x ≡ false →
      same pair.0 name ≡ false
  other_name name t h ne = by (same pair.0 name) refl
    where
      by : (b : Bool) → same pair.0 name ≡ b → b ≡ false
      by true f =
          not_both (same_target t x)
          (ap (λ y. same_target t y) (sym (own_target name t h f)) ∙ same_target_itself t) ne
      by false f = refl

  -- a name that stands for the target of the pair's name is the pair's name
  own_name : (name : Name) (t : Target) → place_in view name ≡ Some t → t ≡ x → same pair.0 name ≡ true
  own_name name t h same_t =
      ap (λ n. same n name) (one_name view pair.0 name t (at ∙ ap (λ y. Some y) (sym same_t)) h) ∙ same-refl name

  at_target : is_among x u.paired ≡ false → w.paired ≡ x ∷ u.paired → row_view w ≡ row_view u → value_of w x ≡ v →
      ((t : Target) → same_target t x ≡ false → value_of w t ≡ value_of u t) →
      Tells V value_of IsNumber counted view (pairs ++ pair ∷ []) w
  at_target new paired same_view here elsewhere =
      record {
        view_is = same_view ∙ k.view_is;
        numbers = λ name t h. by name t h (same_target t x) refl;
        unpaired = λ name t h free.
            let f = or_parts (same_target t x) (is_among t u.paired) (ap (is_among t) (sym paired) ∙ free) in
            texts_same name pairs pair (other_name name t h.0 f.0) ∙ k.unpaired name t h f.1;
      }
    where
      by : (name : Name) (t : Target) → StandsFor counted view name t → (b : Bool) → same_target t x ≡ b →
          IsNumber (texts_for name (pairs ++ pair ∷ [])) (value_of w t)
      by name t h true f =
          let same_t : t ≡ x = same_target_true t x f in
          let none : texts_for name pairs ≡ [] = k.unpaired name t h (ap (λ y. is_among y u.paired) same_t ∙ new) in
          subst₂ IsNumber (sym (texts_one name pairs pair (own_name name t h.0 same_t) none))
          (sym (ap (value_of w) same_t ∙ here)) one
      by name t h false f =
          subst₂ IsNumber (sym (texts_same name pairs pair (other_name name t h.0 f)))
          (sym (elsewhere t f)) (k.numbers name t h)

  nowhere : counts counted view x ≡ false → Tells V value_of IsNumber counted view (pairs ++ pair ∷ []) u
  nowhere off =
      record {
        view_is = k.view_is;
        numbers =
            λ name t h. subst (λ texts. IsNumber texts (value_of u t))
            (sym (texts_same name pairs pair (differs name t h (same pair.0 name) refl))) (k.numbers name t h);
        unpaired =
            λ name t h free. texts_same name pairs pair (differs name t h (same pair.0 name) refl)
            ∙ k.unpaired name t h free;
      }
    where
      differs : (name : Name) (t : Target) → StandsFor counted view name t → (b : Bool) → same pair.0 name ≡ b →
          b ≡ false
      differs name t h true f =
          not_both (counts counted view t) h.1 (ap (counts counted view) (own_target name t h.0 f) ∙ off)
      differs name t h false f = refl

  -- where the values of targets are what some pairs say, they are what these and one more pair say after its number was
  -- put at its target
  pub tells_push : Put V value_of counted u x v w → Tells V value_of IsNumber counted view (pairs ++ pair ∷ []) w
  tells_push (PutNowhere off same) =
      subst (Tells V value_of IsNumber counted view (pairs ++ pair ∷ [])) same
      (nowhere (ap (λ y. counts counted y x) (sym k.view_is) ∙ off))
  tells_push (PutAt new paired set same_view here elsewhere) = at_target new paired same_view here elsewhere
