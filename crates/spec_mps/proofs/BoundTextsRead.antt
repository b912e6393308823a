-- The fields of a card of BOUNDS, read in both forms.
--
-- `kind_is`: a kind of bounds that the reader takes a word for is the kind that the word means.
-- `texts_are`: the set, the column and the value that the reader takes of a card are those that its fields mean.
use Rattle.std.proofs.Common.{◌≡◌, ℕ, suc, Bool, true, false, ◌||◌, cond, Some, Ok, Err}
use Rattle.std.proofs.Common.{List, [], ◌∷◌, length, refl, sym, ap, ◌∙◌, subst, codes, arith}
use Rattle.std.specs.List.{filter, list_any}
use Rattle.std.proofs.lemmas.Option.{same_Some}
use Rattle.spec_text.specs.Words.{same}
use Rattle.spec_text.proofs.WordLemmas.{same_true}
use Rattle.spec_mps.specs.declared.fault.Code.TheVariants as code
use Rattle.spec_mps.specs.declared.bound_kind.BoundKind.{BoundKind}
use Rattle.spec_mps.specs.declared.bound_kind.BoundKind.TheVariants.{Up, Lo, Fx, Fr, Mi, Pl}
use Rattle.spec_mps.specs.declared.style.Style.{Style}
use Rattle.spec_mps.specs.declared.style.Style.TheVariants.{Free, Fixed}
use Rattle.spec_mps.specs.Fields.{Fields, numbers_of, texts_of}
use Rattle.spec_mps.specs.Checks.{Check}
use Rattle.spec_mps.specs.Shapes.{bound_kinds, look_up, bound_kind_of, bound_shapes, has_shape}
use Rattle.spec_mps.specs.Bounds.{BoundTexts, takes_value, is_read, bound_texts_by, bound_texts}
use Rattle.spec_mps.proofs.CheckSteps.{need_ok, same_ok}
use Rattle.spec_mps.specs.BoundCards.{kind_of, has_value, bound_texts_on}

-- ---- the kind

-- the word for a kind of bounds on a card
abbrev kind_word : BoundKind → List ℕ
kind_word Up = codes "UP"
kind_word Lo = codes "LO"
kind_word Fx = codes "FX"
kind_word Fr = codes "FR"
kind_word Mi = codes "MI"
kind_word Pl = codes "PL"

-- in this table, each word beside which a kind of bounds stands is the word of that kind
abbrev AllSay : List (List ℕ × Check BoundKind) → Type 0
AllSay [] = Unit {0}
AllSay (x ∷ xs) = ((kind : BoundKind) → x.1 ≡ Ok kind → x.0 ≡ kind_word kind) × AllSay xs

-- a word that a table of kinds knows is the word of the kind found
looked_up : (word : List ℕ) (kind : BoundKind) (found : Check BoundKind) (table : List (List ℕ × Check BoundKind)) →
    look_up word table ≡ Some found → AllSay table → found ≡ Ok kind → word ≡ kind_word kind
looked_up word kind found [] h a e = absurd (cc)
looked_up word kind found (x ∷ xs) h a e = go (same word x.0) refl (λ k. looked_up word kind found xs k a.1) h
  where
    go : (b : Bool) → same word x.0 ≡ b → (look_up word xs ≡ Some found → found ≡ Ok kind → word ≡ kind_word kind) →
        cond b (Some x.1) (look_up word xs) ≡ Some found → word ≡ kind_word kind
    go true f g k = same_true word x.0 f ∙ a.0 kind (same_Some x.1 found k ∙ e)
    go false f g k = g k e

-- two kinds that are equal as results have the same word
word_of : (kind : BoundKind) (other : BoundKind) → (let r : Check BoundKind = Ok kind in r) ≡ Ok other →
    kind_word kind ≡ kind_word other
word_of kind other h = ap kind_word (same_ok kind other h)

-- a word that is read as a kind of bounds is that kind's word
word_is : (word : List ℕ) (kind : BoundKind) → bound_kind_of word ≡ Ok kind → word ≡ kind_word kind
unfolding bound_kind_of
word_is word kind h =
    let a = need_ok (look_up word bound_kinds) code.BoundKind (λ k. k) kind h in
    looked_up word kind a.0 bound_kinds a.1 (
      word_of Up,
      (
        word_of Lo,
        (
          word_of Fx,
          (
            word_of Fr,
            (
              word_of Mi,
              (word_of Pl, (λ k e. absurd (cc), (λ k e. absurd (cc), (λ k e. absurd (cc), (λ k e. absurd (cc), tt))))),
            ),
          ),
        ),
      ),
    ) a.2

-- the word of each kind of bounds means that kind
kind_of_word : (kind : BoundKind) → kind_of (kind_word kind) ≡ Some kind
unfolding kind_of
kind_of_word Up = refl
kind_of_word Lo = refl
kind_of_word Fx = refl
kind_of_word Fr = refl
kind_of_word Mi = refl
kind_of_word Pl = refl

pub kind_is : (word : List ℕ) (kind : BoundKind) → bound_kind_of word ≡ Ok kind → kind_of word ≡ Some kind
kind_is word kind h = ap kind_of (word_is word kind h) ∙ kind_of_word kind

-- ---- fields by their numbers

-- these texts as fields with these numbers, as far as both lists go
abbrev numbered : List ℕ → List (List ℕ) → Fields
numbered [] texts = []
numbered (n ∷ ns) [] = []
numbered (n ∷ ns) (text ∷ texts) = record { number = n; text = text } ∷ numbered ns texts

-- the texts of fields, numbered as the fields are, are the fields
numbered_are : (fields : Fields) → fields ≡ numbered (numbers_of fields) (texts_of fields)
numbered_are [] = refl
numbered_are (f ∷ fields) = ap (λ fs. f ∷ fs) (numbered_are fields)

-- fields have as many texts as numbers
many : (fields : Fields) → length (texts_of fields) ≡ length (numbers_of fields)
many [] = refl
many (f ∷ fields) = ap suc (many fields)

-- the property holds of fields of each of these shapes, whatever their texts are
abbrev AllShapes : (Fields → Type 0) → List (List ℕ) → Type 0
AllShapes P [] = Unit {0}
AllShapes P (shape ∷ shapes) =
    ((texts : List (List ℕ)) → length texts ≡ length shape → P (numbered shape texts)) × AllShapes P shapes

-- fields whose numbers are one of some shapes have what all such fields have
any_shape : (P : Fields → Type 0) (fields : Fields) (shapes : List (List ℕ)) → AllShapes P shapes →
    list_any (same (numbers_of fields)) shapes ≡ true → P fields
any_shape P fields [] a h = absurd (cc)
any_shape P fields (shape ∷ shapes) a h = go (same (numbers_of fields) shape) refl (any_shape P fields shapes a.1) h
  where
    go : (b : Bool) → same (numbers_of fields) shape ≡ b →
        (list_any (same (numbers_of fields)) shapes ≡ true → P fields) →
        (b || list_any (same (numbers_of fields)) shapes) ≡ true → P fields
    go true e f k =
        let numbers = same_true (numbers_of fields) shape e in
        subst P (sym (numbered_are fields ∙ ap (λ ns. numbered ns (texts_of fields)) numbers))
        (a.0 (texts_of fields) (many fields ∙ ap length numbers))
    go false e f k = f k

-- what holds of any two texts holds of a list of texts of length 2
of_two : (Q : List (List ℕ) → Type 0) → ((a b : List ℕ) → Q (a ∷ b ∷ [])) → (texts : List (List ℕ)) → length texts ≡ 2 →
    Q texts
of_two Q f [] h = absurd (omega arith)
of_two Q f (a ∷ []) h = absurd (omega arith)
of_two Q f (a ∷ b ∷ []) h = f a b
of_two Q f (a ∷ b ∷ c ∷ more) h = absurd (omega arith)

-- what holds of any three texts holds of a list of texts of length 3
of_three : (Q : List (List ℕ) → Type 0) → ((a b c : List ℕ) → Q (a ∷ b ∷ c ∷ [])) → (texts : List (List ℕ)) →
    length texts ≡ 3 → Q texts
of_three Q f [] h = absurd (omega arith)
of_three Q f (a ∷ more) h = of_two (λ texts. Q (a ∷ texts)) (f a) more (omega arith)

-- what holds of any four texts holds of a list of texts of length 4
of_four : (Q : List (List ℕ) → Type 0) → ((a b c d : List ℕ) → Q (a ∷ b ∷ c ∷ d ∷ [])) → (texts : List (List ℕ)) →
    length texts ≡ 4 → Q texts
of_four Q f [] h = absurd (omega arith)
of_four Q f (a ∷ more) h = of_three (λ texts. Q (a ∷ texts)) (f a) more (omega arith)

-- ---- set, column and value

-- where the reader takes these texts from the fields of a card of this kind, the fields mean these texts
abbrev IsRead : Style → BoundKind → BoundTexts → Fields → Type 0
IsRead style kind texts fields =
    bound_texts_by (takes_value kind) (texts_of (filter (λ f. is_read kind f.number) fields)) ≡ Ok texts →
    bound_texts_on style (takes_value kind) fields ≡ texts

-- the texts of bounds that are equal as results are equal
texts_same : (a b : BoundTexts) → (let r : Check BoundTexts = Ok a in r) ≡ Ok b → a ≡ b
texts_same a b h = same_ok a b h

-- fields of each shape of BOUNDS mean the texts that the reader takes from them
read_by_shape : (style : Style) (kind : BoundKind) (texts : BoundTexts) →
    AllShapes (IsRead style kind texts) (bound_shapes style kind)
read_by_shape Free Up texts =
    (of_three _ (λ a b c h. texts_same _ texts h), (of_four _ (λ a b c d h. texts_same _ texts h), tt))
read_by_shape Free Lo texts =
    (of_three _ (λ a b c h. texts_same _ texts h), (of_four _ (λ a b c d h. texts_same _ texts h), tt))
read_by_shape Free Fx texts =
    (of_three _ (λ a b c h. texts_same _ texts h), (of_four _ (λ a b c d h. texts_same _ texts h), tt))
read_by_shape Free Fr texts =
    (of_two _ (λ a b h. texts_same _ texts h), (of_three _ (λ a b c h. texts_same _ texts h), tt))
read_by_shape Free Mi texts =
    (of_two _ (λ a b h. texts_same _ texts h), (of_three _ (λ a b c h. texts_same _ texts h), tt))
read_by_shape Free Pl texts =
    (of_two _ (λ a b h. texts_same _ texts h), (of_three _ (λ a b c h. texts_same _ texts h), tt))
read_by_shape Fixed Up texts =
    (of_three _ (λ a b c h. texts_same _ texts h), (of_four _ (λ a b c d h. texts_same _ texts h), tt))
read_by_shape Fixed Lo texts =
    (of_three _ (λ a b c h. texts_same _ texts h), (of_four _ (λ a b c d h. texts_same _ texts h), tt))
read_by_shape Fixed Fx texts =
    (of_three _ (λ a b c h. texts_same _ texts h), (of_four _ (λ a b c d h. texts_same _ texts h), tt))
read_by_shape Fixed Fr texts = (
  of_two _ (λ a b h. texts_same _ texts h),
  (
    of_three _ (λ a b c h. texts_same _ texts h),
    (of_three _ (λ a b c h. texts_same _ texts h), (of_four _ (λ a b c d h. texts_same _ texts h), tt)),
  ),
)
read_by_shape Fixed Mi texts = (
  of_two _ (λ a b h. texts_same _ texts h),
  (
    of_three _ (λ a b c h. texts_same _ texts h),
    (of_three _ (λ a b c h. texts_same _ texts h), (of_four _ (λ a b c d h. texts_same _ texts h), tt)),
  ),
)
read_by_shape Fixed Pl texts = (
  of_two _ (λ a b h. texts_same _ texts h),
  (
    of_three _ (λ a b c h. texts_same _ texts h),
    (of_three _ (λ a b c h. texts_same _ texts h), (of_four _ (λ a b c d h. texts_same _ texts h), tt)),
  ),
)

-- a kind of bounds means a value just where the reader takes one
valued_as : (kind : BoundKind) → has_value kind ≡ takes_value kind
valued_as Up = refl
valued_as Lo = refl
valued_as Fx = refl
valued_as Fr = refl
valued_as Mi = refl
valued_as Pl = refl

pub texts_are : (style : Style) (kind : BoundKind) (fields : Fields) (texts : BoundTexts) →
    bound_texts style kind fields ≡ Ok texts → bound_texts_on style (has_value kind) fields ≡ texts
unfolding bound_texts has_shape
texts_are style kind fields texts h =
    ap (λ valued. bound_texts_on style valued fields) (valued_as kind)
    ∙ go (list_any (same (numbers_of fields)) (bound_shapes style kind)) refl h
  where
    go : (b : Bool) → list_any (same (numbers_of fields)) (bound_shapes style kind) ≡ b →
        cond b (bound_texts_by (takes_value kind) (texts_of (filter (λ f. is_read kind f.number) fields)))
        (Err code.CardShape) ≡ Ok texts →
        bound_texts_on style (takes_value kind) fields ≡ texts
    go true e k =
        any_shape (IsRead style kind texts) fields (bound_shapes style kind) (read_by_shape style kind texts) e k
    go false e k = absurd (cc)
