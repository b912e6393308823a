-- The columns that cards name, their pairs, and entries that are put at their place.
--
-- `column_is`: the column's name and the pairs of a card that has a shape are those that the reader takes.
-- `pairs_push`: one more card adds its pairs to those of the column that it names, and to no other's.
-- `named_push`: after one more card a name is named where it was, or where the card names it.
-- `firsts_push`: one more card adds its column to the named ones, unless that is named already.
-- `not_named`: a name that differs from all named columns is on no card.
-- `unnamed_pairs`: a column that no card names has no pairs.
-- `none_named`: no cards name no columns.
-- `put_non_zero`: entries that are not 0 stay so with another such entry inserted among them.
-- `put_here`: a number that is set for a row without an entry is the entry of that row.
-- `put_there`: a number that is set for one row leaves the entry of each other row.
use Rattle.std.proofs.Common.{◌≡◌, ◌≢◌, ℕ, ◌≤◌, Bool, true, false, not, ◌||◌, cond, eqb, eq-eqb, ltb, List, []}
use Rattle.std.proofs.Common.{◌∷◌, ◌++◌, length, map, refl, sym, ap, ◌∙◌, subst, arith, append-nil, All, Ok}
use Rattle.std.specs.List.{filter, flat_map, list_any}
use Rattle.std.proofs.lemmas.List.{map-append}
use Rattle.std.proofs.lemmas.List.Elements.{filter-append, All-nil, All-cons, All-head, All-tail}
use Rattle.std.proofs.lemmas.Grind.{flat_map-append}
use Rattle.spec_text.specs.Words.{same}
use Rattle.spec_text.proofs.WordLemmas.{same_true}
use Rattle.spec_exact.specs.Fraction.{ℚ, 0ℚ}
use Rattle.spec_model.specs.Model.{Name, entry_of}
use Rattle.spec_mps.specs.declared.section.Section.TheVariants as section
use Rattle.spec_mps.specs.declared.style.Style.{Style}
use Rattle.spec_mps.specs.declared.style.Style.TheVariants.{Free, Fixed}
use Rattle.spec_mps.specs.Fields.{Fields, texts_of}
use Rattle.spec_mps.specs.Shapes.{has_shape, shapes_of, shaped}
use Rattle.spec_mps.specs.Reader.{pairs_of, put_entry}
use Rattle.spec_mps.specs.NumberCards.{Pairs}
use Rattle.spec_mps.specs.ColumnCards.{column_of, column_on, numbers_on, firsts, named_columns, pairs_of_column}
use Rattle.spec_mps.proofs.SetsKept.{has_its_shape, shape_length}

-- ---- the fields of a card

-- a card of COLUMNS has so many fields: three or five
abbrev IsColumnCount : ℕ → Type 0
IsColumnCount n = (3 ≤ n) × (n ≤ 5) × (n ≢ 4)

-- 3 is a number of texts that a card of COLUMNS may have
three : IsColumnCount 3
three = (omega arith, omega arith, λ e. absurd (omega arith))

-- 5 is a number of texts that a card of COLUMNS may have
five : IsColumnCount 5
five = (omega arith, omega arith, λ e. absurd (omega arith))

-- fields of a shape of COLUMNS have 3 or 5 texts
counts_column : (style : Style) (fields : Fields) → has_shape (shapes_of style section.Columns) fields ≡ true →
    IsColumnCount (length (texts_of fields))
counts_column Free fields h = shape_length IsColumnCount _ fields (three, (five, tt)) h
counts_column Fixed fields h = shape_length IsColumnCount _ fields (three, (five, tt)) h

-- these texts of a card of COLUMNS name this column, and have these pairs
pub record IsColumn (texts : List (List ℕ)) (name : Name) (pairs : Pairs) : Type 0 where
  pub column_is : (column_of texts).column ≡ name
  pub pairs_are : (column_of texts).pairs ≡ pairs

-- 3 or 5 texts give the first as the column and the others as the pairs
column_by_count : (name : List ℕ) (more : List (List ℕ)) → IsColumnCount (length (name ∷ more)) →
    IsColumn (name ∷ more) name (pairs_of more)
column_by_count name [] h = absurd (omega (arith, h.0))
column_by_count name (a ∷ []) h = absurd (omega (arith, h.0))
column_by_count name (a ∷ b ∷ []) h = record { column_is = refl; pairs_are = refl }
column_by_count name (a ∷ b ∷ c ∷ []) h = absurd (h.2 refl)
column_by_count name (a ∷ b ∷ c ∷ d ∷ []) h = record { column_is = refl; pairs_are = refl }
column_by_count name (a ∷ b ∷ c ∷ d ∷ e ∷ more) h = absurd (omega (arith, h.1))

pub column_is : (style : Style) (fields : Fields) (texts : List (List ℕ)) (name : List ℕ) (more : List (List ℕ)) →
    shaped style section.Columns fields ≡ Ok texts → texts_of fields ≡ name ∷ more →
    IsColumn (texts_of fields) name (pairs_of more)
column_is style fields texts name more h e =
    let count = counts_column style fields (has_its_shape style section.Columns fields texts h) in
    subst (λ xs. IsColumn xs name (pairs_of more)) (sym e)
    (column_by_count name more (subst (λ xs. IsColumnCount (length xs)) e count))

-- ---- the pairs of a column

-- the pairs on a card that may be left out are the card's, or none
flat_one : (b : Bool) (card : Fields) → flat_map numbers_on (cond b (card ∷ []) []) ≡ cond b (numbers_on card) []
flat_one true card = append-nil (numbers_on card)
flat_one false card = refl

pub pairs_push : (name : Name) (cards : List Fields) (card : Fields) →
    pairs_of_column name (cards ++ card ∷ [])
    ≡ pairs_of_column name cards ++ cond (same (column_on card) name) (numbers_on card) []
unfolding pairs_of_column
pairs_push name cards card =
    ap (flat_map numbers_on) (filter-append (λ other. same (column_on other) name) cards (card ∷ []))
    ∙ flat_map-append numbers_on (filter (λ other. same (column_on other) name) cards)
    (cond (same (column_on card) name) (card ∷ []) [])
    ∙ ap (λ more. pairs_of_column name cards ++ more) (flat_one (same (column_on card) name) card)

-- ---- names in the order of their first mention

-- whether one of these cards of COLUMNS names this column
abbrev pub is_named : Name → List Fields → Bool
is_named name cards = list_any (λ other. same other name) (map column_on cards)

-- names with one more have a name that they had, or that is the new one
any_push : (name : Name) (xs : List Name) (y : Name) →
    list_any (λ other. same other name) (xs ++ y ∷ []) ≡ (list_any (λ other. same other name) xs || same y name)
any_push name [] y = by (same y name)
  where
    by : (b : Bool) → (b || false) ≡ b
    by true = refl
    by false = refl
any_push name (x ∷ xs) y =
    ap (λ b. same x name || b) (any_push name xs y)
    ∙ by (same x name) (list_any (λ other. same other name) xs) (same y name)
  where
    by : (a b c : Bool) → (a || (b || c)) ≡ ((a || b) || c)
    by true b c = refl
    by false b c = refl

pub named_push : (name : Name) (cards : List Fields) (card : Fields) →
    is_named name (cards ++ card ∷ []) ≡ (is_named name cards || same (column_on card) name)
named_push name cards card =
    ap (list_any (λ other. same other name)) (map-append column_on cards (card ∷ []))
    ∙ any_push name (map column_on cards) (column_on card)

-- one more name is a first mention just where it was not mentioned before
firsts_add : (name : Name) (xs : List Name) →
    firsts (xs ++ name ∷ []) ≡ firsts xs ++ cond (list_any (λ other. same other name) xs) [] (name ∷ [])
firsts_add name [] = refl
firsts_add name (x ∷ xs) =
    ap (λ names. x ∷ filter (λ other. not (same x other)) names) (firsts_add name xs)
    ∙ ap (λ names. x ∷ names)
    (filter-append (λ other. not (same x other)) (firsts xs)
    (cond (list_any (λ other. same other name) xs) [] (name ∷ []))
    ∙ ap (λ more. filter (λ other. not (same x other)) (firsts xs) ++ more)
    (by (list_any (λ other. same other name) xs) (same x name) refl))
  where
    by : (known first : Bool) → same x name ≡ first →
        filter (λ other. not (same x other)) (cond known [] (name ∷ [])) ≡ cond (first || known) [] (name ∷ [])
    by true true e = refl
    by true false e = refl
    by false true e = ap (λ b. cond (not b) (name ∷ []) []) e
    by false false e = ap (λ b. cond (not b) (name ∷ []) []) e

pub firsts_push : (cards : List Fields) (card : Fields) →
    named_columns (cards ++ card ∷ [])
    ≡ named_columns cards ++ cond (is_named (column_on card) cards) [] (column_on card ∷ [])
unfolding named_columns
firsts_push cards card =
    ap firsts (map-append column_on cards (card ∷ [])) ∙ firsts_add (column_on card) (map column_on cards)

-- a name that is not among the first mentions of a list of names is not mentioned in it
not_first : (name : Name) (xs : List Name) → All (λ x. same x name ≡ false) (firsts xs) →
    list_any (λ other. same other name) xs ≡ false
not_first name [] h = refl
not_first name (x ∷ xs) h =
    let head : same x name ≡ false =
    All-head (λ x. same x name ≡ false) x (filter (λ other. not (same x other)) (firsts xs)) h in
    let tail = All-tail (λ x. same x name ≡ false) x (filter (λ other. not (same x other)) (firsts xs)) h in
    (λ i. head i || not_first name xs (unfiltered (firsts xs) head tail) i)
  where
    unfiltered : (ys : List Name) → same x name ≡ false →
        All (λ y. same y name ≡ false) (filter (λ other. not (same x other)) ys) → All (λ y. same y name ≡ false) ys
    unfiltered [] e h = All-nil (λ y. same y name ≡ false)
    unfiltered (y ∷ ys) e h = by (same x y) refl h (λ k. unfiltered ys e k)
      where
        by : (b : Bool) → same x y ≡ b →
            All (λ y. same y name ≡ false)
            (cond (not b) (y ∷ filter (λ other. not (same x other)) ys) (filter (λ other. not (same x other)) ys)) →
            (All (λ y. same y name ≡ false) (filter (λ other. not (same x other)) ys) →
            All (λ y. same y name ≡ false) ys) →
            All (λ y. same y name ≡ false) (y ∷ ys)
        by true f h g =
            All-cons (λ y. same y name ≡ false) y ys (ap (λ z. same z name) (sym (same_true x y f)) ∙ e) (g h)
        by false f h g =
            All-cons (λ y. same y name ≡ false) y ys (All-head (λ y. same y name ≡ false) y _ h)
            (g (All-tail (λ y. same y name ≡ false) y _ h))

pub not_named : (name : Name) (cards : List Fields) → All (λ x. same x name ≡ false) (named_columns cards) →
    is_named name cards ≡ false
unfolding named_columns
not_named name cards h = not_first name (map column_on cards) h

-- a column that no card names has no pairs
pub unnamed_pairs : (name : Name) (cards : List Fields) → is_named name cards ≡ false → pairs_of_column name cards ≡ []
unfolding pairs_of_column
unnamed_pairs name [] h = refl
unnamed_pairs name (card ∷ cards) h = by (same (column_on card) name) refl h (unnamed_pairs name cards)
  where
    by : (b : Bool) → same (column_on card) name ≡ b → (b || is_named name cards) ≡ false →
        (is_named name cards ≡ false → pairs_of_column name cards ≡ []) →
        flat_map numbers_on (cond b (card ∷ filter (λ card. same (column_on card) name) cards)
        (filter (λ card. same (column_on card) name) cards)) ≡ []
    by true e k f = absurd (cc)
    by false e k f = f k

pub none_named : named_columns [] ≡ []
unfolding named_columns
none_named = refl

-- ---- entries

-- no value of these entries is 0
abbrev pub AreNonZero : List (ℕ × ℚ) → Type 0
AreNonZero [] = Unit {0}
AreNonZero (e ∷ es) = (e.1 ≢ 0ℚ) × AreNonZero es

pub put_non_zero : (i : ℕ) (v : ℚ) (es : List (ℕ × ℚ)) → v ≢ 0ℚ → AreNonZero es → AreNonZero (put_entry i v es)
put_non_zero i v [] z h = (z, tt)
put_non_zero i v (e ∷ es) z h = by (ltb i e.0) (put_non_zero i v es z h.1)
  where
    by : (b : Bool) → AreNonZero (put_entry i v es) → AreNonZero (cond b ((i, v) ∷ e ∷ es) (e ∷ put_entry i v es))
    by true f = (z, h)
    by false f = (h.0, f)

-- what is put where nothing stands
pub put_here : (i : ℕ) (v : ℚ) (es : List (ℕ × ℚ)) → AreNonZero es → entry_of es i ≡ 0ℚ →
    entry_of (put_entry i v es) i ≡ v
put_here i v [] h e = ap (λ b. cond b v 0ℚ) (eq-eqb i i refl)
put_here i v (d ∷ es) h e = by (ltb i d.0) (eqb d.0 i) refl e (put_here i v es h.1)
  where
    by : (b t : Bool) → eqb d.0 i ≡ t → cond t d.1 (entry_of es i) ≡ 0ℚ →
        (entry_of es i ≡ 0ℚ → entry_of (put_entry i v es) i ≡ v) →
        entry_of (cond b ((i, v) ∷ d ∷ es) (d ∷ put_entry i v es)) i ≡ v
    by true t f k g = ap (λ b. cond b v (entry_of (d ∷ es) i)) (eq-eqb i i refl)
    by false true f k g = absurd (h.0 k)
    by false false f k g = ap (λ b. cond b d.1 (entry_of (put_entry i v es) i)) f ∙ g k

pub put_there : (i k : ℕ) (v : ℚ) (es : List (ℕ × ℚ)) → eqb i k ≡ false → entry_of (put_entry i v es) k ≡ entry_of es k
put_there i k v [] h = ap (λ b. cond b v 0ℚ) h
put_there i k v (d ∷ es) h = by (ltb i d.0) (put_there i k v es h)
  where
    by : (b : Bool) → entry_of (put_entry i v es) k ≡ entry_of es k →
        entry_of (cond b ((i, v) ∷ d ∷ es) (d ∷ put_entry i v es)) k ≡ entry_of (d ∷ es) k
    by true g = ap (λ b. cond b v (entry_of (d ∷ es) k)) h
    by false g = ap (λ q. cond (eqb d.0 k) d.1 q) g
