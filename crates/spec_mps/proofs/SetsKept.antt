-- The numbers of the set that is used in RHS or in RANGES.
--
-- `has_its_shape`: a card whose texts the reader takes has one of its section's shapes.
-- `shape_length`: a property of the lengths of all shapes holds of the number of a card's texts.
-- `side_is`: the set and the pairs of a card of RHS or RANGES are those that the reader takes.
-- `same_set_itself`: a set, or the absent one, is the same as itself.
-- `same_set_true`: two sets that pass the reader's test are equal.
-- `same_as`: of two sets `is_same_set`, by which a text's meaning is defined, says what the reader's `same_set` says.
-- `used_push`: one more card adds its pairs to those of the set in use, if it is of that set.
-- `says_skipped`: after a card of another set the numbers are still what the cards that were read say.
use Rattle.std.proofs.Common.{◌≡◌, ℕ, suc, ◌≤◌, Bool, true, false, ◌||◌, cond, Option, Some, None, Ok, Err, List, []}
use Rattle.std.proofs.Common.{◌∷◌, ◌++◌, length, refl, sym, ap, ◌∙◌, subst, subst₂, arith, append-nil, append_assoc}
use Rattle.std.specs.List.{filter, flat_map, list_any}
use Rattle.std.proofs.lemmas.List.Elements.{filter-append}
use Rattle.spec_text.specs.Words.{same}
use Rattle.spec_text.proofs.WordLemmas.{same_true, same-refl}
use Rattle.spec_model.specs.declared.parts.Kind.{Kind}
use Rattle.spec_model.specs.Model.{Name}
use Rattle.spec_mps.specs.declared.section.Section.{Section}
use Rattle.spec_mps.specs.declared.section.Seen.{Seen}
use Rattle.spec_mps.specs.declared.style.Style.{Style}
use Rattle.spec_mps.specs.declared.style.Style.TheVariants.{Free, Fixed}
use Rattle.spec_mps.specs.declared.target.Target.{Target}
use Rattle.spec_mps.specs.declared.fault.Code.TheVariants as code
use Rattle.spec_mps.specs.Fields.{Fields, numbers_of, texts_of}
use Rattle.spec_mps.specs.Shapes.{has_shape, shapes_of, set_shapes, shaped}
use Rattle.spec_mps.specs.Reader.{State, is_among}
use Rattle.spec_mps.specs.Sides.{set_and_pairs, same_set, is_used}
use Rattle.spec_mps.proofs.Sets.{Sets, part_of, shapes_are}
use Rattle.spec_mps.specs.NumberCards.{is_same_set, texts_for, side_of, set_on, pairs_on, used_pairs}
use Rattle.spec_mps.proofs.CardsSoFar.{is_section}
use Rattle.spec_mps.proofs.Order.{not_both}
use Rattle.spec_mps.proofs.RowViews.{row_view, StandsFor}
use Rattle.spec_mps.proofs.PairsKept.{texts_none, Tells}

-- ---- the fields of a card

pub has_its_shape : (style : Style) (part : Section) (fields : Fields) (texts : List (List ℕ)) →
    shaped style part fields ≡ Ok texts → has_shape (shapes_of style part) fields ≡ true
unfolding shaped
has_its_shape style part fields texts h = go (has_shape (shapes_of style part) fields) h
  where
    go : (b : Bool) → cond b (Ok (texts_of fields)) (Err code.CardShape) ≡ Ok texts → b ≡ true
    go true k = refl
    go false k = absurd (cc)

-- the property holds of the length of each of these lists
abbrev pub AllLengths : (ℕ → Type 0) → List (List ℕ) → Type 0
AllLengths P [] = Unit {0}
AllLengths P (x ∷ xs) = P (length x) × AllLengths P xs

-- a list that is one of some shapes has a length that these shapes allow
any_length : (P : ℕ → Type 0) (xs : List ℕ) (shapes : List (List ℕ)) → AllLengths P shapes →
    list_any (same xs) shapes ≡ true → P (length xs)
any_length P xs [] a h = absurd (cc)
any_length P xs (shape ∷ shapes) a h = go (same xs shape) refl (any_length P xs shapes a.1) h
  where
    go : (b : Bool) → same xs shape ≡ b → (list_any (same xs) shapes ≡ true → P (length xs)) →
        (b || list_any (same xs) shapes) ≡ true → P (length xs)
    go true e f k = subst (λ ys. P (length ys)) (sym (same_true xs shape e)) a.0
    go false e f k = f k

-- a card has as many texts as one of the shapes
pub shape_length : (P : ℕ → Type 0) (shapes : List (List ℕ)) (fields : Fields) → AllLengths P shapes →
    has_shape shapes fields ≡ true → P (length (texts_of fields))
unfolding has_shape
shape_length P shapes fields a h =
    subst P (many fields) (any_length P (numbers_of fields) shapes a h)
  where
    many : (fields : Fields) → length (numbers_of fields) ≡ length (texts_of fields)
    many [] = refl
    many (f ∷ fs) = ap suc (many fs)

-- a card of RHS or RANGES has so many fields: two to five
abbrev IsSideCount : ℕ → Type 0
IsSideCount n = (2 ≤ n) × (n ≤ 5)

-- 2 to 5 texts mean the set and the pairs that are read from them
side_by_count : (texts : List (List ℕ)) → IsSideCount (length texts) → side_of texts ≡ set_and_pairs texts
unfolding set_and_pairs
side_by_count [] h = absurd (omega (arith, h.0))
side_by_count (a ∷ []) h = absurd (omega (arith, h.0))
side_by_count (a ∷ b ∷ []) h = refl
side_by_count (a ∷ b ∷ c ∷ []) h = refl
side_by_count (a ∷ b ∷ c ∷ d ∷ []) h = refl
side_by_count (a ∷ b ∷ c ∷ d ∷ e ∷ []) h = refl
side_by_count (a ∷ b ∷ c ∷ d ∷ e ∷ f ∷ more) h = absurd (omega (arith, h.1))

-- a card of RHS or RANGES may have any number of texts from 2 to 5
count : (n : ℕ) → 2 ≤ n → n ≤ 5 → IsSideCount n
count n h k = (h, k)

-- the shapes of RHS and RANGES in free form have 2 to 5 texts
four_counts : AllLengths IsSideCount (set_shapes Free)
four_counts = (
  count 2 (omega arith) (omega arith),
  (
    count 3 (omega arith) (omega arith),
    (count 4 (omega arith) (omega arith), (count 5 (omega arith) (omega arith), tt)),
  ),
)

-- fields of a shape of RHS or RANGES have 2 to 5 texts
counts_side : (style : Style) (fields : Fields) → has_shape (set_shapes style) fields ≡ true →
    IsSideCount (length (texts_of fields))
counts_side Free fields h = shape_length IsSideCount _ fields four_counts h
counts_side Fixed fields h = shape_length IsSideCount _ fields four_counts h

pub side_is : (sets : Sets) (style : Style) (fields : Fields) (texts : List (List ℕ)) →
    shaped style (part_of sets) fields ≡ Ok texts → side_of (texts_of fields) ≡ set_and_pairs (texts_of fields)
side_is sets style fields texts h =
    side_by_count (texts_of fields)
    (counts_side style fields (subst (λ shapes. has_shape shapes fields ≡ true) (shapes_are sets style)
    (has_its_shape style (part_of sets) fields texts h)))

-- ---- the set of the first card

-- the set of the first of these cards of RHS or RANGES, which may be absent; none where there is no card
abbrev pub first_set : List Fields → Option (Option Name)
first_set [] = None
first_set (card ∷ cards) = Some (set_on card)

pub same_set_itself : (set : Option Name) → same_set set set ≡ true
same_set_itself None = refl
same_set_itself (Some name) = same-refl name

pub same_set_true : (a b : Option Name) → same_set a b ≡ true → a ≡ b
same_set_true None None h = refl
same_set_true None (Some b) h = absurd (cc)
same_set_true (Some a) None h = absurd (cc)
same_set_true (Some a) (Some b) h = ap (λ n. Some n) (same_true a b h)

pub same_as : (a b : Option Name) → is_same_set a b ≡ same_set a b
same_as None None = refl
same_as None (Some b) = refl
same_as (Some a) None = refl
same_as (Some a) (Some b) = refl

-- the pairs on two lists of cards are those on both, one behind the other
flat_append : (xs ys : List Fields) → flat_map pairs_on (xs ++ ys) ≡ flat_map pairs_on xs ++ flat_map pairs_on ys
flat_append [] ys = refl
flat_append (x ∷ xs) ys =
    ap (λ more. pairs_on x ++ more) (flat_append xs ys)
    ∙ sym (append_assoc (pairs_on x) (flat_map pairs_on xs) (flat_map pairs_on ys))

-- the pairs on a card that may be left out are the card's, or none
flat_one : (b : Bool) (card : Fields) → flat_map pairs_on (cond b (card ∷ []) []) ≡ cond b (pairs_on card) []
flat_one true card = append-nil (pairs_on card)
flat_one false card = refl

pub used_push : (cards : List Fields) (card : Fields) →
    used_pairs (cards ++ card ∷ [])
    ≡ used_pairs cards ++ cond (is_used (first_set cards) (set_on card)) (pairs_on card) []
unfolding used_pairs
used_push [] card =
    ap (λ b. flat_map pairs_on (cond b (card ∷ []) []))
    (same_as (set_on card) (set_on card) ∙ same_set_itself (set_on card)) ∙ append-nil (pairs_on card)
used_push (first ∷ cards) card =
    ap (flat_map pairs_on)
    (filter-append (λ other. is_same_set (set_on first) (set_on other)) (first ∷ cards) (card ∷ []))
    ∙ flat_append (filter (λ other. is_same_set (set_on first) (set_on other)) (first ∷ cards))
    (cond (is_same_set (set_on first) (set_on card)) (card ∷ []) [])
    ∙ ap (λ more. used_pairs (first ∷ cards) ++ more) (flat_one (is_same_set (set_on first) (set_on card)) card)
    ∙ ap (λ b. used_pairs (first ∷ cards) ++ cond b (pairs_on card) []) (same_as (set_on first) (set_on card))

-- after a card whose set is in use, the set in use is that of the card
first_used : (cards : List Fields) (card : Fields) → is_used (first_set cards) (set_on card) ≡ true →
    first_set (cards ++ card ∷ []) ≡ Some (set_on card)
first_used [] card h = refl
first_used (first ∷ cards) card h = ap (λ set. Some set) (same_set_true (set_on first) (set_on card) h)

-- after a card whose set is not in use, the set in use is the one before
first_skipped : (cards : List Fields) (card : Fields) → is_used (first_set cards) (set_on card) ≡ false →
    first_set (cards ++ card ∷ []) ≡ first_set cards
first_skipped [] card h = absurd (cc)
first_skipped (first ∷ cards) card h = refl

-- where there are no cards, the set in use has no pairs
used_none : used_pairs [] ≡ []
unfolding used_pairs
used_none = refl

-- ---- what the cards of such a section say

-- while cards of the section are read, the set in use is that of the first card, and the cards say nothing for a target
-- that is not noted
pub record IsDuring (counted : Kind → Bool) (cards : List Fields) (s : State) : Type 0 where
  pub set : s.set ≡ first_set cards
  pub unpaired : (name : Name) (t : Target) → StandsFor counted (row_view s) name t → is_among t s.paired ≡ false →
      texts_for name (used_pairs cards) ≡ []

-- the numbers of targets that count are what the cards of this section say that were read; before it begins there are
-- no cards, and while it is read its set and its targets are noted
pub record Says (V : Type 0) (value_of : State → Target → V) (IsNumber : List (List ℕ) → V → Type 0)
    (counted : Kind → Bool) (part : Section) (seen_of : Seen → Bool) (cards : List Fields) (s : State) : Type 0 where
  pub none : seen_of s.seen ≡ false → (cards ≡ []) × ((t : Target) → IsNumber [] (value_of s t))
  pub numbers : (name : Name) (t : Target) → StandsFor counted (row_view s) name t →
      IsNumber (texts_for name (used_pairs cards)) (value_of s t)
  pub during : is_section s.part part ≡ true → IsDuring counted cards s

module _ {V : Type 0} (value_of : State → Target → V) (IsNumber : List (List ℕ) → V → Type 0)
    (counted : Kind → Bool) (part : Section) (seen_of : Seen → Bool) (cards : List Fields)
    (s t : State) (k : Says V value_of IsNumber counted part seen_of cards s) where
  -- outside the section, where neither the rows nor the values change, the numbers are still what the cards say
  pub says_same : seen_of t.seen ≡ seen_of s.seen → row_view t ≡ row_view s →
      ((x : Target) → value_of t x ≡ value_of s x) → is_section t.part part ≡ false →
      Says V value_of IsNumber counted part seen_of cards t
  says_same seen view value away =
      record {
        none = λ h. let n = k.none (sym seen ∙ h) in (n.0, λ x. subst (IsNumber []) (sym (value x)) (n.1 x));
        numbers =
            λ name x h. subst (IsNumber (texts_for name (used_pairs cards)))
            (sym (value x)) (k.numbers name x (subst (λ v. StandsFor counted v name x) view h));
        during = λ h. not_both (is_section t.part part) h away;
      }

  -- before the section begins, where each value is the one without a text, the numbers are what no cards say
  pub says_before : seen_of s.seen ≡ false → seen_of t.seen ≡ seen_of s.seen →
      ((x : Target) → IsNumber [] (value_of t x)) → is_section t.part part ≡ false →
      Says V value_of IsNumber counted part seen_of cards t
  says_before new seen value away =
      let n = k.none new in
      record {
        none = λ h. (n.0, value);
        numbers =
            λ name x h. subst (λ texts. IsNumber texts (value_of t x))
            (sym (ap (λ c. texts_for name (used_pairs c)) n.0 ∙ ap (texts_for name) used_none ∙ texts_none name))
            (value x);
        during = λ h. not_both (is_section t.part part) h away;
      }

  -- as the section begins, with no set and no card yet, the numbers are what the cards say
  pub says_begun : seen_of s.seen ≡ false → seen_of t.seen ≡ true → row_view t ≡ row_view s →
      ((x : Target) → value_of t x ≡ value_of s x) → t.set ≡ None → Says V value_of IsNumber counted part seen_of cards t
  says_begun new seen view value set =
      let n = k.none new in
      let nothing =
      λ (name : Name). ap (λ c. texts_for name (used_pairs c)) n.0 ∙ ap (texts_for name) used_none ∙ texts_none name in
      record {
        none = λ h. not_both (seen_of t.seen) seen h;
        numbers = λ name x h. subst₂ IsNumber (sym (nothing name)) (sym (value x)) (n.1 x);
        during = λ h. record { set = set ∙ ap first_set (sym n.0); unpaired = λ name x g free. nothing name };
      }

  -- after a card of the set in use, where the values are what the old pairs and its own say, the numbers are what the
  -- cards with this one say
  pub says_used : (card : Fields) → seen_of t.seen ≡ true → is_used (first_set cards) (set_on card) ≡ true →
      t.set ≡ Some (set_on card) → Tells V value_of IsNumber counted (row_view s) (used_pairs cards ++ pairs_on card) t →
      Says V value_of IsNumber counted part seen_of (cards ++ card ∷ []) t
  says_used card seen used set tells =
      let pairs : used_pairs (cards ++ card ∷ []) ≡ used_pairs cards ++ pairs_on card =
      used_push cards card ∙ ap (λ b. used_pairs cards ++ cond b (pairs_on card) []) used in
      record {
        none = λ h. not_both (seen_of t.seen) seen h;
        numbers =
            λ name x h. subst (λ ps. IsNumber (texts_for name ps) (value_of t x)) (sym pairs)
            (tells.numbers name x (subst (λ v. StandsFor counted v name x) tells.view_is h));
        during = λ h. record {
          set = set ∙ sym (first_used cards card used);
          unpaired =
              λ name x g free. ap (texts_for name) pairs
              ∙ tells.unpaired name x (subst (λ v. StandsFor counted v name x) tells.view_is g) free;
        };
      }

-- a card of another set
pub says_skipped : {V : Type 0} (value_of : State → Target → V) (IsNumber : List (List ℕ) → V → Type 0)
    (counted : Kind → Bool) (part : Section) (seen_of : Seen → Bool) (cards : List Fields) (s : State) (card : Fields) →
    seen_of s.seen ≡ true → is_section s.part part ≡ true → is_used (first_set cards) (set_on card) ≡ false →
    Says V value_of IsNumber counted part seen_of cards s → Says V value_of IsNumber counted part seen_of (cards ++ card ∷ []) s
says_skipped {V} value_of IsNumber counted part seen_of cards s card seen here skipped k =
    let pairs : used_pairs (cards ++ card ∷ []) ≡ used_pairs cards =
    used_push cards card ∙ ap (λ b. used_pairs cards ++ cond b (pairs_on card) []) skipped
    ∙ append-nil (used_pairs cards) in
    let d = k.during here in
    record {
      none = λ h. not_both (seen_of s.seen) seen h;
      numbers = λ name x h. subst (λ ps. IsNumber (texts_for name ps) (value_of s x)) (sym pairs) (k.numbers name x h);
      during =
          λ h. record {
            set = d.set ∙ sym (first_skipped cards card skipped);
            unpaired = λ name x g free. ap (texts_for name) pairs ∙ d.unpaired name x g free;
          };
    }
