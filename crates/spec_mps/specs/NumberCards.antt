-- The numbers that cards give: pairs of a row's name and a number, and the sets that they belong to.
use Rattle.std.specs.Prelude.{ℕ, ◌≡◌, Bool, true, false, Option, Some, None, List, [], ◌∷◌, map}
use Rattle.std.specs.List.{filter, flat_map}
use Rattle.spec_text.specs.Words.{same}
use Rattle.spec_exact.specs.Fraction.{ℚ, 0ℚ}
use Rattle.spec_model.specs.declared.parts.Kind.{Kind}
use Rattle.spec_model.specs.Model.{Name, is_free}
use Rattle.spec_mps.specs.NumberText.{Is, number_of}
use Rattle.spec_mps.specs.Fields.{Fields, texts_of}
use Rattle.spec_mps.specs.Sides.{SetAndPairs}

-- pairs of a row's name and the text of a number
abbrev pub Pairs : Type 0
Pairs = List (List ℕ × List ℕ)

-- the texts of numbers that are paired with this name, in order
unfoldable pub texts_for : Name → Pairs → List (List ℕ)
texts_for name pairs = map (λ pair. pair.1) (filter (λ pair. same pair.0 name) pairs)

-- q is the number that the one text spells, or 0 where there is no text; more than one text is not allowed
abbrev pub IsTheNumber : List (List ℕ) → ℚ → Type 0
IsTheNumber [] q = q ≡ 0ℚ
IsTheNumber (text ∷ []) q = number_of text ≡ Is q
IsTheNumber (text ∷ other ∷ more) q = ⊥

-- the range is the number that the one text spells, or absent where there is no text; more than one is not allowed
abbrev pub IsTheRange : List (List ℕ) → Option ℚ → Type 0
IsTheRange [] range = range ≡ None
IsTheRange (text ∷ []) range = (q : ℚ) × (range ≡ Some q) × (number_of text ≡ Is q)
IsTheRange (text ∷ other ∷ more) range = ⊥

-- the range is what these texts say; but that of a free row, which the flag tells, is absent, whatever they say
abbrev pub IsRangeIf : Bool → List (List ℕ) → Option ℚ → Type 0
IsRangeIf true texts range = range ≡ None
IsRangeIf false texts range = IsTheRange texts range

-- the range of a row of this kind is the number that the one text spells, or absent where there is no text; more than
-- one is not allowed. That of a free row is absent, whatever the texts say.
abbrev pub IsTheRangeOf : Kind → List (List ℕ) → Option ℚ → Type 0
IsTheRangeOf kind = IsRangeIf (is_free kind)

-- ---- RHS and RANGES: a set, which may be absent, and one pair or two

-- the set, which may be absent, and the pairs among the texts of a card, two to five;
-- of other counts no set and no pairs
abbrev pub side_of : List (List ℕ) → SetAndPairs
side_of (row ∷ value ∷ []) = record { set = None; pairs = (row, value) ∷ [] }
side_of (set ∷ row ∷ value ∷ []) = record { set = Some set; pairs = (row, value) ∷ [] }
side_of (row ∷ value ∷ other ∷ second ∷ []) = record { set = None; pairs = (row, value) ∷ (other, second) ∷ [] }
side_of (set ∷ row ∷ value ∷ other ∷ second ∷ []) =
    record { set = Some set; pairs = (row, value) ∷ (other, second) ∷ [] }
side_of texts = record { set = None; pairs = [] }

-- the set that a card of RHS or RANGES names; none if it names none
abbrev pub set_on : Fields → Option Name
set_on card = (side_of (texts_of card)).set

-- the pairs of a row's name and a number's text on a card of RHS or RANGES; none where the card has not two to five
-- fields
abbrev pub pairs_on : Fields → Pairs
pairs_on card = (side_of (texts_of card)).pairs

-- whether two sets, each of which may be absent, have the same name, or are both absent
abbrev pub is_same_set : Option Name → Option Name → Bool
is_same_set None None = true
is_same_set (Some a) (Some b) = same a b
is_same_set a b = false

-- the pairs on the cards of RHS or RANGES whose set is that of the first card, which may be absent, in order; cards of
-- other sets count for nothing
unfoldable pub used_pairs : List Fields → Pairs
used_pairs [] = []
used_pairs (first ∷ cards) =
    flat_map pairs_on (filter (λ card. is_same_set (set_on first) (set_on card)) (first ∷ cards))
