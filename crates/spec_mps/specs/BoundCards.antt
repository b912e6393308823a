-- What the cards of BOUNDS say.
use Rattle.std.specs.Prelude.{ℕ, ◌==◌, Bool, true, false, Option, Some, None}
use Rattle.std.specs.Prelude.{option_map, List, [], ◌∷◌, codes, if◌then◌else◌}
use Rattle.std.specs.List.{filter, filter_map, find, list_any}
use Rattle.spec_text.specs.Words.{same}
use Rattle.spec_exact.specs.Fraction.{ℚ, 0ℚ, lt_ℚ}
use Rattle.spec_model.specs.Model.{Name}
use Rattle.spec_mps.specs.declared.bound_kind.BoundKind.{BoundKind}
use Rattle.spec_mps.specs.declared.bound_kind.BoundKind.TheVariants.{Up, Lo, Fx, Fr, Mi, Pl}
use Rattle.spec_mps.specs.declared.style.Style.{Style}
use Rattle.spec_mps.specs.declared.style.Style.TheVariants.{Free, Fixed}
use Rattle.spec_mps.specs.BoundText.{BoundReading, Finite, PlusInf, MinusInf, bound_of}
use Rattle.spec_mps.specs.Fields.{Fields, text_at, texts_of}
use Rattle.spec_mps.specs.Shapes.{look_up}
use Rattle.spec_mps.specs.Bounds.{BoundTexts}
use Rattle.spec_mps.specs.NumberCards.{is_same_set}

-- ---- the kind in field 1, then a set, which may be absent, a column, and a value where the kind takes one

-- the kind of bounds that one of the words UP, LO, FX, FR, MI and PL means; none for any other word
unfoldable pub kind_of : List ℕ → Option BoundKind
kind_of word =
    look_up word
    ((codes "UP", Up)
    ∷ (codes "LO", Lo)
    ∷ (codes "FX", Fx)
    ∷ (codes "FR", Fr)
    ∷ (codes "MI", Mi)
    ∷ (codes "PL", Pl)
    ∷ [])

-- whether a card of this kind has a value: it does for UP, LO and FX, and not for FR, MI and PL
abbrev pub has_value : BoundKind → Bool
has_value Up = true
has_value Lo = true
has_value Fx = true
has_value kind = false

-- the text of a card's field n; none where the card has no such field
abbrev pub field_at : ℕ → Fields → Option (List ℕ)
field_at n fields = option_map (λ f. f.text) (find (λ f. f.number == n) fields)

-- the set, the column and the value among the words of a card in free form, by whether its kind takes a value. Of words
-- in no such shape all three are absent or empty
abbrev pub free_bound : Bool → List (List ℕ) → BoundTexts
free_bound true (kind ∷ column ∷ value ∷ []) = record { set = None; column = column; value = value }
free_bound true (kind ∷ set ∷ column ∷ value ∷ []) = record { set = Some set; column = column; value = value }
free_bound false (kind ∷ column ∷ []) = record { set = None; column = column; value = [] }
free_bound false (kind ∷ set ∷ column ∷ []) = record { set = Some set; column = column; value = [] }
free_bound valued words = record { set = None; column = []; value = [] }

-- the set, the column and the value in the fields 2, 3 and 4 of a card in fixed form;
-- the value is empty where the kind takes none
abbrev pub fixed_bound : Bool → Fields → BoundTexts
fixed_bound valued card =
    record { set = field_at 2 card; column = text_at 3 card; value = if valued then text_at 4 card else [] }

-- the set, the column and the value on a card of BOUNDS in this form, by whether its kind takes a value; the value is
-- empty where it takes none
abbrev pub bound_texts_on : Style → Bool → Fields → BoundTexts
bound_texts_on Free valued card = free_bound valued (texts_of card)
bound_texts_on Fixed valued card = fixed_bound valued card

-- the set, the column and the value on a card of this kind in BOUNDS; all three absent or empty without a kind
abbrev pub bound_by : Style → Option BoundKind → Fields → BoundTexts
bound_by style None card = record { set = None; column = []; value = [] }
bound_by style (Some kind) card = bound_texts_on style (has_value kind) card

-- the set, the column and the value on a card of BOUNDS; all three are absent or empty where its kind is unknown
unfoldable pub bound_on : Style → Fields → BoundTexts
bound_on style card = bound_by style (kind_of (text_at 1 card)) card

-- the cards of BOUNDS whose set is that of the first card, which may be absent, in order; no others
unfoldable pub used_bounds : Style → List Fields → List Fields
used_bounds style [] = []
used_bounds style (first ∷ cards) =
    filter (λ card. is_same_set (bound_on style first).set (bound_on style card).set) (first ∷ cards)

-- the cards of BOUNDS that name this column, among those with the set of the first card
unfoldable pub bounds_of_column : Style → Name → List Fields → List Fields
bounds_of_column style name cards = filter (λ card. same (bound_on style card).column name) (used_bounds style cards)

-- ---- what a card sets the upper and the lower bound to, where it does; `None` is no bound

-- what a card of this kind with this value makes the upper bound: a number, or no bound at all; none where it does not
-- set the upper bound
abbrev pub upper_by : Option BoundKind → BoundReading → Option (Option ℚ)
upper_by (Some Up) (Finite u) = Some (Some u)
upper_by (Some Up) PlusInf = Some None
upper_by (Some Fx) (Finite v) = Some (Some v)
upper_by (Some Fr) value = Some None
upper_by (Some Pl) value = Some None
upper_by kind value = None

-- what a card of this kind with this value makes the lower bound: a number, or no bound at all; none where it does not
-- set the lower bound
abbrev pub lower_by : Option BoundKind → BoundReading → Option (Option ℚ)
lower_by (Some Lo) (Finite l) = Some (Some l)
lower_by (Some Lo) MinusInf = Some None
lower_by (Some Fx) (Finite v) = Some (Some v)
lower_by (Some Fr) value = Some None
lower_by (Some Mi) value = Some None
lower_by kind value = None

-- whether a kind and its value are UP and a finite number below 0
abbrev pub is_below_zero : Option BoundKind → BoundReading → Bool
is_below_zero (Some Up) (Finite u) = lt_ℚ u 0ℚ
is_below_zero kind value = false

-- what a card makes the upper bound: a number, or no bound at all; none where it does not set the upper bound
unfoldable pub upper_on : Style → Fields → Option (Option ℚ)
upper_on style card = upper_by (kind_of (text_at 1 card)) (bound_of (bound_on style card).value)

-- what a card makes the lower bound: a number, or no bound at all; none where it does not set the lower bound
unfoldable pub lower_on : Style → Fields → Option (Option ℚ)
lower_on style card = lower_by (kind_of (text_at 1 card)) (bound_of (bound_on style card).value)

-- whether a card is an UP card with a finite number below 0
unfoldable pub has_negative_upper : Style → Fields → Bool
has_negative_upper style card = is_below_zero (kind_of (text_at 1 card)) (bound_of (bound_on style card).value)

-- ---- the bounds that cards make together: the last card wins

-- the last item of a list, or `first` where there is none
abbrev pub last_or : {A : Type 0} → A → List A → A
last_or first [] = first
last_or first (x ∷ xs) = last_or x xs

-- the upper bound that the cards of a column make; without a card that sets it, there is none
unfoldable pub upper_of : Style → List Fields → Option ℚ
upper_of style cards = last_or None (filter_map (upper_on style) cards)

-- the lower bound that the cards of a column make; without a card that sets it, it is 0, or absent where an UP card is
-- below 0
unfoldable pub lower_of : Style → List Fields → Option ℚ
lower_of style cards =
    last_or (if list_any (has_negative_upper style) cards then None else Some 0ℚ) (filter_map (lower_on style) cards)
