-- Sides of a model: single limits of rows, and single bounds of columns.
use Rattle.std.specs.Prelude.{◌≡◌, ◌<◌, ◌==◌, ◌&&◌, Bool, true, false, not, List, length, All, Option, Some, IfSome}
use Rattle.std.specs.Prelude.{if◌then◌else◌}
use Rattle.std.specs.List.{list_any}
use Rattle.spec_exact.specs.Fraction.{ℚ, ◌≤ℚ◌}
use Rattle.spec_model.specs.Model.{Model, Limits, width, height, bounds, limits, activity, part}
use Rattle.spec_iis.specs.declared.side.Side.{Side}

-- the limits of a side's row, or the bounds of its column
abbrev pub limits_at : Model → Side → Limits
limits_at m s = if s.row then limits m s.at else bounds m s.at

-- the upper one of two limits where the flag says so, else the lower one
abbrev pub end_of : Bool → Limits → Option ℚ
end_of true l = l.upper
end_of false l = l.lower

-- the side is one of the model: the row or column is there, and has this limit or bound
pub record IsSide (m : Model) (s : Side) : Type 0 where
  pub inside : s.at < (if s.row then height m else width m)
  pub there : (b : ℚ) × (end_of s.upper (limits_at m s) ≡ Some b)

-- whether two Booleans are equal, as whether two sides are both of rows, or both upper ones
abbrev pub same_way : Bool → Bool → Bool
same_way true b = b
same_way false b = not b

-- whether two sides are the same: both of rows or both of columns, with one number, and both upper or both lower
abbrev pub same_side : Side → Side → Bool
same_side s t = same_way s.row t.row && ((s.at == t.at) && same_way s.upper t.upper)

-- whether a side is in a list
unfoldable pub is_listed : List Side → Side → Bool
is_listed sides s = list_any (same_side s) sides

-- each of the few sides is in the list `more`
abbrev pub Among : List Side → List Side → Type 0
Among few more = All (λ s. is_listed more s ≡ true) few

-- ---- points

-- v is at most an upper end, or at least a lower one, as the flag says; where there is no end, nothing is asked
abbrev pub IsWithin : Bool → Option ℚ → ℚ → Type 0
IsWithin true bound v = IfSome bound (λ k. v ≤ℚ k)
IsWithin false bound v = IfSome bound (λ k. k ≤ℚ v)

-- the number that a side of the model limits, at the point z: the activity of its row, or the value of its column
abbrev pub value_at : Model → List ℚ → Side → ℚ
value_at m z s = if s.row then activity m z s.at else part z s.at

-- the point z keeps this limit or bound of the model; where the model has none at this side, nothing is asked
abbrev pub Meets : Model → List ℚ → Side → Type 0
Meets m z s = IsWithin s.upper (end_of s.upper (limits_at m s)) (value_at m z s)

-- the point z has exactly one value for each column of the model, and meets each of the sides
pub record MeetsAll (m : Model) (sides : List Side) (z : List ℚ) : Type 0 where
  pub one_each : length z ≡ width m
  pub met : All (Meets m z) sides
