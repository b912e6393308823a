-- What a line `RANGE` says of a model.
use Rattle.std.specs.Prelude.{ℕ, ◌≡◌, List, Option, Some, None, codes}
use Rattle.spec_exact.specs.Fraction.{ℚ}
use Rattle.spec_model.specs.Model.{Model, Name, cost, row}
use Rattle.spec_model.specs.Truth.{IsOptimal}
use Rattle.spec_edit.specs.Changes.{with_cost, with_rhs}
use Rattle.spec_mps.specs.NumberText.{Is, number_of}
use Rattle.spec_pivot.specs.declared.status.Status.{Status}
use Rattle.spec_range.specs.declared.range.Range.{Range}
use Rattle.spec_range.specs.Span.{Keeps, IsRange}
use Rattle.spec_program.specs.declared.command_line.Moved.{Moved}
use Rattle.spec_program.specs.declared.command_line.Moved.TheVariants.{Cost, RightSide}
use Rattle.spec_commands.specs.RangeOut.{place_by}

-- the number that a model has in the place that is moved: the cost of its column of number `at`, or the right side of
-- its row of number `at`
abbrev pub number_at : Moved → Model → ℕ → ℚ
number_at Cost m at = cost m at
number_at RightSide m at = (row m at).rhs

-- the model with this number as the cost of its column of number `at`, or as the right side of its row of number `at`
abbrev pub with_number : Moved → Model → ℕ → ℚ → Model
with_number Cost m at = with_cost m at
with_number RightSide m at = with_rhs m at

-- the text says this end of a range: it spells the end's number in at most 127 bits, or is `NONE` where there is no end
abbrev pub SaysEnd : List ℕ → Option ℚ → Type 0
SaysEnd text None = text ≡ codes "NONE"
SaysEnd text (Some v) = number_of text ≡ Is v

-- The name is that of a column of m, whose cost is moved, or of a row, whose right side is. `value` is the text of m's
-- optimal value. `low`, `high` and `slope` are the texts of a range: there is a basis that is optimal in m, and that
-- stays optimal with exactly the numbers from low to high in place of m's. With each of them the optimal value is that
-- of m and the slope times what the number has grown by.
pub record SaysRange (moved : Moved) (name : Name) (m : Model) (value low high slope : List ℕ) : Type 0 where
  pub at : ℕ
  pub named : place_by moved m name ≡ Some at
  pub optimum : ℚ
  pub says_value : number_of value ≡ Is optimum
  pub is_optimal : IsOptimal m optimum
  pub basis : List Status
  pub keeps : Keeps m basis
  pub range : Range ℚ
  pub says_low : SaysEnd low range.ends.low
  pub says_high : SaysEnd high range.ends.high
  pub says_slope : number_of slope ≡ Is range.slope
  pub is_range : IsRange (with_number moved m at) basis (number_at moved m at) optimum range
