-- The text of bounds: numbers, and all that counts as infinite.
use Rattle.std.specs.Prelude.{ℕ, ◌^◌, ◌||◌, pos, Bool, true, false, not, Option, Some}
use Rattle.std.specs.Prelude.{None, Result, Ok, Err, List, codes, if◌then◌else◌}
use Rattle.std.specs.Str.{str_eq_ignore_ascii_case}
use Rattle.spec_exact.specs.Fraction.{ℚ, whole, neg_ℚ, lt_ℚ}
use Rattle.spec_mps.specs.declared.number.NumFault.{NumFault}
use Rattle.spec_mps.specs.declared.number.NumFault.TheVariants as fault
use Rattle.spec_mps.specs.declared.number.BoundValue.{BoundValue}
use Rattle.spec_mps.specs.declared.number.BoundValue.TheVariants as bound
use Rattle.spec_mps.specs.NumberText.{NumberParts, NumberReading, is_negative}
use Rattle.spec_mps.specs.NumberText.{without_sign, parts_of, value_of, number_by}
use Rattle.spec_mps.specs.NumberText as number

-- what a text is read as where a bound stands: a finite number, plus or minus infinity, no number (`Shape`), or a
-- finite number that, as it is spelled and before it is reduced, is past 127 bits (`Wide`)
pub data BoundReading : Type 0 where
  Finite : (value : ℚ) → BoundReading
  PlusInf : BoundReading
  MinusInf : BoundReading
  Shape : BoundReading
  Wide : BoundReading

-- the number 10 ^ 20: a bound of this size or more counts as infinite
abbrev pub infinite : ℚ
infinite = whole (pos (10 ^ 20))

-- whether the second number, a value, is at least the first one, a limit
abbrev pub is_at_least : ℚ → ℚ → Bool
is_at_least limit value = not (lt_ℚ value limit)

-- whether a word is `inf` or `infinity`, in letters of any case
abbrev pub is_infinity : List ℕ → Bool
is_infinity word = str_eq_ignore_ascii_case word (codes "inf") || str_eq_ignore_ascii_case word (codes "infinity")

-- the reading of a word for infinity: minus infinity where the flag says that a minus stands before it, else plus
-- infinity
abbrev pub infinity : Bool → BoundReading
infinity true = MinusInf
infinity false = PlusInf

-- the reading of a text as a bound, by its reading as a number: finite, no number, or past the width
abbrev pub as_bound : NumberReading → BoundReading
as_bound (number.Is q) = Finite q
as_bound number.Shape = Shape
as_bound number.Wide = Wide

-- the reading as a bound of a number with this exact value, whatever its width: plus infinity where it is at least
-- 10 ^ 20, minus infinity where it is at most its negative; else as the number is read
unfoldable pub bound_by_value : ℚ → NumberReading → BoundReading
bound_by_value value reading =
    if is_at_least infinite value then PlusInf
    else (if is_at_least value (neg_ℚ infinite) then MinusInf else as_bound reading)

-- the reading of a text as a bound: by its parts where it has those of a number; else infinite, by an optional sign and
-- the word for it, or no number
unfoldable pub bound_by : List ℕ → Option NumberParts → BoundReading
bound_by text None = if is_infinity (without_sign text) then infinity (is_negative text) else Shape
bound_by text (Some parts) = bound_by_value (value_of parts) (number_by (Some parts))

-- the reading of a text as a bound: finite, infinite, no number, or past the width
unfoldable pub bound_of : List ℕ → BoundReading
bound_of text = bound_by text (parts_of text)

-- the reading of a bound as a result: its value, finite or infinite, or the fault of its text
abbrev pub bound_answer : BoundReading → Result (BoundValue ℚ) NumFault
bound_answer (Finite q) = Ok (bound.Finite q)
bound_answer PlusInf = Ok bound.PlusInf
bound_answer MinusInf = Ok bound.MinusInf
bound_answer Shape = Err fault.Shape
bound_answer Wide = Err fault.Wide
