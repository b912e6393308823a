-- The parts that the code holds, as the definition of the text has them.
use Rattle.std.specs.Prelude.{ℤ}
use Rattle.spec_mps.specs.NumberText.{NumberParts, signed, spelled, scaled}
use Rattle.spec_mps.specs.NumberText as number
use Rattle.lp_numtext.specs.declared.parts.Exponent.{Exponent}
use Rattle.lp_numtext.specs.declared.parts.Decimal.{Decimal}
use Rattle.lp_numtext.specs.declared.parts.Quotient.{Quotient}
use Rattle.lp_numtext.specs.declared.parts.Parts.{Parts}
use Rattle.lp_numtext.specs.declared.parts.Parts.TheVariants as parts

-- an exponent that the code holds, as an integer
abbrev pub exponent_seen : Exponent → ℤ
exponent_seen e = signed e.is_negative (spelled e.digits.bytes.now)

-- a decimal that the code holds, as the parts of a number's text
abbrev pub decimal_seen : Decimal → NumberParts
decimal_seen d = scaled d.is_negative d.front.bytes.now d.back.bytes.now (exponent_seen d.exponent)

-- a quotient that the code holds, as the parts of a number's text
abbrev pub quotient_seen : Quotient → NumberParts
quotient_seen q = number.Quotient q.is_negative (spelled q.top.bytes.now) (spelled q.bottom.bytes.now)

-- the parts of a number that the code holds, as the definition of the text has them
abbrev pub parts_seen : Parts → NumberParts
parts_seen (parts.Decimal d) = decimal_seen d
parts_seen (parts.Quotient q) = quotient_seen q
