-- The text of a certificate whose numbers are of 127 bits.
use Rattle.std.specs.Prelude.{ℕ, Option, Some, None, List}
use Rattle.spec_text.specs.declared.line.Line.{Line}
use Rattle.spec_exact.specs.Fraction.{ℚ}
use Rattle.spec_mps.specs.NumberText.{NumberReading, Is, Shape, Wide, number_of}
use Rattle.spec_certificate.specs.Text.{Reading, OutcomeOf, JudgementOf, LeadsBy, judge_by, SpellsBy, RefusesBy}
pub use Rattle.spec_check.specs.Raw.{ExactPart, ExactKind, ExactRaw}
pub use Rattle.spec_certificate.specs.Text.{Spelled, Refused, letter_of, takes, kind_of, is_end, part_by, opened}
pub use Rattle.spec_certificate.specs.Text.{with_part, step_by, settled}

-- the number that a text was read as, within 127 bits; none where it is no number or a wider one
abbrev pub value_in : NumberReading → Option ℚ
value_in (Is value) = Some value
value_in Shape = None
value_in Wide = None

-- the number of at most 127 bits that a text spells; none for each other text
abbrev pub narrow : Reading ℚ
narrow text = value_in (number_of text)

-- what a line of a certificate leads to, with numbers of 127 bits: the text goes on, or has ended with the certificate,
-- or the line does not fit
abbrev pub Outcome : Type 0
Outcome = OutcomeOf ℚ

-- what a line of a certificate leads to, with what was read before it, where numbers have at most 127 bits
abbrev pub step : Option ExactRaw → Line (List ℕ) → Outcome
step = step_by narrow

-- each of the lines goes on with what was read before it, and after the last one the second value is read; numbers have
-- at most 127 bits
abbrev pub Leads : Option ExactRaw → List (Line (List ℕ)) → Option ExactRaw → Type 0
Leads = LeadsBy narrow

-- the judgement of a certificate's text whose numbers have at most 127 bits: the certificate that it spells, or the
-- number of the line that refuses it: the first that does not fit, or the one that would come next
abbrev pub Judgement : Type 0
Judgement = JudgementOf ℚ

-- the judgement of the lines of a certificate with numbers of 127 bits, behind what was read so far, where the first of
-- them has this number
abbrev pub judge : Option ExactRaw → ℕ → List (Line (List ℕ)) → Judgement
judge = judge_by narrow

-- the lines up to END spell this certificate, with numbers of at most 127 bits
abbrev pub Spells : List (Line (List ℕ)) → ExactRaw → Type 0
Spells = SpellsBy narrow

-- line n, counted from 1, is the first that does not fit a certificate with numbers of at most 127 bits; where the
-- lines end before END, it is the one that would come next
abbrev pub Refuses : List (Line (List ℕ)) → ℕ → Type 0
Refuses = RefusesBy narrow
