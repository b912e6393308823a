-- The text of a certificate whose numbers may have any width.
use Rattle.std.specs.Prelude.{Option, Some, None}
use Rattle.spec_exact.specs.Fraction.{ℚ}
use Rattle.spec_mps.specs.WideText.{WideReading, Is, Shape, Far, wide_of}
use Rattle.spec_certificate.specs.Text.{Reading}

-- the number that a text was read as; none where the text is no number, or its exponent is too large
abbrev pub wide_in : WideReading → Option ℚ
wide_in (Is value) = Some value
wide_in Shape = None
wide_in Far = None

-- the number of any width that a text spells; none where it spells none, or its exponent is too large
abbrev pub wide : Reading ℚ
wide text = wide_in (wide_of text)
