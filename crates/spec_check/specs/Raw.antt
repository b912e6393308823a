-- A certificate as its text has it, with names and without a model, over the type of its numbers.
use Rattle.std.specs.Prelude.{List}
use Rattle.spec_exact.specs.Fraction.{ℚ}
use Rattle.spec_model.specs.Model.{Name}
use Rattle.spec_check.specs.declared.certificate.Part.{Part}
use Rattle.spec_check.specs.declared.certificate.CertificateKind.{CertificateKind}
use Rattle.spec_check.specs.declared.certificate.RawCertificate.{RawCertificate}

-- a part of a certificate's text: a letter, the name of a column or row, and a number of type F
abbrev pub PartOf : Type 0 → Type 0
PartOf F = Part Name F

-- a certificate as its text has it, with numbers of type F
abbrev pub RawOf : Type 0 → Type 0
RawOf F = RawCertificate Name (List (PartOf F))

-- a part whose number is a fraction
abbrev pub ExactPart : Type 0
ExactPart = PartOf ℚ

-- the kind of a certificate: what it is to show, and for a clash the name of the column
abbrev pub ExactKind : Type 0
ExactKind = CertificateKind Name

-- a certificate as its text has it, with fractions
abbrev pub ExactRaw : Type 0
ExactRaw = RawOf ℚ
