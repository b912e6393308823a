-- That a written certificate is read back.
use Rattle.std.specs.Prelude.{ℕ, ◌≡◌, ◌≤◌, Ok, List, ◌++◌, length, map, All}
use Rattle.spec_text.specs.declared.line.Line.{Line}
use Rattle.spec_text.specs.declared.line.Line.TheVariants.{Text}
use Rattle.spec_exact.specs.Fraction.{ℚ}
use Rattle.spec_model.specs.Model.{Model}
use Rattle.spec_mps.specs.WideText.{most_zeros}
use Rattle.spec_mps.specs.WideWritten.{wide_text}
use Rattle.spec_check.specs.declared.certificate.Certificate.{Certificate}
use Rattle.spec_check.specs.declared.certificate.Certificate.TheVariants.{Optimal, Infeasible, Clash, Unbounded}
use Rattle.spec_check.specs.Raw.{ExactRaw}
use Rattle.spec_check.specs.Settle.{certificate_for}
use Rattle.spec_certificate.specs.Text.{Reading, SpellsBy}
use Rattle.spec_certificate.specs.NarrowText.{narrow}
use Rattle.spec_certificate.specs.WideText.{wide}
use Rattle.spec_certificate.specs.TextWritten.{Writing, narrow_writing, wide_writing, certificate_lines_by}

-- the lines that this certificate of the model is written as, whatever lines follow,
-- are read as parts that make the same certificate
pub record IsReadBackBy (read : Reading ℚ) (write : Writing ℚ) (m : Model) (cert : Certificate (List ℚ)) : Type 0 where
  pub raw : ExactRaw
  pub spelled : (more : List (Line (List ℕ))) → SpellsBy read (map Text (certificate_lines_by write m cert) ++ more) raw
  pub settled : certificate_for m raw ≡ Ok cert

-- the lines that the certificate is written as, with numbers of 127 bits, are read as the same certificate
abbrev pub IsReadBack : Model → Certificate (List ℚ) → Type 0
IsReadBack = IsReadBackBy narrow narrow_writing

-- the lines that the certificate is written as, with numbers of any width, are read as the same certificate
abbrev pub IsWidelyReadBack : Model → Certificate (List ℚ) → Type 0
IsWidelyReadBack = IsReadBackBy wide wide_writing

-- P holds of all numbers of a certificate
abbrev pub AllNumbers : (ℚ → Type 0) → Certificate (List ℚ) → Type 0
AllNumbers P (Optimal x y) = All P x × All P y
AllNumbers P (Infeasible y) = All P y
AllNumbers P (Clash j) = Unit {0}
AllNumbers P (Unbounded x r) = All P x × All P r

-- the text of v has at most 16,384 bytes, as many as a power of ten may have zeros
abbrev pub IsShortNumber : ℚ → Type 0
IsShortNumber v = length (wide_text v) ≤ most_zeros
