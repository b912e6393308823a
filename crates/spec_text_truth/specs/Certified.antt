-- Lines that spell a model and, after it, a certificate.
use Rattle.std.specs.Prelude.{ℕ, ◌≡◌, None, List, [], ◌∷◌, ◌++◌}
use Rattle.spec_text.specs.declared.line.Line.{Line}
use Rattle.spec_exact.specs.Fraction.{ℚ}
use Rattle.spec_model.specs.declared.parts.SizeLimits.{SizeLimits}
use Rattle.spec_model.specs.Model.{Model}
use Rattle.spec_model.specs.Kept.{usual_limits}
use Rattle.spec_mps.specs.declared.style.Style.{Style}
use Rattle.spec_mps.specs.Steps as text
use Rattle.spec_check.specs.Raw.{ExactRaw}
use Rattle.spec_certificate.specs.Text.{Reading, SpellsBy}
use Rattle.spec_certificate.specs.NarrowText.{narrow}
use Rattle.spec_certificate.specs.WideText.{wide}
use Rattle.spec_program.specs.declared.command_line.TextCommand.TheVariants.{CheckWide}
use Rattle.spec_program.specs.TextLimits.{limits_of}
use Rattle.spec_server.specs.TextSaid.{text_said_within}

-- The lines spell a model within limits, up to the first line that ends its text; those behind it begin with a
-- certificate whose numbers are read by `read`; and the model has the property `IsSo`. That the certificate is accepted
-- for the model is no part of it.
pub record IsCertifiedBy (read : Reading ℚ) (limits : SizeLimits) (style : Style) (lines : List (Line (List ℕ)))
    (IsSo : Model → Type 0) : Type 0 where
  pub front : List (Line (List ℕ))
  pub last : Line (List ℕ)
  pub behind : List (Line (List ℕ))
  pub cut : lines ≡ front ++ last ∷ behind
  pub undecided : text_said_within limits style front ≡ None
  pub model : Model
  pub spelled : text.SpellsWithin limits style (front ++ last ∷ []) model
  pub raw : ExactRaw
  pub certified : SpellsBy read behind raw
  pub is_so : IsSo model

-- The lines spell a usual model and then a certificate, whose numbers have at most 127 bits;
-- and the model has this property. Nothing else is said of the certificate.
abbrev pub IsCertified : Style → List (Line (List ℕ)) → (Model → Type 0) → Type 0
IsCertified = IsCertifiedBy narrow usual_limits

-- The lines spell a usual or large model and then a certificate, whose numbers may have any width;
-- and the model has this property. Nothing else is said of the certificate.
abbrev pub IsWidelyCertified : Style → List (Line (List ℕ)) → (Model → Type 0) → Type 0
IsWidelyCertified = IsCertifiedBy wide (limits_of CheckWide)
