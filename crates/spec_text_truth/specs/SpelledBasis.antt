-- What the command `basis` takes its input for: the model that a text spells, and the basis that a file behind the text
-- spells for the model's form.
use Rattle.std.specs.Prelude.{ℕ, ◌≡◌, Option, Some, None, Result, Ok, Err, List, [], ◌∷◌, ◌++◌}
use Rattle.spec_text.specs.declared.line.Line.{Line}
use Rattle.spec_exact.specs.Fraction.{ℚ}
use Rattle.spec_exact.specs.Narrow.{number_limit}
use Rattle.spec_model.specs.declared.parts.SizeLimits.{SizeLimits}
use Rattle.spec_model.specs.Model.{Model}
use Rattle.spec_mps.specs.declared.style.Style.{Style}
use Rattle.spec_mps.specs.Steps as text
use Rattle.spec_pivot.specs.declared.status.Status.{Status}
use Rattle.spec_simplex.specs.declared.ends.FormFault.{FormFault}
use Rattle.spec_simplex.specs.Form.{Form, form_of}
use Rattle.spec_bas.specs.declared.fault.BasCode.{BasCode}
use Rattle.spec_bas.specs.Steps as file
use Rattle.spec_bas.specs.Spelled.{SpellsBasis}
use Rattle.spec_server.specs.TextSaid.{text_said_within}
use Rattle.spec_commands.specs.BasisOut.{Handed}

-- the lines up to the first one that ends a model's text spell this model within limits of size;
-- those behind it are `behind`
pub record BeginsWithText (limits : SizeLimits) (style : Style) (lines : List (Line (List ℕ))) (m : Model)
    (behind : List (Line (List ℕ))) : Type 0 where
  pub front : List (Line (List ℕ))
  pub last : Line (List ℕ)
  pub cut : lines ≡ front ++ last ∷ behind
  pub undecided : text_said_within limits style front ≡ None
  pub spelled : text.SpellsWithin limits style (front ++ last ∷ []) m

-- the form of a model at 127 bits, or why it has none
abbrev pub form_at_limit : Model → Result Form (FormFault ℚ)
form_at_limit m = form_of (Some number_limit) m

-- What is said of the lines of a basis file, by the form of the model m or why it has none. With a form, there must be
-- a basis, and the lines spell it for this form. Without one, no line is read, and there must be no basis.
abbrev pub IsFileOf : Model → Result Form (FormFault ℚ) → List (Line (List ℕ)) → Option (List Status) → Type 0
IsFileOf m (Ok f) lines (Some basis) = SpellsBasis m f lines basis
IsFileOf m (Ok f) lines None = ⊥
IsFileOf m (Err why) lines basis = basis ≡ None

-- the lines spell what is handed to the command: the model and, behind its text, the basis, if the model has a form
pub record AreHanded (limits : SizeLimits) (style : Style) (lines : List (Line (List ℕ))) (handed : Handed) : Type 0 where
  pub behind : List (Line (List ℕ))
  pub text : BeginsWithText limits style lines handed.model behind
  pub file : IsFileOf handed.model (form_at_limit handed.model) behind handed.basis

-- The lines spell a model with a form, but those behind its text spell no basis file for it: line n of these, counted
-- from 1, is the first wrong one, with this fault. Where they end too early, it is the one that would come next.
pub record HaveWrongFile (limits : SizeLimits) (style : Style) (lines : List (Line (List ℕ))) (n : ℕ)
    (code : BasCode) : Type 0 where
  pub model : Model
  pub form : Form
  pub behind : List (Line (List ℕ))
  pub text : BeginsWithText limits style lines model behind
  pub formed : form_at_limit model ≡ Ok form
  pub refused : file.Refuses model form behind n code
