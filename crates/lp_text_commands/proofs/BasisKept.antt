-- The model that is said of a text and of a basis file after it is one of the text.
use Rattle.std.proofs.Common.{◌≡◌, ℕ, ◌+◌, List, [], ◌∷◌, ◌++◌, take, Option, Some, None, Result, Ok, Err, ap, ⊎_elim}
use Rattle.spec_text.specs.declared.line.Line.{Line}
use Rattle.spec_text.specs.declared.line.Line.TheVariants as line
use Rattle.spec_text.specs.Lines.{lines_of, ended_lines_of, input_limit}
use Rattle.spec_exact.specs.Fraction.{ℚ}
use Rattle.spec_exact.specs.Narrow.{number_limit}
use Rattle.spec_model.specs.declared.parts.SizeLimits.{SizeLimits}
use Rattle.spec_model.specs.Model.{Model}
use Rattle.spec_model.specs.Kept.{IsModelWithin}
use Rattle.spec_mps.specs.declared.style.Style.{Style}
use Rattle.spec_mps.specs.Reader.{State, start}
use Rattle.spec_mps.specs.Steps as text
use Rattle.spec_mps.proofs.SpelledKept.{spelled_kept}
use Rattle.spec_simplex.specs.declared.ends.FormFault.{FormFault}
use Rattle.spec_simplex.specs.Form.{Form, form_of}
use Rattle.spec_bas.specs.Steps as file
use Rattle.spec_server.specs.Said.{follow}
use Rattle.spec_commands.specs.BasisOut.{Handed, BasisSaid, InText, InFile, begun_file, behind_text, behind_file}
use Rattle.spec_commands.specs.BasisOut.{basis_step, basis_said_from, basis_said}
use Rattle.lp_text_commands.specs.Hearing.{Hears}
use Rattle.lp_text_commands.specs.Said.{MayTake}

-- where the same is said of a text and a basis file, the models are the same
same_model : (a b : Handed) → ◌≡◌ {A = Option BasisSaid} (Some (Ok a)) (Some (Ok b)) → a.model ≡ b.model
same_model a b e = let same : a ≡ b = cc in ap (λ (h : Handed). h.model) same

module _ (limits : SizeLimits) (handed : Handed) where
  -- where lines of a basis file for a model are said to give a model and a basis, that model is the one
  file_model : (m : Model) (f : Form) (lines : List (Line (List ℕ))) (s : file.State) (n : ℕ) →
      basis_said_from limits (InFile m f s n) lines ≡ Some (Ok handed) → m ≡ handed.model
  unfolding basis_step
  file_model m f [] s n h = absurd (cc)
  file_model m f (next ∷ lines) s n h = by (file.step m f s next) (λ t. file_model m f lines t (n + 1)) h
    where
      by : (o : file.Outcome)
          → ((t : file.State) → basis_said_from limits (InFile m f t (n + 1)) lines ≡ Some (Ok handed) →
          m ≡ handed.model)
          → follow (behind_file m f (n + 1) o) (λ stage. basis_said_from limits stage lines) ≡ Some (Ok handed)
          → m ≡ handed.model
      by (Ok (file.More t)) rest h = rest t h
      by (Ok (file.Done basis)) rest h = same_model (record { model = m; basis = Some basis }) handed h
      by (Err code) rest h = absurd (cc)

  -- where lines behind a text give a model and a basis, the model is that of the text
  begun_model : (m : Model) (o : Result Form (FormFault ℚ)) (lines : List (Line (List ℕ))) →
      follow (begun_file m o) (λ stage. basis_said_from limits stage lines) ≡ Some (Ok handed) → m ≡ handed.model
  begun_model m (Ok f) lines h = file_model m f lines (file.start f) 0 h
  begun_model m (Err why) lines h = same_model (record { model = m; basis = None }) handed h

  -- where lines of a text and a basis file from a state of the text on are said to give a model, the text's lines spell
  -- it
  spelled_from : (style : Style) (lines : List (Line (List ℕ))) (s : State) (n : ℕ) →
      basis_said_from limits (InText style s n) lines ≡ Some (Ok handed) →
      text.judge limits style s (n + 1) lines ≡ text.Spelled handed.model
  unfolding basis_step
  spelled_from style [] s n h = absurd (cc)
  spelled_from style (next ∷ lines) s n h =
      by (text.step limits style s next) (λ t. spelled_from style lines t (n + 1)) h
    where
      by : (o : text.Outcome)
          → ((t : State) → basis_said_from limits (InText style t (n + 1)) lines ≡ Some (Ok handed) →
          text.judge limits style t (n + 1 + 1) lines ≡ text.Spelled handed.model)
          → follow (behind_text style (n + 1) o) (λ stage. basis_said_from limits stage lines) ≡ Some (Ok handed)
          → text.settled (n + 1) (λ t. text.judge limits style t (n + 1 + 1) lines) o ≡ text.Spelled handed.model
      by (Ok (text.More t)) rest h = rest t h
      by (Ok (text.Done m)) rest h = ap text.Spelled (begun_model m (form_of (Some number_limit) m) lines h)
      by (Err code) rest h = absurd (cc)

-- a model that is said of a text and a basis file is within the limits
said_within : (limits : SizeLimits) (style : Style) (lines : List (Line (List ℕ))) (what : BasisSaid) →
    basis_said limits style lines ≡ Some what → MayTake (λ handed. IsModelWithin limits handed.model) what
said_within limits style lines (Ok handed) h =
    spelled_kept limits style lines handed.model (spelled_from limits handed style lines start 0 h)
said_within limits style lines (Err fault) h = tt

-- where a text and a basis file are read within limits and give a model, the model is within these limits
pub heard_within : (limits : SizeLimits) (style : Style) (before after : Option (List ℕ)) (what : BasisSaid) →
    Hears (basis_said limits style) before after what → MayTake (λ handed. IsModelWithin limits handed.model) what
heard_within limits style before after what h =
    ⊎_elim (λ early. said_within limits style (ended_lines_of (take input_limit (h.read ++ []))) what (early []))
    (λ at_end. said_within limits style (lines_of h.read ++ line.End ∷ []) what at_end.all) h.is_said
