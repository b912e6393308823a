-- How the lines of a text, and of a basis file after it, lead from stage to stage.
--
-- `said_within`: reading by steps with the limits says what the definition of the reading says.
-- `leads_from`: a line leads to the state, or to the result, that one step of the reading gives.
use Rattle.std.proofs.Common.{◌≡◌, ℕ, ◌+◌, ◌≤◌, Some, Result, Ok, Err, List, [], ◌∷◌, arith, refl, subst}
use Rattle.std.specs.Prelude.{IfOk}
use Rattle.spec_text.specs.declared.line.Line.{Line}
use Rattle.spec_text.specs.declared.line.Line.TheVariants.{End}
use Rattle.spec_exact.specs.Fraction.{ℚ}
use Rattle.spec_exact.specs.Narrow.{number_limit}
use Rattle.spec_model.specs.Model.{Model}
use Rattle.spec_model.specs.declared.parts.SizeLimits.{SizeLimits}
use Rattle.spec_mps.specs.declared.style.Style.{Style}
use Rattle.spec_mps.specs.Steps as text
use Rattle.spec_simplex.specs.declared.ends.FormFault.{FormFault}
use Rattle.spec_simplex.specs.Form.{Form, form_of}
use Rattle.spec_bas.specs.Cards.{reading_of}
use Rattle.spec_bas.specs.Steps as file
use Rattle.spec_commands.specs.BasisOut as reading
use Rattle.spec_commands.specs.BasisOut.{basis_step}
use Rattle.spec_server.specs.Said as said
use Rattle.lp_line.specs.declared.hearing.Step.{Step}
use Rattle.lp_line.specs.Hearing.{Leads}
use Rattle.lp_text_commands.specs.declared.basis.stage.BasisStage.{BasisStage}
use Rattle.lp_text_commands.specs.declared.basis.stage.BasisStage.TheVariants as stage
use Rattle.lp_text_commands.proofs.LeadingOn as on
use Rattle.lp_text_commands.proofs.LeadingOn.{on_same}
use Rattle.lp_text_commands.specs.Basis.{ReadingAt, step_within, reading_step, stage_of, step_of, count_of, BasisSays}

-- ---- a line counts for one

-- how many lines a stage has counted, of the text or of the basis file
abbrev lines_in : reading.Stage → ℕ
lines_in (reading.InText style s n) = n
lines_in (reading.InFile m f s n) = n

-- where a basis file begins behind a text, the next state has counted no more lines than were read
begun_counts : (m : Model) (n : ℕ) (o : Result Form (FormFault ℚ)) (next : reading.Stage) →
    reading.begun_file m o ≡ said.On next → lines_in next ≤ n
begun_counts m n (Ok f) next e = subst (λ a. lines_in a ≤ n) (on_same _ next e) (omega arith)
begun_counts m n (Err why) next e = cc

-- behind a line of a text, the next state has counted no more lines than were read
text_counts : (style : Style) (n : ℕ) (o : text.Outcome) (next : reading.Stage) →
    reading.behind_text style n o ≡ said.On next → lines_in next ≤ n
text_counts style n (Ok (text.More s)) next e = subst (λ a. lines_in a ≤ n) (on_same _ next e) (omega arith)
text_counts style n (Ok (text.Done m)) next e = begun_counts m n (form_of (Some number_limit) m) next e
text_counts style n (Err code) next e = cc

-- behind a line of a basis file, the next state has counted no more lines than were read
file_counts : (m : Model) (f : Form) (n : ℕ) (o : file.Outcome) (next : reading.Stage) →
    reading.behind_file m f n o ≡ said.On next → lines_in next ≤ n
file_counts m f n (Ok (file.More s)) next e = subst (λ a. lines_in a ≤ n) (on_same _ next e) (omega arith)
file_counts m f n (Ok (file.Done basis)) next e = cc
file_counts m f n (Err code) next e = cc

-- a line leads to a state of the reading that has counted at most one line more
stage_counts : (limits : SizeLimits) (at next : reading.Stage) (line : Line (List ℕ)) →
    basis_step limits at line ≡ said.On next → lines_in next ≤ lines_in at + 1
unfolding basis_step
stage_counts limits (reading.InText style s n) next line e = text_counts style (n + 1) (text.step limits style s line)
    next e
stage_counts limits (reading.InFile m f s n) next line e = file_counts m f (n + 1) (file.step m f s line) next e

-- ---- within limits

-- what holds of each stage to which a step leads holds of the stage to which the step leads with its limits beside it
on_within : (limits : SizeLimits) (P : reading.Stage → Type 0) (o : said.Step reading.Stage reading.BasisSaid) →
    ((s : reading.Stage) → o ≡ said.On s → P s) → (next : ReadingAt) → step_within limits o ≡ said.On next → P next.stage
on_within limits P (said.On s) h next e = subst (λ (r : ReadingAt). P r.stage) (on_same _ next e) (h s refl)
on_within limits P (said.Says what) h next e = cc

-- a line leads to a state of the reading, with limits, that has counted at most one line more
step_counts : (at next : ReadingAt) (line : Line (List ℕ)) → reading_step at line ≡ said.On next →
    lines_in next.stage ≤ lines_in at.stage + 1
step_counts at next line e =
    on_within at.limits (λ s. lines_in s ≤ lines_in at.stage + 1) (basis_step at.limits at.stage line)
    (λ s. stage_counts at.limits at.stage s line) next e

-- the code's state of the reading has counted as many lines as the definition's
count_is : (at : BasisStage) → lines_in (stage_of at).stage ≡ count_of at
count_is (stage.Text reader) = refl
count_is (stage.File at) = refl

-- the lines say the same
pub said_within : (limits : SizeLimits) (at : reading.Stage) (lines : List (Line (List ℕ))) →
    said.said_by reading_step (record { limits = limits; stage = at }) lines ≡ reading.basis_said_from limits at lines
said_within limits at [] = refl
said_within limits at (line ∷ lines) = by (basis_step limits at line) (λ s. said_within limits s lines)
  where
    by : (o : said.Step reading.Stage reading.BasisSaid)
        → ((s : reading.Stage)
        → said.said_by reading_step (record { limits = limits; stage = s }) lines
        ≡ reading.basis_said_from limits s lines)
        → said.follow (step_within limits o) (λ s. said.said_by reading_step s lines)
        ≡ said.follow o (λ s. reading.basis_said_from limits s lines)
    by (said.On s) rest = rest s
    by (said.Says what) rest = refl

-- ---- at the end of the input something is said

-- at the end of the input no state of the reading goes on to another one
stage_ends : (limits : SizeLimits) (at next : reading.Stage) → basis_step limits at End ≡ said.On next → ⊥
unfolding basis_step text.step file.step reading_of
stage_ends limits (reading.InText style s n) next e = cc
stage_ends limits (reading.InFile m f s n) next e = cc

-- no reading goes on at the end of the input
end_says : (at next : ReadingAt) → reading_step at End ≡ said.On next → ⊥
end_says at next e =
    on_within at.limits (λ s. ⊥) (basis_step at.limits at.stage End) (stage_ends at.limits at.stage) next e

-- from the stage that self is
pub leads_from : {E : Type 0} (self at : BasisStage) (line : Line (List ℕ))
    (result : Result (Step BasisStage reading.BasisSaid) E) →
    self ≡ at → IfOk result (λ made. step_of made ≡ reading_step (stage_of at) line) →
    IfOk result (Leads BasisSays count_of self line)
leads_from = on.leads_from stage_of reading_step count_of (λ at. lines_in at.stage) count_is step_counts end_says
