-- Steps of a reading, by what its stages are.
use Rattle.std.specs.Prelude.{◌≡◌, ℕ, Option, List}
use Rattle.spec_text.specs.declared.line.Line.{Line}
use Rattle.spec_server.specs.Said as said
use Rattle.lp_line.specs.declared.hearing.Step.{Step}
use Rattle.lp_line.specs.declared.hearing.Step.TheVariants as step

-- a step of the code's reading as one of the definition's, in which `stage_of` gives the further stage
abbrev pub step_by : {T S R : Type 0} → (T → S) → Step T R → said.Step S R
step_by stage_of (step.On next) = said.On (stage_of next)
step_by stage_of (step.Says what) = said.Says what

-- the answer is what these lines say from the code's stage on, which `stage_of` gives as the definition's; none where
-- more are needed
abbrev pub says_by : {T S R : Type 0} → (T → S) → (S → Line (List ℕ) → said.Step S R) → T → List (Line (List ℕ)) →
    Option R → Type 0
says_by stage_of advance stage lines answer = said.said_by advance (stage_of stage) lines ≡ answer
