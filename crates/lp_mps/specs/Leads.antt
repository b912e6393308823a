-- Runs of lines that are each read.
use Rattle.std.specs.Prelude.{ℕ, ◌≡◌, Ok, List, [], ◌∷◌}
use Rattle.spec_text.specs.declared.line.Line.{Line}
use Rattle.spec_model.specs.declared.parts.SizeLimits.{SizeLimits}
use Rattle.spec_mps.specs.declared.style.Style.{Style}
use Rattle.spec_mps.specs.Reader.{State, start}
use Rattle.spec_mps.specs.Steps.{More, step}

-- the reader takes these lines, one after the other, from the state s to the state t,
-- without an end and without a fault
abbrev pub Leads : SizeLimits → Style → State → List (Line (List ℕ)) → State → Type 0
Leads limits style s [] t = s ≡ t
Leads limits style s (line ∷ lines) t = (u : State) × (step limits style s line ≡ Ok (More u)) × Leads limits style u
    lines t

-- some lines take the reader from the start to this state
abbrev pub IsReached : SizeLimits → Style → State → Type 0
IsReached limits style s = (lines : List (Line (List ℕ))) × Leads limits style start lines s
