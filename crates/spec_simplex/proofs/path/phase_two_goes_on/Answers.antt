use Rattle.spec_simplex.proofs.PhaseTwo.{second_phase}
use Rattle.spec_simplex.proofs.path.phase_two_goes_on.Goals as goal

pub returns : goal.returns
returns c = λ limit form m n f cost b t u s inside free few h.
    let two = second_phase limit form m n f cost b t u s inside free few h in (two.tableau, two.within)
