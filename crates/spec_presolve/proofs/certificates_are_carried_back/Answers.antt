use Rattle.std.proofs.Common.{subst, Ok}
use Rattle.spec_check.specs.Certificate.{Holds}
use Rattle.spec_check.specs.Run.{Agrees, check_run}
use Rattle.spec_check.proofs.Sound.{checks_hold}
use Rattle.spec_check.proofs.RunAgrees.{run_agrees}
use Rattle.spec_check.proofs.RunComplete.{run_complete}
use Rattle.spec_presolve.proofs.Carried.{carries}
use Rattle.spec_presolve.proofs.certificates_are_carried_back.Goals as goal

pub returns-clause-conditions : goal.returns-clause-conditions
returns-clause-conditions c = carries

pub returns-clause-truth : goal.returns-clause-truth
returns-clause-truth c limit m r certificate back h k f w =
    let x = carries limit m r certificate back h k f w in subst (Holds m) x.shows (checks_hold m back x.checks)

pub returns-clause-accepted : goal.returns-clause-accepted
returns-clause-accepted c limit other m r certificate back h k f w =
    let x = carries limit m r certificate back h k f w in
    subst (λ known. Agrees (check_run other m back) (Ok known)) x.shows
    (subst (λ o. Agrees (check_run other m back) o) (run_complete m back x.checks) (run_agrees other m back))
