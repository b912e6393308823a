use Rattle.spec_solve.proofs.Left.{solved_left}
use Rattle.spec_solve.proofs.solves_leave_bases_of_the_form.Goals as goal

pub returns : goal.returns
returns c = λ m budget f handed solved known cert left pivots formed fits h is.
    solved_left known cert left pivots m budget f formed solved is handed fits h
