use Rattle.spec_solve.proofs.ExactAnswers.{found_exactly}
use Rattle.spec_solve.proofs.what_the_cold_solve_finds_is_answered_exactly.Goals as goal

pub returns : goal.returns
returns c = λ m budget starting known cert basis pivots end usual found h.
    found_exactly m budget starting known cert basis pivots end usual found h
