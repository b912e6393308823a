use Rattle.spec_solve.proofs.Solves.{is_solved, solved_ends, solved_fits}
use Rattle.spec_solve.proofs.answers_are_ends_of_solves.Goals as goal

pub returns : goal.returns
returns c = record {
  allowed = is_solved;
  ends = solved_ends;
  certificates = λ m budget handed solved known cert basis pivots h.
      solved_fits m budget handed solved h known cert basis pivots;
}
