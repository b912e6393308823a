-- The loop over the positions.
use Rattle.std.proofs.Common.{◌≡◌, Some, Ok}
use Rattle.spec_exact.specs.Run.{steps}
use Rattle.spec_exact.specs.Narrow.{number_limit}
use Rattle.lp_tableau.proofs.Moved.{MovedFrom, move_at}
use Rattle.lp_tableau.proofs.tableau.Tableau.move_values.Given as goal

-- the columns so far have moved
abbrev pub invariant-loop-i : goal.invariant-loop-i
invariant-loop-i l = record {
  moved : steps l.i (move_at (Some number_limit) l.fn.self l.col l.theta l.but) l.fn.self.value ≡ Ok l.self.value;
  rest : MovedFrom l.fn.self l.self;
}
