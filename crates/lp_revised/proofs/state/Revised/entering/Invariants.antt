-- The loop over the columns.
use Rattle.std.proofs.Common.{◌≡◌, None, Ok}
use Rattle.spec_exact.specs.Run.{steps}
use Rattle.lp_revised.proofs.Entered.{priced_at}
use Rattle.lp_revised.proofs.state.Revised.entering.Given as goal

-- no column so far may enter
abbrev pub invariant-loop-col : goal.invariant-loop-col
invariant-loop-col l = steps l.col (priced_at l.form l.costs l.y l.self.bare) None ≡ Ok None
