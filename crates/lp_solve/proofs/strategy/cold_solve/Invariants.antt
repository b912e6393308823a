-- The loop over the engines.
use Rattle.std.proofs.Common.{All, take}
use Rattle.lp_solve.specs.Strategy.{GaveUp}
use Rattle.lp_solve.proofs.strategy.cold_solve.Given as goal

-- each one before this one has given up
abbrev pub invariant-loop-engine : goal.invariant-loop-engine
invariant-loop-engine l = All (GaveUp l.budget l.model l.form l.refused) (take l.engine-index l.engine-items)
