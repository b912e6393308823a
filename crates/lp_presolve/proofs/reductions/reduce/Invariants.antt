-- The loop over the reductions.
use Rattle.lp_presolve.proofs.Reached.{Reached}
use Rattle.lp_presolve.proofs.reductions.reduce.Given as goal

-- the model is reduced so far
abbrev pub invariant-loop : goal.invariant-loop
invariant-loop l = Reached l.initial.model l.initial.steps l.counter l.model l.steps
