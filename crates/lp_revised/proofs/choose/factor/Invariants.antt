-- The loop over the columns.
use Rattle.lp_revised.proofs.Opens.{ChosenTo}
use Rattle.lp_revised.proofs.choose.factor.Given as goal

-- the basic columns so far have places
abbrev pub invariant-loop-k : goal.invariant-loop-k
invariant-loop-k l = ChosenTo l.form l.basis l.k l.chosen
