-- The loop over the columns.
use Rattle.std.proofs.Common.{◌≡◌}
use Rattle.spec_simplex.specs.Fit.{all_meet}
use Rattle.lp_simplex.proofs.dual.needs.all_meet.Given as goal

-- whether the columns so far meet their needs
abbrev pub invariant-loop-k : goal.invariant-loop-k
invariant-loop-k l = l.met ≡ all_meet l.tab l.k
