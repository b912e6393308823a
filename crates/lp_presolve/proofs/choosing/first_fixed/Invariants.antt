-- The loop over the columns.
use Rattle.std.proofs.Common.{◌≡◌, None, Ok}
use Rattle.spec_presolve.specs.Choose.{first, fixed_at}
use Rattle.lp_presolve.proofs.choosing.first_fixed.Given as goal

-- nothing so far
abbrev pub invariant-loop-j : goal.invariant-loop-j
invariant-loop-j l = first l.j (fixed_at l.model) ≡ Ok None
