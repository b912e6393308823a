-- The loop over the columns.
use Rattle.std.proofs.Common.{◌≡◌, Some, None, Ok}
use Rattle.spec_exact.specs.Narrow.{number_limit}
use Rattle.spec_presolve.specs.Choose.{first, clash_at}
use Rattle.lp_presolve.proofs.choosing.first_clash.Given as goal

-- nothing so far
abbrev pub invariant-loop-j : goal.invariant-loop-j
invariant-loop-j l = first l.j (clash_at (Some number_limit) l.model) ≡ Ok None
