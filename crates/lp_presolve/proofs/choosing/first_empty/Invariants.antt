-- The loop over the rows.
use Rattle.std.proofs.Common.{◌≡◌, Some, None, Ok}
use Rattle.spec_exact.specs.Narrow.{number_limit}
use Rattle.spec_presolve.specs.Choose.{first, empty_at}
use Rattle.lp_presolve.proofs.choosing.first_empty.Given as goal

-- nothing so far
abbrev pub invariant-loop-i : goal.invariant-loop-i
invariant-loop-i l = first l.i (empty_at (Some number_limit) l.model) ≡ Ok None
