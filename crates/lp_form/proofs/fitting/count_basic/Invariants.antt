-- As many columns so far are basic as were counted, and no more than were gone over.
use Rattle.std.proofs.Common.{◌≡◌, ◌≤◌}
use Rattle.spec_simplex.specs.Eliminate.{basics_below}
use Rattle.lp_form.proofs.fitting.count_basic.Given as goal

-- the count is that of the basic columns among the first k, and at most k
abbrev pub invariant-loop-k : goal.invariant-loop-k
invariant-loop-k l = (l.count ≡ basics_below l.basis l.k) × (l.count ≤ l.k)
