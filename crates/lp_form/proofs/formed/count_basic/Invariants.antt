-- The loop over the columns.
use Rattle.std.proofs.Common.{◌≡◌, ◌≤◌}
use Rattle.spec_simplex.specs.Eliminate.{basics_below}
use Rattle.spec_board.specs.Words.{unpacked}
use Rattle.lp_form.proofs.formed.count_basic.Given as goal

-- the count is that of the basic columns among the first c, and at most c
abbrev pub invariant-loop-c : goal.invariant-loop-c
invariant-loop-c l = (l.count ≤ l.c) × (l.count ≡ basics_below (unpacked l.words) l.c)
