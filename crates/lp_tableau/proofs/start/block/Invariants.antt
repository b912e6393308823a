-- The loop over the rows.
use Rattle.std.proofs.Common.{◌≡◌}
use Rattle.lp_tableau.specs.Begun.{start_front}
use Rattle.lp_tableau.specs.Grid.{flat}
use Rattle.lp_tableau.proofs.start.block.Given as goal

-- the rows so far are there
abbrev pub invariant-loop-i : goal.invariant-loop-i
invariant-loop-i l = l.block.items ≡ flat l.i (start_front l.form l.starts)
