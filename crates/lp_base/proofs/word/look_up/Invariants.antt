-- Not in the lines so far.
use Rattle.std.proofs.Common.{◌≡◌, drop}
use Rattle.lp_base.specs.Tables.{beside}
use Rattle.lp_base.proofs.word.look_up.Given as goal

abbrev pub invariant-loop-line : goal.invariant-loop-line
invariant-loop-line g l = beside l.word l.table ≡ beside l.word (drop l.line-index l.table)
