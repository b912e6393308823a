-- An entry of the row, or of another one.
use Rattle.std.proofs.Common.{sym, ◌∙◌}
use Rattle.lp_presolve.proofs.Walk.{entry_here, entry_on}
use Rattle.lp_presolve.proofs.carrying.entry.Goals as goal

pub returns-then-e-i : goal.returns-then-e-i
returns-then-e-i c =
    sym (c.loop-e.invariant
    ∙ entry_here c.args.entries.now c.loop-e.e-index c.args.i c.e-item.result c.loop-e-test.true c.e-item.is c.if-e-i.true)

pub loop-e-preserved : goal.loop-e-preserved
loop-e-preserved c =
    c.loop-e.invariant
    ∙ entry_on c.args.entries.now c.loop-e.e-index c.args.i c.e-item.result c.loop-e-test.true c.e-item.is c.if-e-i.false
