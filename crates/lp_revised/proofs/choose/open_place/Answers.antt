-- The first place that is open.
use Rattle.lp_revised.proofs.Opens.{open_next, open_here, opened}
use Rattle.std.proofs.Common.{length, sym, ◌∙◌}
use Rattle.lp_revised.proofs.choose.open_place.Goals as goal

pub returns-then-is_open-clause-value : goal.returns-then-is_open-clause-value
returns-then-is_open-clause-value c =
    open_here c.args.columns.now c.args.v.now c.loop-i.i (length c.args.columns.now) c.loop-i.invariant
    (sym c.is_open.ensures ∙ c.if-is_open.true) c.loop-i-test.true

pub returns-then-is_open-clause-open : goal.returns-then-is_open-clause-open
returns-then-is_open-clause-open c =
    (c.loop-i-test.true, opened c.args.columns.now c.args.v.now c.loop-i.i (sym c.is_open.ensures ∙ c.if-is_open.true))

pub loop-i-preserved : goal.loop-i-preserved
loop-i-preserved c =
    open_next c.args.columns.now c.args.v.now c.loop-i.i c.loop-i.invariant (sym c.is_open.ensures ∙ c.if-is_open.false)
