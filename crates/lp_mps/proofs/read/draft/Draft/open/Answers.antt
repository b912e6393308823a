use Rattle.std.proofs.Common.{◌∙◌, sym}
use Rattle.lp_mps.specs.Draft.{state_of}
use Rattle.lp_mps.proofs.Opening.{opened_taken, opened_full, opened_new}
use Rattle.lp_mps.proofs.read.draft.Draft.open.Goals as goal

pub returns-then-has : goal.returns-then-has
returns-then-has c =
    opened_taken c.args.limits (state_of c.args.self.now) c.args.name.now c.close.new.self c.in_ok-close.ensures
    (sym c.is_open.ensures ∙ c.if-is_open.false) (sym c.has.ensures ∙ c.if-has.true)

pub returns-then-len-limits : goal.returns-then-len-limits
returns-then-len-limits c =
    opened_full c.args.limits (state_of c.args.self.now) c.args.name.now c.close.new.self c.in_ok-close.ensures
    (sym c.is_open.ensures ∙ c.if-is_open.false) c.len.result (sym c.has.ensures ∙ c.if-has.false)
    c.len.ensures c.if-len-limits.true

pub returns : goal.returns
returns c =
    opened_new c.args.limits (state_of c.args.self.now) c.args.name.now c.close.new.self c.in_ok-close.ensures
    (sym c.is_open.ensures ∙ c.if-is_open.false) c.len.result (state_of c.begin_column.new.self)
    (sym c.has.ensures ∙ c.if-has.false) c.len.ensures c.if-len-limits.false c.in_ok-begin_column.ensures
