-- A right side that is 0 has no card.
use Rattle.std.proofs.Common.{sym, ◌∙◌}
use Rattle.lp_mps.proofs.AddSteps.{nothing}
use Rattle.lp_mps.proofs.write.line.Writer.side.Goals as goal

pub returns-then-is_zero : goal.returns-then-is_zero
returns-then-is_zero c = rw (sym c.is_zero.ensures ∙ c.if-is_zero.true) (nothing c.args.self.now.style c.args.to.now)

pub returns : goal.returns
returns c = rw (sym c.is_zero.ensures ∙ c.if-is_zero.false) c.number_card.ensures
