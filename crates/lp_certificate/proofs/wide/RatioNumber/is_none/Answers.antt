use Rattle.std.proofs.Common.{sym, ◌∙◌}
use Rattle.lp_certificate.proofs.ReadNumbers.{above_is, not_above_is}
use Rattle.lp_certificate.proofs.wide.RatioNumber.is_none.Goals as goal

pub returns-then-is_positive : goal.returns-then-is_positive
returns-then-is_positive c = above_is c.args.self.now (sym c.is_positive.ensures ∙ c.if-is_positive.true)

pub returns : goal.returns
returns c =
    not_above_is c.args.self.now c.is_negative.result (sym c.is_positive.ensures ∙ c.if-is_positive.false)
    c.is_negative.ensures
