-- Where the first operand is 0.
use Rattle.std.proofs.Common.{sym, ap, ◌∙◌, Some}
use Rattle.spec_exact.specs.Run.{less_product}
use Rattle.spec_exact.specs.Narrow.{number_limit}
use Rattle.lp_revised.proofs.Gaps.{less_zero_left}
use Rattle.lp_revised.proofs.items.less_part.Goals as goal

pub returns-then-is_zero : goal.returns-then-is_zero
returns-then-is_zero c =
    sym
    (ap (λ v. less_product (Some number_limit) v c.args.w c.args.s) (c.is_zero.ensures.0 c.if-is_zero.true)
    ∙ less_zero_left c.args.w c.args.s c.requires.w_narrow c.requires.s_narrow)
