use Rattle.std.proofs.Common.{◌-◌, ap, ◌∙◌, take, length}
use Rattle.std.specs.Prelude.{nat_le}
use Rattle.spec_mps.specs.NumberText as number
use Rattle.lp_numtext.proofs.BoundSteps.{quotient_huge}
use Rattle.lp_numtext.proofs.bounds.quotient_is_huge.Goals as goal

pub returns : goal.returns
returns c =
    let top = c.args.q.top.bytes.now in
    let bottom = number.spelled c.args.q.bottom.bytes.now in
    c.are_at_least.ensures
    ∙ ap (λ bs. nat_le bottom (number.spelled bs))
    (c.without_last.ensures ∙ ap (λ n. take (length top - n) top) c.from.ensures)
    ∙ quotient_huge c.args.q.is_negative top bottom c.args.q.top.digits c.args.q.not_zero
