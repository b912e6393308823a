use Rattle.std.proofs.Common.{◌+◌, sym, ap₂, ◌∙◌, arith}
use Rattle.lp_numtext.proofs.BoundSteps.{zeros_first, zeros_both}
use Rattle.lp_numtext.proofs.bounds.zeros_in_front.Goals as goal

pub returns-then-zeros-len : goal.returns-then-zeros-len
returns-then-zeros-len c =
    c.zeros_in_front-zeros.ensures.value ∙ sym (zeros_first c.args.front.bytes.now c.args.back.bytes.now (omega arith))

pub returns-else-zeros-len : goal.returns-else-zeros-len
returns-else-zeros-len c =
    ap₂ (λ x y. x + y) c.zeros_in_front-zeros.ensures.value c.zeros_in_front.ensures.value
    ∙ sym (zeros_both c.args.front.bytes.now c.args.back.bytes.now (omega arith))
