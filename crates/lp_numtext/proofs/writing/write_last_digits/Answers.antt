use Rattle.std.proofs.Common.{◌+◌, ◌-◌, ◌/◌, ◌%◌, [], ◌∷◌, ◌++◌, ap, ◌∙◌, arith}
use Rattle.lp_numtext.proofs.WriteSteps.{power_positive, digit_more}
use Rattle.lp_numtext.proofs.writing.write_last_digits.Goals as goal

pub nonzero_div-digit : goal.nonzero_div-digit
nonzero_div-digit c = power_positive c.pow.result (c.loop-place.place - 1) c.pow.ensures

pub loop-place-preserved : goal.loop-place-preserved
loop-place-preserved c =
    digit_more c.loop-place.to c.push.new.self c.loop-place.place (c.loop-place.place - 1) c.args.n (omega arith)
    (c.in_ok-push.ensures.ok ∙ ap (λ p. c.loop-place.to ++ (48 + c.args.n / p % 10) ∷ []) c.pow.ensures)
    ∙ c.loop-place.invariant
