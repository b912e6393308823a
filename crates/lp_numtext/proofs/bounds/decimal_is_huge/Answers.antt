use Rattle.std.proofs.Common.{rules, ◌+◌, sym, ap, ap₂, ◌∙◌, arith, pos, ◌+ℤ◌, ◌-ℤ◌, to_z-of_z, SFits}
use Rattle.std.specs.Prelude.{int_lt}
use mir.Syntax.{w128}
use Rattle.spec_mps.specs.NumberText as number
use Rattle.lp_numtext.specs.Near.{near}
use Rattle.lp_numtext.proofs.BoundSteps.{decimal_small, decimal_huge}
use Rattle.lp_numtext.proofs.bounds.decimal_is_huge.Goals as goal

pub returns-then-zeros-len : goal.returns-then-zeros-len
returns-then-zeros-len c =
    let d = c.args.d in
    decimal_small d.is_negative d.front.bytes.now d.back.bytes.now
    _ c.zeros_in_front-zeros.result c.zeros_in_front-zeros.ensures
    (c.if-zeros-len.true ∙ ap₂ (λ x y. x + y) c.len.ensures c.len-2.ensures)

pub returns : goal.returns
returns c =
    let d = c.args.d in
    let n : SFits w128 c.shifted.result = search rules in
    let l : SFits w128 c.from.result = search rules in
    ap₂ int_lt (to_z-of_z l ∙ c.from.ensures) (to_z-of_z n)
    ∙ decimal_huge d.is_negative d.front.bytes.now d.back.bytes.now d.exponent.is_negative
    (number.spelled d.exponent.digits.bytes.now) c.zeros_in_front-zeros.result c.shifted.result
    d.front.digits d.back.digits c.zeros_in_front-zeros.ensures
    (λ e. c.if-zeros-len.false (e ∙ ap₂ (λ x y. x + y) (sym c.len.ensures) (sym c.len-2.ensures)))
    (omega arith) (omega arith)
    (c.shifted.ensures ∙ ap (λ w. near d.exponent.is_negative (number.spelled d.exponent.digits.bytes.now)
    +ℤ pos w -ℤ pos c.zeros_in_front-zeros.result) c.len-3.ensures)
