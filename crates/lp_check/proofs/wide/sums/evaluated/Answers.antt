use Rattle.std.proofs.Common.{◌≡◌, ◌<◌, ℕ, List, ap, ◌∙◌, map, subst}
use Rattle.spec_exact.specs.Fraction.{ℚ}
use Rattle.spec_model.specs.Model.{cost_of, activity, height, part}
use Rattle.lp_ratio.specs.Multiple.{multiple}
use Rattle.lp_check.proofs.Scaled.{sums_are, cost_is}
use Rattle.lp_check.proofs.wide.sums.evaluated.Goals as goal

pub returns-clause-sums : goal.returns-clause-sums
returns-clause-sums c =
    sums_are c.args.model.now c.args.z.now c.in_ok-numbers.numbers.items c.in_ok-sums.sums c.in_ok-times.times
    c.in_ok-times.ensures
    (c.in_ok-numbers.ensures ∙ ap (map (multiple c.in_ok-times.times)) c.as_slice-2.ensures)
    c.in_ok-sums.ensures.len
    (subst (λ (ns : List ℚ). (i : ℕ) → i < height c.args.model.now →
    multiple c.in_ok-times.times (part c.in_ok-sums.sums i) ≡ activity c.args.model.now ns i)
    c.deref.ensures.value c.in_ok-sums.ensures.value)

pub returns-clause-cost : goal.returns-clause-cost
returns-clause-cost c =
    cost_is c.args.model.now c.args.z.now c.in_ok-numbers.numbers.items c.in_ok-times.times _ c.in_ok-times.ensures
    (c.in_ok-numbers.ensures ∙ ap (map (multiple c.in_ok-times.times)) c.as_slice-2.ensures)
    (c.in_ok-cost.ensures ∙ ap (cost_of c.args.model.now) c.deref-2.ensures.value)
