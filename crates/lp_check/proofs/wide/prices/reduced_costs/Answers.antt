use Rattle.std.proofs.Common.{ap, ◌∙◌, map}
use Rattle.spec_exact.specs.Fraction.{◌-ℚ◌}
use Rattle.spec_model.specs.Model.{cost}
use Rattle.spec_check.specs.Checks.{signed, priced}
use Rattle.lp_ratio.specs.Multiple.{multiple}
use Rattle.lp_check.proofs.Scaled.{reduced_is}
use Rattle.lp_check.proofs.wide.prices.reduced_costs.Goals as goal

pub returns-clause-value : goal.returns-clause-value
returns-clause-value c = λ j l.
    reduced_is c.args.model.now c.args.y.now c.in_ok-numbers.numbers.items j c.in_ok-times.times _ c.in_ok-times.ensures
    (c.in_ok-numbers.ensures ∙ ap (map (multiple c.in_ok-times.times)) c.as_slice-2.ensures)
    (c.in_ok-reduced.ensures.value j l
    ∙ ap (λ ys. multiple c.in_ok-times.times (signed c.args.model.now.sense (cost c.args.model.now j))
    -ℚ priced c.args.model.now ys j) c.deref.ensures.value)
