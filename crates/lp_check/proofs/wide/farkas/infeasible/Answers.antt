use Rattle.std.proofs.Common.{ap, ◌∙◌, map}
use Rattle.lp_ratio.specs.Multiple.{multiple}
use Rattle.lp_check.proofs.Scaled.{says_times}
use Rattle.lp_check.proofs.wide.farkas.infeasible.Goals as goal

pub returns : goal.returns
returns c =
    says_times c.args.model.now c.args.y.now c.from_vec-numbers.result c.in_ok-times.times c.judged.result c.in_ok-times.ensures
    (c.from_vec-numbers.ensures ∙ c.in_ok-multiples.ensures ∙ ap (map (multiple c.in_ok-times.times)) c.as_slice-2.ensures)
    c.judged.ensures
