use Rattle.std.proofs.Common.{◌∙◌, rules, to_z-of_z, SFits}
use mir.Syntax.{w128}
use Rattle.lp_rows.proofs.Converted.{whole_gives}
use Rattle.lp_rows.proofs.tableau.common.numerator.Goals as goal

pub returns : goal.returns
returns g c =
    let fits : SFits w128 c.num.result = search rules in
    whole_gives g.T.Words.value g.T.Words.base c.args.f.num _ c.from_whole.result
    (to_z-of_z fits ∙ c.num.ensures.value) c.from_whole.ensures
