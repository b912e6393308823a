use Rattle.std.proofs.Common.{◌∙◌, ap, rules, to_z-of_z, SFits, unsigned_abs}
use mir.Syntax.{w128}
use Rattle.lp_rows.proofs.Converted.{number_gives}
use Rattle.lp_rows.proofs.tableau.common.own_denominator.Goals as goal

pub returns : goal.returns
returns g c =
    let fits : SFits w128 c.den.result = search rules in
    number_gives g.T.Words.value g.T.Words.base c.args.f.den _ c.from_number.result
    (c.unsigned_abs.ensures.value ∙ ap unsigned_abs (to_z-of_z fits ∙ c.den.ensures.value)) c.from_number.ensures
