use Rattle.std.proofs.Common.{◌∙◌, to_z-of_z, SFits}
use Rattle.std.proofs.Common.{rules}
use mir.Syntax.{w128}
use Rattle.lp_rows.proofs.Divided.{narrow_fraction}
use Rattle.lp_rows.proofs.narrow.fraction.Goals as goal

pub returns-in-Some-Some : goal.returns-in-Some-Some
returns-in-Some-Some g c =
    let a : SFits w128 c.in-Some-Some.a = search rules in
    let b : SFits w128 c.in-Some-Some.b = search rules in
    narrow_fraction c.args.v.number.negative (g.T.Words.value c.args.v.number.size) (g.T.Words.value c.args.v.denominator) _ _ _ _ _ _
    c.requires c.in-Some.ensures.0 c.in-Some.ensures.1 (to_z-of_z a ∙ c.in-Some-Some.ensures)
    (to_z-of_z b ∙ c.in-Some-Some.ensures') c.made.ensures
