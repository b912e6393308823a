-- By the same denominator.
use Rattle.std.proofs.Common.{SFits, to_z-of_z, ◌∙◌}
use mir.Syntax.{w64}
use Rattle.lp_frac.proofs.Exact.{scaled_same}
use Rattle.lp_frac.proofs.short.difference.Goals as goal

pub returns : goal.returns
returns c =
    let e : SFits w64 c.args.e = c.ranges.e in
    let n : SFits w64 c.args.n = c.ranges.n in
    let s = c.scales-p.ensures in
    (simp to_z-of_z at c.difference_on.ensures)
    ∙ scaled_same c.args.e c.args.f c.args.n c.args.k c.scales-p.result.0
    c.scales-p.result.1 c.requires.f_positive c.requires.k_positive s.positive s.same
