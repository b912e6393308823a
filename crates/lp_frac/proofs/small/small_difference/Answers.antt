-- By the same denominator.
use Rattle.std.proofs.Common.{SFits, to_z-of_z, ◌∙◌}
use Rattle.std.proofs.lemmas.Option.{IfSome_then}
use mir.Syntax.{w32, w64}
use Rattle.lp_frac.proofs.Exact.{scaled_same}
use Rattle.lp_frac.proofs.small.small_difference.Goals as goal

pub returns : goal.returns
returns c =
    let e : SFits w32 c.args.e = c.ranges.e in
    let n : SFits w64 c.args.n = c.ranges.n in
    let s = c.scales-p.ensures in
    IfSome_then c.small_difference_on.result (simp to_z-of_z at c.small_difference_on.ensures)
    (λ x h. h ∙ scaled_same c.args.e c.args.f c.args.n c.args.k c.scales-p.result.0
    c.scales-p.result.1 c.requires.f_positive c.requires.k_positive s.positive s.same)
