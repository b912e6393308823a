-- By the parts.
use Rattle.std.proofs.Common.{rules, SFits, to_z-of_z}
use mir.Syntax.{w64}
use Rattle.lp_frac.proofs.Exact.{less_short}
use Rattle.lp_frac.proofs.short.short_less.Goals as goal

pub returns-in-Some-short_product : goal.returns-in-Some-short_product
returns-in-Some-short_product c =
    let s = c.in-Some in
    let p = c.in-Some-short_product in
    let n : SFits w64 p.n = search rules in
    let e : SFits w64 s.e = search rules in
    less_short c.args.v c.args.w c.args.s c.difference.result p.n s.e p.k s.f
    p.ensures s.ensures (simp to_z-of_z at c.difference.ensures)
