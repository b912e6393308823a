use Rattle.std.proofs.Common.{Some, ℤ, rules, SFits, to_z-of_z, ap, ◌∙◌}
use mir.Syntax.{w128}
use Rattle.lp_frac.specs.Steps.{narrow}
use Rattle.lp_frac.proofs.ProductSizes.{narrow_least, narrow_other, narrow_unfit}
use Rattle.lp_frac.proofs.limited.long_product.Goals as goal

pub returns-then-p : goal.returns-then-p
returns-then-p c =
    let a : SFits w128 c.args.a = c.ranges.a in
    let b : SFits w128 c.args.b = c.ranges.b in
    let p : SFits w128 c.in-Some.p = search rules in
    narrow_least c.in-Some.p p c.if-p.true ∙ ap narrow (simp to_z-of_z at c.in-Some.ensures).1

pub returns-else-p : goal.returns-else-p
returns-else-p c =
    let a : SFits w128 c.args.a = c.ranges.a in
    let b : SFits w128 c.args.b = c.ranges.b in
    let p : SFits w128 c.in-Some.p = search rules in
    ap (λ (z : ℤ). Some z) (to_z-of_z p) ∙ narrow_other c.in-Some.p p c.if-p.false
    ∙ ap narrow (simp to_z-of_z at c.in-Some.ensures).1

pub returns-in-None : goal.returns-in-None
returns-in-None c =
    let a : SFits w128 c.args.a = c.ranges.a in
    let b : SFits w128 c.args.b = c.ranges.b in
    narrow_unfit _ (simp to_z-of_z at c.in-None.ensures)
