use Rattle.std.proofs.Common.{◌≡◌, Some, ℤ, ◌+ℤ◌, SFits, to_z, of_z, to_z-of_z, subst, sym, ap, ap₂, ◌∙◌}
use mir.Syntax.{w128}
use Rattle.lp_frac.specs.Steps.{narrow}
use Rattle.lp_frac.proofs.ProductSizes.{narrow_least, narrow_other, narrow_unfit}
use Rattle.lp_frac.proofs.limited.plus.Goals as goal

same_sum : (a b : ℤ) → SFits w128 a → SFits w128 b →
    to_z w128 (of_z w128 a) +ℤ to_z w128 (of_z w128 b) ≡ a +ℤ b
same_sum a b f g = ap₂ ◌+ℤ◌ (to_z-of_z f) (to_z-of_z g)

pub returns-then-s : goal.returns-then-s
returns-then-s c =
    let sum = c.in-Some.ensures in
    narrow_least c.in-Some.s (subst (SFits w128) (sym sum.1) sum.0) c.if-s.true
    ∙ ap narrow (sum.1 ∙ same_sum c.args.a c.args.b c.ranges.a c.ranges.b)

pub returns-else-s : goal.returns-else-s
returns-else-s c =
    let sum = c.in-Some.ensures in
    let s : SFits w128 c.in-Some.s = subst (SFits w128) (sym sum.1) sum.0 in
    ap (λ (z : ℤ). Some z) (to_z-of_z s) ∙ narrow_other c.in-Some.s s c.if-s.false
    ∙ ap narrow (sum.1 ∙ same_sum c.args.a c.args.b c.ranges.a c.ranges.b)

pub returns-in-None : goal.returns-in-None
returns-in-None c =
    narrow_unfit _
    (λ f. c.in-None.ensures (subst (SFits w128) (sym (same_sum c.args.a c.args.b c.ranges.a c.ranges.b)) f))
