-- By the parts.
use Rattle.std.proofs.Common.{rules, ◌*ℤ◌, SFits, to_z-of_z, subst, sym, ap₂, ◌∙◌}
use mir.Syntax.{w64}
use Rattle.lp_frac.specs.Less.{IsShortProduct}
use Rattle.lp_frac.proofs.Exact.{product_of_short}
use Rattle.lp_frac.proofs.short.short_product.Goals as goal

pub returns-in-Some-checked_mul : goal.returns-in-Some-checked_mul
returns-in-Some-checked_mul c =
    let v = c.in-Some in
    let w = c.in-Some-short in
    let product = c.in-Some-checked_mul in
    let a : SFits w64 v.a = search rules in
    let k : SFits w64 w.c = search rules in
    let n : SFits w64 product.n = subst (SFits w64) (sym product.ensures.1) product.ensures.0 in
    subst (λ z. IsShortProduct z c.in-Some-short_den.k c.args.v c.args.w) (sym (to_z-of_z n))
    (product_of_short product.n v.a w.c v.b w.d c.in-Some-short_den.k c.args.v c.args.w
    v.ensures w.ensures c.in-Some-short_den.ensures n
    (product.ensures.1 ∙ ap₂ ◌*ℤ◌ (to_z-of_z a) (to_z-of_z k)))
