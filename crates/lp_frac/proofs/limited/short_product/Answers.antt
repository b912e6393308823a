use Rattle.std.proofs.Common.{Some, ℤ, ap, ◌∙◌, arith}
use Rattle.std.proofs.Math.Nat.{le_trans}
use mir.Syntax.{w64, w128}
use Rattle.lp_frac.proofs.ProductSizes.{cast_fits, cast_product, narrow_fits}
use Rattle.lp_frac.proofs.limited.short_product.Goals as goal

pub overflow_cast-result : goal.overflow_cast-result
overflow_cast-result c = cast_fits w64 w128 c.args.a c.ranges.a (omega arith)

pub overflow_cast-result-2 : goal.overflow_cast-result-2
overflow_cast-result-2 c = cast_fits w64 w128 c.args.b c.ranges.b (omega arith)

pub overflow_mul-result : goal.overflow_mul-result
overflow_mul-result c =
    (cast_product w64 w128 c.args.a c.args.b c.ranges.a c.ranges.b (omega arith) (omega arith)).fits

pub returns : goal.returns
returns c =
    let p = cast_product w64 w128 c.args.a c.args.b c.ranges.a c.ranges.b (omega arith) (omega arith) in
    ap (λ (z : ℤ). Some z) p.value ∙ narrow_fits _ (le_trans p.bound (omega arith))
