use Rattle.std.proofs.Common.{arith}
use mir.Syntax.{w32, w64}
use Rattle.lp_frac.proofs.ProductSizes.{cast_fits, cast_product}
use Rattle.lp_frac.proofs.small.small_product.Goals as goal

pub overflow_cast-result : goal.overflow_cast-result
overflow_cast-result c = cast_fits w32 w64 c.args.a c.ranges.a (omega arith)

pub overflow_cast-result-2 : goal.overflow_cast-result-2
overflow_cast-result-2 c = cast_fits w32 w64 c.args.c c.ranges.c (omega arith)

pub overflow_mul-result : goal.overflow_mul-result
overflow_mul-result c =
    (cast_product w32 w64 c.args.a c.args.c c.ranges.a c.ranges.c (omega arith) (omega arith)).fits

pub returns-clause-value : goal.returns-clause-value
returns-clause-value c =
    (cast_product w32 w64 c.args.a c.args.c c.ranges.a c.ranges.c (omega arith) (omega arith)).value

pub returns-clause-size : goal.returns-clause-size
returns-clause-size c =
    (cast_product w32 w64 c.args.a c.args.c c.ranges.a c.ranges.c (omega arith) (omega arith)).size
