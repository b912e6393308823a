use Rattle.std.proofs.Common.{arith}
use mir.Syntax.{w64, w128}
use Rattle.lp_frac.proofs.ProductSizes.{cast_fits, cast_scaled}
use Rattle.lp_frac.proofs.short.long_scaled.Goals as goal

pub overflow_cast-result : goal.overflow_cast-result
overflow_cast-result c = cast_fits w64 w128 c.args.e c.ranges.e (omega arith)

pub overflow_cast-result-2 : goal.overflow_cast-result-2
overflow_cast-result-2 c = record { sfits = omega (arith, c.requires) }

pub overflow_mul-result : goal.overflow_mul-result
overflow_mul-result c =
    (cast_scaled w64 w128 c.args.e c.args.p 9223372036854775807 c.ranges.e c.requires (omega arith) (omega arith)
    (omega arith)).fits

pub returns-clause-value : goal.returns-clause-value
returns-clause-value c =
    (cast_scaled w64 w128 c.args.e c.args.p 9223372036854775807 c.ranges.e c.requires (omega arith) (omega arith)
    (omega arith)).value

pub returns-clause-size : goal.returns-clause-size
returns-clause-size c =
    (cast_scaled w64 w128 c.args.e c.args.p 9223372036854775807 c.ranges.e c.requires (omega arith) (omega arith)
    (omega arith)).size
