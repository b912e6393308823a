use Rattle.std.proofs.Common.{◌-ℤ◌, SFits, to_z-of_z, ap₂, ◌∙◌, arith}
use Rattle.std.proofs.Math.Nat.{le_trans}
use mir.Syntax.{w64, w128}
use Rattle.lp_frac.proofs.ProductSizes.{difference}
use Rattle.lp_frac.proofs.short.long_num.Goals as goal

pub long_scaled-requires : goal.long_scaled-requires
long_scaled-requires c = c.requires.p_size

pub long_scaled-requires-2 : goal.long_scaled-requires-2
long_scaled-requires-2 c = c.requires.q_size

pub overflow_sub-result : goal.overflow_sub-result
overflow_sub-result c =
    (difference w128 c.long_scaled.result c.long_scaled-2.result _ _ (record { sfits = c.long_scaled.type_inv })
    (record { sfits = c.long_scaled-2.type_inv }) c.long_scaled.ensures.size c.long_scaled-2.ensures.size
    (omega arith)).fits

pub returns-clause-value : goal.returns-clause-value
returns-clause-value c =
    let e : SFits w64 c.args.e = c.ranges.e in
    let n : SFits w64 c.args.n = c.ranges.n in
    (difference w128 c.long_scaled.result c.long_scaled-2.result _ _ (record { sfits = c.long_scaled.type_inv })
    (record { sfits = c.long_scaled-2.type_inv }) c.long_scaled.ensures.size c.long_scaled-2.ensures.size
    (omega arith)).value
    ∙ ap₂ ◌-ℤ◌ (simp to_z-of_z at c.long_scaled.ensures.value) (simp to_z-of_z at c.long_scaled-2.ensures.value)

pub returns-clause-size : goal.returns-clause-size
returns-clause-size c =
    le_trans
    (difference w128 c.long_scaled.result c.long_scaled-2.result _ _ (record { sfits = c.long_scaled.type_inv })
    (record { sfits = c.long_scaled-2.type_inv }) c.long_scaled.ensures.size c.long_scaled-2.ensures.size
    (omega arith)).size
    (omega arith)
