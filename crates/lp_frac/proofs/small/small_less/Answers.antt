-- By the parts.
use Rattle.std.proofs.Common.{◌<◌, rules, SFits, to_z-of_z, subst, sym}
use Rattle.std.proofs.Math.Nat.{mul-pos}
use Rattle.std.proofs.lemmas.Option.{IfSome_then}
use mir.Syntax.{w32, w64}
use Rattle.lp_frac.proofs.Exact.{less_small}
use Rattle.lp_frac.proofs.small.small_less.Goals as goal

pub small_difference-requires-clause-n_size : goal.small_difference-requires-clause-n_size
small_difference-requires-clause-n_size c =
    let n : SFits w64 c.small_product.result = search rules in
    simp to_z-of_z c.small_product.ensures.size

pub small_difference-requires-clause-k_positive : goal.small_difference-requires-clause-k_positive
small_difference-requires-clause-k_positive c =
    subst (λ k. 0 < k) (sym c.small_product_den.ensures)
    (mul-pos c.in-Some.ensures.positive c.in-Some-small.ensures.positive)

pub returns : goal.returns
returns c =
    let v = c.in-Some in
    let w = c.in-Some-small in
    let s = c.in-Some-small-2 in
    let a : SFits w32 v.a = search rules in
    let k : SFits w32 w.c = search rules in
    let e : SFits w32 s.e = search rules in
    let n : SFits w64 c.small_product.result = search rules in
    IfSome_then c.small_difference.result (simp to_z-of_z at c.small_difference.ensures)
    (λ x h. less_small c.args.v c.args.w c.args.s x v.a w.c s.e
    v.b w.d s.f c.small_product.result c.small_product_den.result
    v.ensures w.ensures s.ensures (simp to_z-of_z at c.small_product.ensures.value) c.small_product_den.ensures h)
