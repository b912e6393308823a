use Rattle.std.proofs.Common.{◌<◌, rules, SFits, to_z-of_z, subst, sym, ap₂, ◌∙◌}
use Rattle.std.proofs.Math.Nat.{mul-pos}
use mir.Syntax.{w64, w128}
use Rattle.spec_exact.specs.Fraction.{over}
use Rattle.lp_frac.proofs.short.difference_on.Goals as goal

pub short_lowest-requires-clause-positive : goal.short_lowest-requires-clause-positive
short_lowest-requires-clause-positive c =
    subst (λ k. 0 < k) (sym c.in-Some-Some.ensures'.value) (mul-pos c.requires.p_positive c.requires.f_positive)

pub short_lowest-requires-clause-num_fits : goal.short_lowest-requires-clause-num_fits
short_lowest-requires-clause-num_fits c =
    let x : SFits w64 c.in-Some-Some.num = search rules in
    simp to_z-of_z c.in-Some-Some.ensures.size

pub short_lowest-requires-clause-den_fits : goal.short_lowest-requires-clause-den_fits
short_lowest-requires-clause-den_fits c = c.in-Some-Some.ensures'.size

pub lowest-requires-clause-positive : goal.lowest-requires-clause-positive
lowest-requires-clause-positive c =
    subst (λ k. 0 < k) (sym c.long_den.ensures.value) (mul-pos c.requires.p_positive c.requires.f_positive)

pub lowest-requires-clause-num_fits : goal.lowest-requires-clause-num_fits
lowest-requires-clause-num_fits c =
    let x : SFits w128 c.long_num.result = record { sfits = c.long_num.type_inv } in
    simp to_z-of_z c.long_num.ensures.size

pub returns-in-Some-Some : goal.returns-in-Some-Some
returns-in-Some-Some c =
    let e : SFits w64 c.args.e = c.ranges.e in
    let n : SFits w64 c.args.n = c.ranges.n in
    let x : SFits w64 c.in-Some-Some.num = search rules in
    (simp to_z-of_z at c.short_lowest.ensures)
    ∙ ap₂ over (simp to_z-of_z at c.in-Some-Some.ensures.value) c.in-Some-Some.ensures'.value

pub returns-in_default : goal.returns-in_default
returns-in_default c =
    let e : SFits w64 c.args.e = c.ranges.e in
    let n : SFits w64 c.args.n = c.ranges.n in
    let x : SFits w128 c.long_num.result = record { sfits = c.long_num.type_inv } in
    (simp to_z-of_z at c.lowest.ensures)
    ∙ ap₂ over (simp to_z-of_z at c.long_num.ensures.value) c.long_den.ensures.value
