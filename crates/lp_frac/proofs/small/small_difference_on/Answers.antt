use Rattle.std.proofs.Common.{◌<◌, ◌-ℤ◌, rules, SFits, to_z-of_z, subst, sym, ap₂, ◌∙◌}
use Rattle.std.proofs.Math.Nat.{mul-pos}
use mir.Syntax.{w32, w64}
use Rattle.spec_exact.specs.Fraction.{over}
use Rattle.lp_frac.proofs.small.small_difference_on.Goals as goal

pub small_on-requires-clause-n_size : goal.small_on-requires-clause-n_size
small_on-requires-clause-n_size c =
    let n : SFits w64 c.args.n = c.ranges.n in
    simp to_z-of_z c.requires.n_size

pub small_num-requires-clause-x_size : goal.small_num-requires-clause-x_size
small_num-requires-clause-x_size c =
    let x : SFits w64 c.small_scaled.result = record { sfits = c.small_scaled.type_inv } in
    simp to_z-of_z c.small_scaled.ensures.size

pub small_num-requires-clause-y_size : goal.small_num-requires-clause-y_size
small_num-requires-clause-y_size c =
    let y : SFits w64 c.in-Some.y = search rules in
    simp to_z-of_z c.in-Some.ensures.size

pub short_lowest-requires-clause-positive : goal.short_lowest-requires-clause-positive
short_lowest-requires-clause-positive c =
    subst (λ k. 0 < k) (sym c.small_den.ensures.value) (mul-pos c.requires.p_positive c.requires.f_positive)

pub short_lowest-requires-clause-num_fits : goal.short_lowest-requires-clause-num_fits
short_lowest-requires-clause-num_fits c =
    let z : SFits w64 c.small_num.result = record { sfits = c.small_num.type_inv } in
    simp to_z-of_z c.small_num.ensures.size

pub returns-in-Some : goal.returns-in-Some
returns-in-Some c =
    let e : SFits w32 c.args.e = c.ranges.e in
    let n : SFits w64 c.args.n = c.ranges.n in
    let x : SFits w64 c.small_scaled.result = record { sfits = c.small_scaled.type_inv } in
    let y : SFits w64 c.in-Some.y = search rules in
    let z : SFits w64 c.small_num.result = record { sfits = c.small_num.type_inv } in
    (simp to_z-of_z at c.short_lowest.ensures)
    ∙ ap₂ over
    ((simp to_z-of_z at c.small_num.ensures.value)
    ∙ ap₂ ◌-ℤ◌ (simp to_z-of_z at c.small_scaled.ensures.value) (simp to_z-of_z at c.in-Some.ensures.value))
    c.small_den.ensures.value
