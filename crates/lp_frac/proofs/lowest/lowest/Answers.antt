-- Without the greatest common divisor.
use Rattle.std.proofs.Common.{SFits, ℤ, to_z-of_z, ap, ◌∙◌, arith}
use mir.Syntax.{w128}
use Rattle.spec_exact.specs.Gcd.{gcd}
use Rattle.spec_exact.specs.Fraction.{over}
use Rattle.lp_frac.proofs.Exact.{IsLowest, in_lowest}
use Rattle.lp_frac.proofs.lowest.lowest.Goals as goal

is_lowest : (c : goal.After-part_den) → IsLowest c.args.num c.args.den c.part.result c.part_den.result
is_lowest c =
    let a : SFits w128 c.args.num = c.ranges.num in
    in_lowest c.args.num c.args.den c.common-g.result c.part.result c.part_den.result c.requires.positive
    (c.common-g.ensures.value ∙ ap (λ k. gcd k c.args.den) (simp to_z-of_z at c.unsigned_abs.ensures.value))
    (simp to_z-of_z at c.part.ensures) c.part_den.ensures

pub part-requires : goal.part-requires
part-requires c =
    let g = c.common-g.ensures in
    record {
      positive = g.positive c.requires.positive;
      small = omega (arith, g.small c.requires.positive, c.requires.den_fits);
    }

pub make-requires : goal.make-requires
make-requires c =
    let n : SFits w128 c.part.result = record { sfits = c.part.type_inv } in
    let l = is_lowest c in
    record {
      positive = l.positive;
      lowest = rw (to_z-of_z n) l.lowest;
      num_fits = rw (to_z-of_z n) (omega (arith, l.num_fits, c.requires.num_fits));
      den_fits = omega (arith, l.den_fits, c.requires.den_fits);
    }

pub returns : goal.returns
returns c =
    let a : SFits w128 c.args.num = c.ranges.num in
    let n : SFits w128 c.part.result = record { sfits = c.part.type_inv } in
    let l =
    in_lowest c.args.num c.args.den c.common-g.result c.part.result c.part_den.result c.requires.positive
    (c.common-g.ensures.value ∙ ap (λ k. gcd k c.args.den) (simp to_z-of_z at c.unsigned_abs.ensures.value))
    (simp to_z-of_z at c.part.ensures) c.part_den.ensures in
    c.make.ensures ∙ ap (λ (z : ℤ). over z c.part_den.result) (to_z-of_z n) ∙ l.same
