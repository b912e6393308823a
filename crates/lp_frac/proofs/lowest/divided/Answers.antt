-- Without the greatest common divisor.
use Rattle.std.proofs.Common.{◌≡◌, ◌≤◌, SFits, ℤ, to_z-of_z, unsigned_abs, subst, sym, ap, ◌∙◌, arith}
use mir.Syntax.{w64, w128}
use Rattle.spec_exact.specs.Gcd.{gcd}
use Rattle.spec_exact.specs.Fraction.{over}
use Rattle.spec_exact.specs.Narrow.{number_limit}
use Rattle.lp_frac.proofs.ProductSizes.{cast_is}
use Rattle.lp_frac.proofs.Exact.{IsLowest, in_lowest}
use Rattle.lp_frac.proofs.lowest.divided.Goals as goal

is_lowest : (c : goal.After-short_part_den) → IsLowest c.args.num c.args.den c.short_part.result c.short_part_den.result
is_lowest c =
    let a : SFits w64 c.args.num = c.ranges.num in
    in_lowest c.args.num c.args.den c.common_of_short-g.result
    c.short_part.result c.short_part_den.result c.requires.positive
    (c.common_of_short-g.ensures.value ∙ ap (λ k. gcd k c.args.den) (simp to_z-of_z at c.unsigned_abs.ensures.value))
    (simp to_z-of_z at c.short_part.ensures) c.short_part_den.ensures

pub make-requires : goal.make-requires
make-requires c =
    let g = c.common_of_short-g in
    let same = cast_is w64 w128 c.args.num c.ranges.num (omega arith) in
    let size : c.unsigned_abs.result ≡ unsigned_abs c.args.num =
    c.unsigned_abs.ensures.value ∙ ap unsigned_abs (to_z-of_z c.ranges.num) in
    record {
      positive = c.requires.positive;
      lowest =
          ap (λ z. gcd (unsigned_abs z) c.args.den) same
          ∙ ap (λ k. gcd k c.args.den) (sym size) ∙ sym g.ensures.value ∙ c.if-g-eq1.true;
      num_fits = subst (λ z. unsigned_abs z ≤ number_limit) (sym same) (omega (arith, c.requires.num_fits));
      den_fits = omega (arith, c.requires.den_fits);
    }

pub returns-then-g-eq1 : goal.returns-then-g-eq1
returns-then-g-eq1 c =
    c.make.ensures
    ∙ ap (λ (z : ℤ). over z c.args.den) (cast_is w64 w128 c.args.num c.ranges.num (omega arith))

pub short_part-requires : goal.short_part-requires
short_part-requires c =
    let g = c.common_of_short-g.ensures in
    record {
      positive = g.positive c.requires.positive;
      small = omega (arith, g.small c.requires.positive, c.requires.den_fits);
    }

pub make-requires-2 : goal.make-requires-2
make-requires-2 c =
    let n : SFits w128 c.short_part.result = record { sfits = c.short_part.type_inv } in
    let l = is_lowest c in
    record {
      positive = l.positive;
      lowest = rw (to_z-of_z n) l.lowest;
      num_fits = rw (to_z-of_z n) (omega (arith, l.num_fits, c.requires.num_fits));
      den_fits = omega (arith, l.den_fits, c.requires.den_fits);
    }

pub returns : goal.returns
returns c =
    let a : SFits w64 c.args.num = c.ranges.num in
    let n : SFits w128 c.short_part.result = record { sfits = c.short_part.type_inv } in
    let l =
    in_lowest c.args.num c.args.den c.common_of_short-g.result
    c.short_part.result c.short_part_den.result c.requires.positive
    (c.common_of_short-g.ensures.value ∙ ap (λ k. gcd k c.args.den) (simp to_z-of_z at c.unsigned_abs.ensures.value))
    (simp to_z-of_z at c.short_part.ensures) c.short_part_den.ensures in
    c.make-2.ensures ∙ ap (λ (z : ℤ). over z c.short_part_den.result) (to_z-of_z n) ∙ l.same
