-- A numerator of 0 makes a whole number.
use Rattle.std.proofs.Common.{◌≡◌, ℤ, pos, SFits, to_z, to_z-of_z, sym, ap, ◌∙◌}
use mir.Syntax.{w64}
use Rattle.spec_exact.specs.Fraction.{over}
use Rattle.lp_frac.proofs.Exact.{nothing_over}
use Rattle.lp_frac.proofs.lowest.short_lowest.Goals as goal

pub returns-then-num-eq0 : goal.returns-then-num-eq0
returns-then-num-eq0 c =
    let a : SFits w64 c.args.num = c.ranges.num in
    let e : c.args.num ≡ pos 0 = sym (to_z-of_z a) ∙ ap (to_z w64) c.if-num-eq0.true in
    c.of_whole-then-num-eq0.ensures ∙ nothing_over c.args.den c.requires.positive
    ∙ ap (λ (z : ℤ). over z c.args.den) (sym e)
