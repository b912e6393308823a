use Rattle.std.proofs.Common.{rules, SFits, ℤ, to_z-of_z, refl, ap, ◌∙◌}
use mir.Syntax.{w128}
use Rattle.spec_exact.specs.Fraction.{over}
use Rattle.lp_frac.specs.Steps.{AreReduced}
use Rattle.lp_frac.proofs.operations.answer.Goals as goal

pub make-requires : goal.make-requires
make-requires c =
    let n : SFits w128 c.in-Some.num = search rules in
    let r : AreReduced c.in-Some.num c.in-Some.den = rw c.in-Some.is at c.requires in
    rw (to_z-of_z n) (record { positive = r.positive; lowest = r.lowest; num_fits = r.num_fits; den_fits = r.den_fits })

pub returns-in-Some : goal.returns-in-Some
returns-in-Some c =
    let n : SFits w128 c.in-Some.num = search rules in
    rw (c.in-Some.is, c.make.ensures ∙ ap (λ (z : ℤ). over z c.in-Some.den) (to_z-of_z n)) refl

pub returns-in-None : goal.returns-in-None
returns-in-None c = rw (c.in-None.is, c.past.ensures) refl
