-- As many times its denominator fit into its numerator.
use Rattle.std.proofs.Common.{◌≡◌, ◌/◌, pos, unsigned_abs, leb, rules, SFits, to_z-of_z, sym, ap, ap₂, ◌∙◌}
use mir.Syntax.{w128}
use Rattle.spec_presolve.specs.Choose.{is_far}
use Rattle.lp_presolve.proofs.Far.{far_size}
use Rattle.lp_presolve.proofs.bounds.is_far.Goals as goal

pub returns-in-Some : goal.returns-in-Some
returns-in-Some c =
    let a : SFits w128 c.num.result = search rules in
    let b : SFits w128 c.den.result = search rules in
    let n : c.unsigned_abs.result ≡ unsigned_abs c.in-Some.bound.num =
    c.unsigned_abs.ensures.value ∙ ap unsigned_abs (to_z-of_z a ∙ c.num.ensures.value) in
    let d : c.unsigned_abs-in-Some.result ≡ unsigned_abs (pos c.in-Some.bound.den) =
    c.unsigned_abs-in-Some.ensures.value ∙ ap unsigned_abs (to_z-of_z b ∙ c.den.ensures.value) in
    ap₂ (λ d n. leb d (n / 100000000000000000000)) d n ∙ far_size c.in-Some.bound ∙ ap is_far (sym c.in-Some.is)
