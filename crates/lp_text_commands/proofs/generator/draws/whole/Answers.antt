-- A whole number below 2 ^ 32 is a fraction of at most 127 bits.
use Rattle.std.proofs.Common.{rules, ◌≡◌, ℕ, ◌^◌, ◌<◌, ◌≤◌, pos, Ok, ℤ, SFits}
use Rattle.std.proofs.Common.{to_z, of_z, to_z-of_z, refl, sym, ap, ◌∙◌, arith}
use Rattle.std.specs.Prelude.{Result}
use mir.Syntax.{w128}
use borrow.Author.Tests.{le-leb}
use Rattle.spec_exact.specs.Fraction.{ℚ, whole}
use Rattle.spec_exact.proofs.Field.{whole_over}
use Rattle.spec_exact.specs.Narrow.{number_limit}
use Rattle.lp_frac.specs.declared.frac.FracFault.{FracFault}
use Rattle.lp_frac.specs.Answer.{checked, fraction_of}
use Rattle.lp_text_commands.proofs.generator.draws.whole.Goals as goal

checked_whole : (n : ℕ) → n < 2 ^ 32 → checked (whole (pos n)) ≡ Ok (whole (pos n))
unfolding whole
checked_whole n h =
    let low : n ≤ number_limit = omega arith in
    rw (le-leb n number_limit low) refl

fraction_whole : (n : ℕ) → n < 2 ^ 32 → fraction_of (pos n) (pos 1) ≡ Ok (whole (pos n))
fraction_whole n h = ap checked (sym (whole_over (pos n))) ∙ checked_whole n h

made : (n : ℕ) (z : ℤ) (r : Result ℚ FracFault) → n < 2 ^ 32 → SFits w128 z → z ≡ pos n →
    r ≡ fraction_of (to_z w128 (of_z w128 z)) (pos 1) → r ≡ Ok (whole (pos n))
made n z r small fits is given = given ∙ ap (λ y. fraction_of y (pos 1)) (to_z-of_z fits ∙ is) ∙ fraction_whole n small

pub unwrap-requires : goal.unwrap-requires
unwrap-requires c =
    let fits : SFits w128 c.from.result = search rules in
    rw (made c.args.n c.from.result c.new.result (omega arith) fits c.from.ensures c.new.ensures)

pub returns : goal.returns
returns c =
    let fits : SFits w128 c.from.result = search rules in
    let is = made c.args.n c.from.result c.new.result (omega arith) fits c.from.ensures c.new.ensures in
    let made_whole : Result ℚ FracFault = Ok (whole (pos c.args.n)) in
    let same : Ok c.unwrap.result ≡ made_whole = sym c.unwrap.ensures ∙ is in
    cc
