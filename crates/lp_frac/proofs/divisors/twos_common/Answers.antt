use Rattle.std.proofs.Common.{◌≡◌, ◌<◌, ◌≤◌, ℕ, ◌*◌, ◌%◌, ◌^◌, arith, ap, ap₂, ◌∙◌, mod-eq_of_lt}
use Rattle.std.proofs.Math.Nat.{le_of_dvd}
use Rattle.spec_exact.specs.Gcd.{gcd}
use Rattle.spec_exact.specs.GcdLaws.{gcd_is}
use Rattle.lp_frac.proofs.Odd.{gcd_by_twos}
use Rattle.lp_frac.proofs.divisors.twos_common.Goals as goal

pub returns : goal.returns
returns c =
    let p : 0 < c.args.a = omega arith in
    let q : 0 < c.args.b = omega arith in
    let e : c.odd_common.result * 2 ^ c.min-twos.result ≡ gcd c.args.a c.args.b =
    ap₂ (λ (m k : ℕ). m * 2 ^ k)
    (c.odd_common.ensures ∙ c.odd_part-2.ensures.common c.odd_part.result c.odd_part.ensures.odd
    ∙ ap (λ n. gcd n c.args.b) c.odd_part.ensures.value) c.min-twos.ensures
    ∙ gcd_by_twos 64 c.args.a c.args.b p c.ranges.a.fits q c.ranges.b.fits in
    let small : gcd c.args.a c.args.b ≤ c.args.a = le_of_dvd p (gcd_is c.args.a c.args.b).0 in
    ap (λ n. n % 18446744073709551616) e ∙ mod-eq_of_lt (omega arith)
