-- Generated numbers are small and whole.
--
-- `number_from_narrow`: a number that is drawn among at most 90 from at most 10 on has at most 127 bits.
-- `number_from_bound`: a number that is drawn among at most 90 from at most 10 on is one that a bound may be.
-- `number_from_not_zero`: a generated number is not 0 where the least one is above 0.
use Rattle.std.proofs.Common.{◌≡◌, ◌≢◌, ℕ, ◌+◌, ◌%◌, ◌^◌, ◌<◌, ◌≤◌, Some, sym, subst, ap, arith, pos}
use Rattle.std.specs.Prelude.{unsigned_abs}
use Rattle.std.proofs.lemmas.Int.{ints}
use Rattle.spec_exact.specs.Fraction.{ℚ, 0ℚ, ◌≤ℚ◌, ◌<ℚ◌, whole}
use Rattle.spec_exact.proofs.Magnitudes.{abs_above}
use Rattle.spec_exact.specs.Narrow.{IsNarrow}
use Rattle.spec_model.specs.Kept.{IsBound}
use Rattle.spec_commands.specs.Draws.{draw}
use Rattle.spec_commands.specs.Generated.{number_from}

-- a whole number of at most 100 has at most 127 bits
whole_narrow : (n : ℕ) → n ≤ 100 → IsNarrow (whole (pos n))
unfolding whole
whole_narrow n h = record { top = omega arith; bottom = omega arith }

-- a whole number of at most 100 may be a bound
whole_bound : (n : ℕ) → n ≤ 100 → IsBound (Some (whole (pos n)))
unfolding whole
whole_bound n h =
    let positive : 0ℚ ≤ℚ whole (pos n) = record { at_most = omega (arith, ints) } in
    let below : whole (pos n) <ℚ whole (pos (10 ^ 20)) = record { below = omega (arith, ints) } in
    subst (λ (q : ℚ). q <ℚ whole (pos (10 ^ 20))) (sym (abs_above (whole (pos n)) positive)) below

-- a whole number above 0 is not 0 as a fraction
whole_not_zero : (n : ℕ) → 0 < n → whole (pos n) ≢ 0ℚ
unfolding whole
whole_not_zero n h = λ e. let none : n ≡ 0 = ap (λ (q : ℚ). unsigned_abs q.num) e in omega arith

-- one of at most 90 numbers that is drawn from a least one of at most 10 on is at most 100
number_from_is : (least many s : ℕ) → 0 < many → many ≤ 90 → least ≤ 10 → least + draw s % many ≤ 100
number_from_is least many s k l h = omega arith

pub number_from_narrow : (least many s : ℕ) → 0 < many → many ≤ 90 → least ≤ 10 → IsNarrow (number_from least many s)
number_from_narrow least many s k l h = whole_narrow (least + draw s % many) (number_from_is least many s k l h)

pub number_from_bound : (least many s : ℕ) → 0 < many → many ≤ 90 → least ≤ 10 →
    IsBound (Some (number_from least many s))
number_from_bound least many s k l h = whole_bound (least + draw s % many) (number_from_is least many s k l h)

pub number_from_not_zero : (least many s : ℕ) → 0 < least → number_from least many s ≢ 0ℚ
number_from_not_zero least many s h = whole_not_zero (least + draw s % many) (omega arith)
