-- The two bits that each column has in a word.
--
-- `next_power`: 2 ^ (2 n + 2) is 4 times 2 ^ (2 n).
-- `word_fits`: a word of n columns, each with a code below 4, is below 2 ^ (2 n).
-- `digit_is`: bits 2 k and 2 k + 1 of a word from column c on are the code of column c + k.
use Rattle.std.proofs.Common.{◌≡◌, ℕ, zero, suc, ◌+◌, ◌*◌, ◌/◌, ◌%◌, ◌^◌, ◌<◌, sym, ap, ◌∙◌, arith}
use Rattle.std.proofs.lemmas.Nat.{pow-add, shr-shr}
use Rattle.spec_board.specs.Words.{word_from}

pub next_power : (n : ℕ) → 2 ^ (2 * suc n) ≡ 4 * 2 ^ (2 * n)
next_power n = (let z : 2 * suc n ≡ 2 + 2 * n = omega arith in ap (λ k. 2 ^ k) z) ∙ pow-add 2 2 (2 * n)

module _ (code : ℕ → ℕ) (small : (c : ℕ) → code c < 4) where
  -- a word of n columns has 2 * n bits
  pub word_fits : (c n : ℕ) → word_from code c n < 2 ^ (2 * n)
  word_fits c zero = omega arith
  word_fits c (suc n) = omega (arith, next_power n, small c, word_fits (c + 1) n)

  -- a word of n + 1 columns has from bit 2 (k + 1) on what the word of the n later columns has from bit 2 k on
  past_first : (c n k : ℕ) →
      (code c + 4 * word_from code (c + 1) n) / 2 ^ (2 * suc k) ≡ word_from code (c + 1) n / 2 ^ (2 * k)
  past_first c n k =
      (let z : 2 * suc k ≡ 2 + 2 * k = omega arith in ap (λ i. (code c + 4 * word_from code (c + 1) n) / 2 ^ i) z)
      ∙ sym (shr-shr (code c + 4 * word_from code (c + 1) n) 2 (2 * k))
      ∙ (let z : (code c + 4 * word_from code (c + 1) n) / 4 ≡ word_from code (c + 1) n = omega (arith, small c) in
      ap (λ w. w / 2 ^ (2 * k)) z)

  -- and of the column k after its first it has the bits
  pub digit_is : (c n k : ℕ) → k < n → word_from code c n / 2 ^ (2 * k) % 4 ≡ code (c + k)
  digit_is c zero k h = absurd (let z : ⊥ = omega (arith, h) in z)
  digit_is c (suc n) zero h =
      (let z : (code c + 4 * word_from code (c + 1) n) / 1 % 4 ≡ code c = omega (arith, small c) in z)
      ∙ (let z : c ≡ c + 0 = omega arith in ap code z)
  digit_is c (suc n) (suc k) h =
      ap (λ w. w % 4) (past_first c n k) ∙ digit_is (c + 1) n k (omega (arith, h))
      ∙ (let z : c + 1 + k ≡ c + suc k = omega arith in ap code z)
