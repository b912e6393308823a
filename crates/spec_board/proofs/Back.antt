-- Well-formed words of a form's shape are the words of their basis.
use Rattle.std.proofs.Common.{◌≡◌, ℕ, zero, suc, ◌+◌, ◌-◌, ◌*◌, ◌/◌, ◌%◌, ◌^◌, ◌<◌, ◌≤◌}
use Rattle.std.proofs.Common.{⊎_elim, List, get_or, take, refl, sym, ap, ◌∙◌, arith}
use Rattle.std.specs.Prelude.{All}
use Rattle.std.proofs.lemmas.Bool.{cases_lt}
use Rattle.std.proofs.lemmas.List.{ext_get_or}
use Rattle.std.proofs.lemmas.Nat.{shr-shr}
use Rattle.spec_simplex.specs.Form.{Form, IsForm}
use Rattle.spec_board.specs.Words.{status_code, status_of, code_at, basis_code}
use Rattle.spec_board.specs.Words.{shape_of, packed, unpacked, columns_of, IsWellFormed}
use Rattle.spec_board.proofs.Digits.{next_power}
use Rattle.spec_board.proofs.PackedPlaces.{packed_length, front_word, basis_bits, basis_unused, packed_small}
use Rattle.spec_board.proofs.PackedBases.{unpacked_length, unpacked_at, same_word}

-- ---- words with the same bits are the same

-- digit k + 1 of a word to the base 4 is digit k of the word divided by 4
digit_after : (v k : ℕ) → v / 2 ^ (2 * suc k) % 4 ≡ v / 4 / 2 ^ (2 * k) % 4
digit_after v k =
    ap (λ w. w % 4) ((let z : 2 * suc k ≡ 2 + 2 * k = omega arith in ap (λ i. v / 2 ^ i) z) ∙ sym (shr-shr v 2 (2 * k)))

-- two words of n digits to the base 4 that are the same digit by digit are the same
same_digits : (n v w : ℕ) → v < 2 ^ (2 * n) → w < 2 ^ (2 * n) →
    ((k : ℕ) → k < n → v / 2 ^ (2 * k) % 4 ≡ w / 2 ^ (2 * k) % 4) → v ≡ w
same_digits zero v w h l d = omega (arith, h, l)
same_digits (suc n) v w h l d =
    let first : v / 1 % 4 ≡ w / 1 % 4 = d 0 (omega arith) in
    let rest : v / 4 ≡ w / 4 =
    same_digits n (v / 4) (w / 4) (omega (arith, h, next_power n)) (omega (arith, l, next_power n))
    (λ k p. sym (digit_after v k) ∙ d (suc k) (omega (arith, p)) ∙ digit_after w k) in
    omega (arith, first, rest)

-- the code of the status of a number below 4 is that number
code_back : (n : ℕ) → n < 4 → status_code (status_of n) ≡ n
code_back zero h = refl
code_back (suc zero) h = refl
code_back (suc (suc zero)) h = refl
code_back (suc (suc (suc n))) h = omega (arith, h)

-- ---- the words
module _ (f : Form) (is : IsForm f) (words : List ℕ)
    (same : take 25 words ≡ shape_of f) (well : IsWellFormed words) where
  -- the code of a column's status in the unpacked basis is what the words have in that column's bits
  status_bits : (c : ℕ) → c < 768 → basis_code (unpacked words) c ≡ code_at 25 words c
  status_bits c h = ⊎_elim inside outside (cases_lt c (columns_of words))
    where
      inside : c < columns_of words → basis_code (unpacked words) c ≡ code_at 25 words c
      inside l = ap status_code (unpacked_at words c l) ∙ code_back (code_at 25 words c) (omega arith)

      outside : columns_of words ≤ c → basis_code (unpacked words) c ≡ code_at 25 words c
      outside l = basis_unused (unpacked words) c (omega (arith, l, unpacked_length words)) ∙ sym (well.rest c l h).1

  -- status word w of the unpacked and again packed words has the same two bits of each column as that of the words
  status_digit : (w k : ℕ) → w < 24 → k < 32 →
      get_or (packed f (unpacked words)) (25 + w) 0 / 2 ^ (2 * k) % 4 ≡ get_or words (25 + w) 0 / 2 ^ (2 * k) % 4
  status_digit w k h l =
      sym (at (packed f (unpacked words))) ∙ basis_bits f (unpacked words) (32 * w + k) (omega (arith, h, l))
      ∙ status_bits (32 * w + k) (omega (arith, h, l)) ∙ at words
    where
      at : (ws : List ℕ) → code_at 25 ws (32 * w + k) ≡ get_or ws (25 + w) 0 / 2 ^ (2 * k) % 4
      at ws =
          (let z : (32 * w + k) / 32 ≡ w = omega (arith, l) in
          ap (λ i. get_or ws (25 + i) 0 / 2 ^ (2 * ((32 * w + k) % 32)) % 4) z)
          ∙ (let z : (32 * w + k) % 32 ≡ k = omega (arith, l) in ap (λ i. get_or ws (25 + w) 0 / 2 ^ (2 * i) % 4) z)

  -- such words, each below 2 ^ 64, are unpacked to a basis whose packed words are the same
  pub packed_unpacked : All (λ w. w < 2 ^ 64) words → packed f (unpacked words) ≡ words
  packed_unpacked small =
      ext_get_or 0 (packed f (unpacked words)) words (packed_length f (unpacked words) ∙ sym well.all)
      (λ i h. ⊎_elim front (λ l. behind i (omega (arith, h, packed_length f (unpacked words))) l) (cases_lt i 25))
    where
      front : {i : ℕ} → i < 25 → get_or (packed f (unpacked words)) i 0 ≡ get_or words i 0
      front {i} l = front_word f (unpacked words) i l ∙ sym (same_word f is words same i l)

      behind : (i : ℕ) → i < 49 → 25 ≤ i → get_or (packed f (unpacked words)) i 0 ≡ get_or words i 0
      behind i h l =
          same_digits 32 (get_or (packed f (unpacked words)) i 0) (get_or words i 0)
          (packed_small f (unpacked words) is i 0 (omega (arith, h, packed_length f (unpacked words))))
          (small i 0 (omega (arith, h, well.all)))
          (λ k p. let z : 25 + (i - 25) ≡ i = omega (arith, l) in
          ap (λ i. get_or (packed f (unpacked words)) i 0 / 2 ^ (2 * k) % 4) (sym z)
          ∙ status_digit (i - 25) k (omega (arith, h, l)) p
          ∙ ap (λ i. get_or words i 0 / 2 ^ (2 * k) % 4) z)
