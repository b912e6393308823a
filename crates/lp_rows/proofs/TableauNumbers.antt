-- The numbers of rows, by positions and columns.
use Rattle.std.proofs.Common.{◌≡◌, ◌≢◌, ℕ, zero, suc, ◌+◌, ◌*◌, ◌<◌, List, [], ◌∷◌, length, get_or, set, refl, sym}
use Rattle.std.proofs.Common.{ap, ap₂, ◌∙◌, arith, pos}
use Rattle.std.proofs.Common.{All}
use Rattle.spec_exact.specs.Fraction.{over, ◌*ℚ◌}
use Rattle.spec_exact.proofs.Ring.{◌⊗◌, lit, v0}
use Rattle.spec_exact.proofs.WholeRing.{by_ring}
use Rattle.spec_exact.proofs.Field.{over-*}
use Rattle.lp_natural.specs.declared.words.signed.Signed.{Signed}
use Rattle.lp_rows.specs.declared.fractions.Row.{Row}
use Rattle.lp_rows.specs.Row.{at, fraction_at}
use Rattle.lp_rows.proofs.Cleared.{fraction-at}
use Rattle.lp_rows.specs.Shows.{IsRow, row_at}
use Rattle.lp_rows.specs.Moves.{number_at, number_in}

module _ {T : Type 0} (value : T → ℕ) where
  -- number k of row i in a list of rows is number k of the row that is read at i
  pub number_in-get : (rows : List (Row T)) (i k : ℕ) (z : Row T) → i < length rows →
      number_in value rows i k ≡ number_at value (get_or rows i z) k
  number_in-get [] i k z h = absurd (omega arith)
  number_in-get (row ∷ rows) zero k z h = refl
  number_in-get (row ∷ rows) (suc i) k z h = number_in-get rows i k z (omega (arith, h))

  -- where row i is set to another row, number k of row i is number k of that row
  pub number_in-set : (rows : List (Row T)) (i k : ℕ) (row : Row T) → i < length rows →
      number_in value (set rows i row) i k ≡ number_at value row k
  number_in-set [] i k row h = absurd (omega arith)
  number_in-set (r ∷ rows) zero k row h = refl
  number_in-set (r ∷ rows) (suc i) k row h = number_in-set rows i k row (omega (arith, h))

  -- where row i is set to another row, the numbers of each other row j are as they were
  pub number_in-other : (rows : List (Row T)) (i j k : ℕ) (row : Row T) → j ≢ i →
      number_in value (set rows i row) j k ≡ number_in value rows j k
  number_in-other [] i j k row h = refl
  number_in-other (r ∷ rows) zero zero k row h = absurd (h refl)
  number_in-other (r ∷ rows) zero (suc j) k row h = refl
  number_in-other (r ∷ rows) (suc i) zero k row h = refl
  number_in-other (r ∷ rows) (suc i) (suc j) k row h = number_in-other rows i j k row (λ e. h (ap suc e))

  -- on the further denominator 1, the fraction of row i in column k is the row's own number k
  pub row_at-one : (rows : List (Row T)) (i k : ℕ) → row_at value 1 rows i k ≡ number_in value rows i k
  row_at-one [] i k = refl
  row_at-one (row ∷ rows) zero k = ap (λ d. fraction_at value row.numbers.items d k) (one (value row.denominator))
    where
      one : (e : ℕ) → 1 * e ≡ e
      one e = omega arith
  row_at-one (row ∷ rows) (suc i) k = row_at-one rows i k

  -- inside the list, a number over d * e is the number over e, times 1 / d
  fraction-on : (xs : List (Signed T)) (d e k : ℕ) → 0 < d → 0 < e → k < length xs →
      fraction_at value xs (d * e) k ≡ fraction_at value xs e k *ℚ over (pos 1) d
  fraction-on xs d e k p q h =
      fraction-at value xs (d * e) k h
      ∙ ap₂ over (by_ring (at value xs k ∷ []) v0 (v0 ⊗ lit (pos 1)) refl) (swap d e)
      ∙ sym (over-* (at value xs k) (pos 1) e d q p)
      ∙ ap (λ u. u *ℚ over (pos 1) d) (sym (fraction-at value xs e k h))
    where
      swap : (d e : ℕ) → d * e ≡ e * d
      swap d e = omega arith

  -- on a further denominator d, the fraction of row i in column k is the row's own number k, times 1 / d
  pub row_at-on : (rows : List (Row T)) (d n i k : ℕ) → 0 < d → All (IsRow value n) rows → i < length rows → k < n + 1 →
      row_at value d rows i k ≡ number_in value rows i k *ℚ over (pos 1) d
  row_at-on [] d n i k p a h l = absurd (omega arith)
  row_at-on (row ∷ rows) d n zero k p a h l =
      let r : IsRow value n row = a 0 row (omega arith) in
      fraction-on row.numbers.items d (value row.denominator) k p r.positive (omega (arith, l, r.numbers))
  row_at-on (row ∷ rows) d n (suc i) k p a h l =
      row_at-on rows d n i k p (λ j z q. a (suc j) z (omega (arith, q))) (omega (arith, h)) l

  -- the fraction of row i in column k, on a further denominator d, is that of the row which is read at i
  pub row_at-get : (d : ℕ) (rows : List (Row T)) (i k : ℕ) (z : Row T) → i < length rows →
      row_at value d rows i k ≡
      fraction_at value (get_or rows i z).numbers.items (d * value (get_or rows i z).denominator) k
  row_at-get d [] i k z h = absurd (omega arith)
  row_at-get d (row ∷ rows) zero k z h = refl
  row_at-get d (row ∷ rows) (suc i) k z h = row_at-get d rows i k z (omega (arith, h))
