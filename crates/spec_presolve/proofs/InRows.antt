-- What a search of a row finds: no entry, one entry or more.
--
-- `row_empty`: where the search of a row finds nothing, each of its coefficients is 0.
-- `row_alone`: where the search finds entry a in column j alone, this is not 0 and all other coefficients of the row
--   are.
use Rattle.std.proofs.Common.{◌≡◌, ℕ, zero, suc, ◌<◌, Bool, true, false, cond, refl, sym, ◌∙◌, subst, arith}
use Rattle.std.proofs.Common.{⊎_elim}
use Rattle.std.proofs.lemmas.Bool.{cases_eq}
use Rattle.spec_exact.specs.Fraction.{ℚ, 0ℚ, eq_ℚ}
use Rattle.spec_exact.proofs.Same.{eq_if, eq_test}
use Rattle.spec_model.specs.Model.{Model, width, coefficient}
use Rattle.spec_presolve.specs.declared.reduction.InRow.{InRow}
use Rattle.spec_presolve.specs.declared.reduction.InRow.TheVariants.{Nothing, One, More}
use Rattle.spec_presolve.specs.Choose.{in_row_below, in_row, one_more}

-- no entry in the first n columns
abbrev pub Empty : Model → ℕ → ℕ → Type 0
Empty m i n = (k : ℕ) → k < n → coefficient m i k ≡ 0ℚ

-- a in column j alone
pub record Alone (m : Model) (i n j : ℕ) (a : ℚ) : Type 0 where
  pub inside : j < n
  pub entry : coefficient m i j ≡ a
  pub not_zero : ¬ (a ≡ 0ℚ)
  pub alone : (k : ℕ) → k < n → ¬ (k ≡ j) → coefficient m i k ≡ 0ℚ

abbrev Is : Model → ℕ → ℕ → InRow ℚ → Type 0
Is m i n Nothing = Empty m i n
Is m i n (One j a) = Alone m i n j a
Is m i n More = Unit {0}

-- what holds of each index below n, and of n, holds of an index below n + 1
last : (P : ℕ → Type 0) (n k : ℕ) → k < suc n → (k < n → P k) → P n → P k
last P n k l before now = ⊎_elim (λ e. subst P (sym e) now) (λ o. before (omega (arith, l, o))) (cases_eq k n)

-- where row i has no entry in column n, its entries in the first n + 1 columns are those in the first n
more : (m : Model) (i n : ℕ) (found : InRow ℚ) → Is m i n found → coefficient m i n ≡ 0ℚ → Is m i (suc n) found
more m i n Nothing h e = λ k l. last (λ k. coefficient m i k ≡ 0ℚ) n k l (λ p. h k p) e
more m i n (One j a) h e = record {
  inside = omega (arith, h.inside);
  entry = h.entry;
  not_zero = h.not_zero;
  alone = λ k l o. last (λ k. ¬ (k ≡ j) → coefficient m i k ≡ 0ℚ) n k l (λ p o. h.alone k p o) (λ _. e) o;
}
more m i n More h e = tt

-- where a row has an entry in column n, the first n + 1 columns have one entry more than the first n
one : (m : Model) (i n : ℕ) (found : InRow ℚ) → Is m i n found → ¬ (coefficient m i n ≡ 0ℚ) →
    Is m i (suc n) (one_more found n (coefficient m i n))
one m i n Nothing h o = record {
  inside = omega arith;
  entry = refl;
  not_zero = o;
  alone = λ k l q. last (λ k. ¬ (k ≡ n) → coefficient m i k ≡ 0ℚ) n k l (λ p _. h k p) (λ q. absurd (q refl)) q;
}
one m i n (One j a) h o = tt
one m i n More h o = tt

-- where the test for 0 fails, the number is not 0
other : (a : ℚ) → eq_ℚ a 0ℚ ≡ false → ¬ (a ≡ 0ℚ)
other a e z = let f : true ≡ false = sym (eq_test a 0ℚ z) ∙ e in cc

-- what the search of a row's first n columns finds is what they have: no entry, one or more
below_is : (m : Model) (i n : ℕ) → Is m i n (in_row_below m i n)
below_is m i zero = λ k l. absurd (omega (arith, l))
below_is m i (suc n) = by (eq_ℚ (coefficient m i n) 0ℚ) refl (below_is m i n)
  where
    by : (t : Bool) → eq_ℚ (coefficient m i n) 0ℚ ≡ t → Is m i n (in_row_below m i n) →
        Is m i (suc n) (cond t (in_row_below m i n) (one_more (in_row_below m i n) n (coefficient m i n)))
    by true e h = more m i n (in_row_below m i n) h (eq_if (coefficient m i n) 0ℚ e)
    by false e h = one m i n (in_row_below m i n) h (other (coefficient m i n) e)

pub row_empty : (m : Model) (i : ℕ) → in_row m i ≡ Nothing → Empty m i (width m)
row_empty m i e = subst (Is m i (width m)) e (below_is m i (width m))

pub row_alone : (m : Model) (i j : ℕ) (a : ℚ) → in_row m i ≡ One j a → Alone m i (width m) j a
row_alone m i j a e = subst (Is m i (width m)) e (below_is m i (width m))
