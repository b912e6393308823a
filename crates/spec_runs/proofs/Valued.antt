-- The values of the basic columns solve the rows.
use Rattle.std.proofs.Common.{◌≡◌, ◌≢◌, ℕ, suc, ◌<◌, List, length, get_or, set, Option, Ok}
use Rattle.std.proofs.Common.{Bool, true, false, cond, refl, sym, ap, ap₂, ◌∙◌, subst, arith}
use Rattle.std.proofs.lemmas.List.{length-set, get_or-set_same, get_or-set_other}
use Rattle.spec_exact.specs.Fraction.{ℚ, 0ℚ, ◌+ℚ◌, ◌-ℚ◌, ◌*ℚ◌, neg_ℚ}
use Rattle.spec_exact.specs.Sums.{sum_below}
use Rattle.spec_exact.proofs.Field.{+ℚ_neg, *ℚ_zero}
use Rattle.spec_exact.proofs.Ruleset.{ring, neg-zero}
use Rattle.spec_exact.proofs.Sums.{sum_below_same, sum_below-+ℚ}
use Rattle.spec_pivot.specs.declared.status.Status.TheVariants.{Basic}
use Rattle.spec_pivot.specs.Tableau.{IsUnit}
use Rattle.spec_pivot.proofs.Pivot.{by_eq}
use Rattle.spec_pivot.proofs.BasicPositions.{row_at}
use Rattle.spec_pivot.proofs.Unique.{apart}
use Rattle.spec_exact.specs.Run.{◌>>=◌, less_product}
use Rattle.spec_simplex.specs.Tableau.{Tableau, all_columns, basic_at, entry_at, value_at, status_at}
use Rattle.spec_simplex.specs.Tableau.{is_basic}
use Rattle.spec_simplex.proofs.RunParts.{then_ok, less_ok, steps_ok}
use Rattle.spec_simplex.specs.Eliminate.{position_run, valued_run}
use Rattle.spec_simplex.proofs.Statuses.{basic_if}

module _ (limit : Option ℕ) (t : Tableau) (all : length t.value ≡ all_columns t)
    (units : IsUnit t.rows (entry_at t) (basic_at t)) (in_range : (i : ℕ) → i < t.rows → basic_at t i < all_columns t)
    (marked : (i : ℕ) → i < t.rows → status_at t (basic_at t i) ≡ Basic)
    (zero : (k : ℕ) → k < all_columns t → status_at t k ≡ Basic → value_at t k ≡ 0ℚ) where
  -- what the columns that are not basic make of row i
  rest : ℕ → ℚ
  rest i = sum_below (all_columns t) (λ k. entry_at t i k *ℚ value_at t k)

  -- the value that the run gives the basic column of position i is minus what the other columns make of row i
  position_is : (i : ℕ) (v : ℚ) → position_run limit t i ≡ Ok v → v ≡ neg_ℚ (rest i)
  unfolding rest
  position_is i v h =
      steps_ok (λ k v. v ≡ neg_ℚ (sum_below k (λ k. entry_at t i k *ℚ value_at t k))) (all_columns t)
      (λ k v. cond (is_basic (status_at t k)) (Ok v) (less_product limit (entry_at t i k) (value_at t k) v)) 0ℚ v h
      (sym neg-zero) step
    where
      more : (s p : ℚ) → neg_ℚ s -ℚ p ≡ neg_ℚ (s +ℚ p)
      more s p = simp ring

      none : (s p : ℚ) → p ≡ 0ℚ → neg_ℚ s ≡ neg_ℚ (s +ℚ p)
      none s p e = close s ∙ ap (λ p. neg_ℚ (s +ℚ p)) (sym e)
        where
          close : (s : ℚ) → neg_ℚ s ≡ neg_ℚ (s +ℚ 0ℚ)
          close s = simp ring

      step : (k : ℕ) (x y : ℚ) → k < all_columns t → x ≡ neg_ℚ (sum_below k (λ k. entry_at t i k *ℚ value_at t k)) →
          cond (is_basic (status_at t k)) (Ok x) (less_product limit (entry_at t i k) (value_at t k) x) ≡ Ok y
          → y ≡ neg_ℚ (sum_below k (λ k. entry_at t i k *ℚ value_at t k) +ℚ entry_at t i k *ℚ value_at t k)
      step k x y k_in was is = by (is_basic (status_at t k)) refl is
        where
          by : (c : Bool) → is_basic (status_at t k) ≡ c →
              cond c (Ok x) (less_product limit (entry_at t i k) (value_at t k) x) ≡ Ok y →
              y ≡ neg_ℚ (sum_below k (λ k. entry_at t i k *ℚ value_at t k) +ℚ entry_at t i k *ℚ value_at t k)
          by true c is =
              let z : x ≡ y = cc in
              sym z ∙ was ∙ none (sum_below k (λ k. entry_at t i k *ℚ value_at t k)) (entry_at t i k *ℚ value_at t k)
              (ap (λ a. entry_at t i k *ℚ a) (zero k k_in (basic_if (status_at t k) c)) ∙ *ℚ_zero (entry_at t i k))
          by false c is =
              less_ok limit (entry_at t i k) (value_at t k) x y is ∙ ap (λ a. a -ℚ entry_at t i k *ℚ value_at t k) was
              ∙ more (sum_below k (λ k. entry_at t i k *ℚ value_at t k)) (entry_at t i k *ℚ value_at t k)

  -- after the positions below i
  record Valued (i : ℕ) (values : List ℚ) : Type 0 where
    all_values : length values ≡ all_columns t
    placed : (r : ℕ) → r < i → r < t.rows → get_or values (basic_at t r) 0ℚ ≡ neg_ℚ (rest r)
    others : (k : ℕ) → ((r : ℕ) → r < i → r < t.rows → basic_at t r ≢ k) → get_or values k 0ℚ ≡ value_at t k

  step : (i : ℕ) (x y : List ℚ) → i < t.rows → Valued i x →
      (position_run limit t i >>= λ v. Ok (set x (basic_at t i) v)) ≡ Ok y → Valued (suc i) y
  step i x y i_in v h =
      let o = then_ok (position_run limit t i) (λ v. Ok (set x (basic_at t i) v)) y h in
      let z : set x (basic_at t i) o.0 ≡ y = cc in
      subst (Valued (suc i)) z (record {
        all_values = length-set x (basic_at t i) o.0 ∙ v.all_values;
        placed = λ r q l. by_eq r i
            (λ e. subst (λ r. get_or (set x (basic_at t i) o.0) (basic_at t r) 0ℚ ≡ neg_ℚ (rest r)) (sym e)
            (get_or-set_same x (basic_at t i) o.0 0ℚ (omega (arith, in_range i i_in, v.all_values))
            ∙ position_is i o.0 o.1))
            (λ e. get_or-set_other x (basic_at t i) (basic_at t r) o.0 0ℚ
            (λ y. e (apart t.rows (entry_at t) (basic_at t) units r i l i_in y)) ∙ v.placed r (omega (arith, q, e)) l);
        others =
            λ k q. get_or-set_other x (basic_at t i) k o.0 0ℚ (λ e. q i (omega arith) i_in (sym e))
            ∙ v.others k (λ r p l. q r (omega (arith, p)) l);
      })

  module _ (values : List ℚ) (ok : valued_run limit t ≡ Ok values) where
    -- the basic columns of all positions have their values
    valued : Valued t.rows values
    unfolding valued_run
    valued =
        steps_ok Valued t.rows
        (λ i values. position_run limit t i >>= λ v. Ok (set values (basic_at t i) v)) t.value values ok
        (record { all_values = all; placed = λ r q. absurd (let z : ⊥ = omega (arith, q) in z); others = λ k o. refl })
        step

    pub valued_length : length values ≡ all_columns t
    valued_length = valued.all_values

    -- columns that are not basic keep their values
    pub valued_other : (k : ℕ) → ¬ (status_at t k ≡ Basic) → get_or values k 0ℚ ≡ value_at t k
    valued_other k n = valued.others k (λ r _ l e. n (ap (status_at t) (sym e) ∙ marked r l))

    -- the values that the run gives solve each row r: its entries times them sum up to 0
    pub valued_solves : (r : ℕ) → r < t.rows →
        sum_below (all_columns t) (λ k. entry_at t r k *ℚ get_or values k 0ℚ) ≡ 0ℚ
    unfolding rest
    valued_solves r h =
        sum_below_same (all_columns t) _
        (λ k. entry_at t r k *ℚ value_at t k +ℚ entry_at t r k *ℚ (get_or values k 0ℚ -ℚ value_at t k))
        (λ k _. split (entry_at t r k) (get_or values k 0ℚ) (value_at t k))
        ∙ sum_below-+ℚ (all_columns t) (λ k. entry_at t r k *ℚ value_at t k)
        (λ k. entry_at t r k *ℚ (get_or values k 0ℚ -ℚ value_at t k))
        ∙ ap (λ s. rest r +ℚ s)
        (row_at t.rows (all_columns t) (entry_at t)
        (basic_at t) units in_range (λ k. get_or values k 0ℚ -ℚ value_at t k)
        (λ k _ none. ap (λ a. a -ℚ value_at t k) (valued.others k (λ r _ l. none r l)) ∙ +ℚ_neg (value_at t k)) r h
        ∙ ap₂ ◌-ℚ◌ (valued.placed r h h) (zero (basic_at t r) (in_range r h) (marked r h)))
        ∙ close (rest r)
      where
        split : (a v x : ℚ) → a *ℚ v ≡ a *ℚ x +ℚ a *ℚ (v -ℚ x)
        split a v x = simp ring

        close : (s : ℚ) → s +ℚ (neg_ℚ s -ℚ 0ℚ) ≡ 0ℚ
        close s = simp ring
