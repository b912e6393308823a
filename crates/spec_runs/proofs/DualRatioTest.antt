-- The dual ratio test of the run is that of the table.
use Rattle.std.proofs.Common.{◌≡◌, ℕ, zero, suc, ◌<◌, Option, Some, None, Ok, Bool, true}
use Rattle.std.proofs.Common.{false, cond, nat_eq, refl, sym, ap, ◌∙◌, subst, arith}
use Rattle.std.proofs.lemmas.Bool.{eqb-true, eqb-false}
use Rattle.std.specs.declared.cmp.Ordering.{Ordering}
use Rattle.std.specs.declared.cmp.Ordering.TheVariants.{Less, Equal, Greater}
use Rattle.std.specs.Ordering.{is_lt}
use Rattle.spec_exact.specs.Fraction.{ℚ, 0ℚ, ◌≤ℚ◌, ◌<ℚ◌, lt_ℚ, abs_ℚ}
use Rattle.spec_exact.specs.Limit.{order}
use Rattle.spec_exact.proofs.Compare.{order_less, order_equal, order_greater}
use Rattle.spec_exact.proofs.Order.{≤ℚ_refl, ≤ℚ_trans, ≤ℚ_antisym, <ℚ-le, lt_if, lt_test, le_if_not}
use Rattle.spec_exact.proofs.Strict.{not-zero_from_lt, not-zero_from_below}
use Rattle.spec_pivot.specs.declared.status.Status.{Status}
use Rattle.spec_pivot.specs.declared.status.Status.TheVariants.{Basic, AtLower, AtUpper, AtZero}
use Rattle.spec_pivot.specs.declared.status.Way.{Way}
use Rattle.spec_pivot.specs.declared.status.Way.TheVariants.{Up, Down}
use Rattle.spec_pivot.specs.Tableau.{Matrix}
use Rattle.spec_pivot.specs.Simplex.{Bounds}
use Rattle.spec_pivot.proofs.Pivot.{by_eq}
use Rattle.spec_exact.specs.Run.{quotient_run, order_run}
use Rattle.spec_simplex.specs.Step.{directed, way_by}
use Rattle.spec_simplex.specs.Tableau.{Tableau, all_columns, basic_at, entry_at}
use Rattle.spec_simplex.specs.Tableau.{reduced_at, status_at, lower_at, upper_at, is_fixed}
use Rattle.spec_simplex.specs.Tables.{table_of}
use Rattle.spec_simplex.proofs.RunParts.{then_ok, quotient_ok, order_ok, steps_ok}
use Rattle.spec_simplex.proofs.Flips.{directed_is}
use Rattle.spec_pivot.specs.Dual.{Helps, row_of, ratio, IsCandidate, IsCheapest}
use Rattle.spec_simplex.specs.declared.ends.Cheapest.{Cheapest}
use Rattle.spec_runs.specs.Based.{IsBased}
use Rattle.spec_simplex.specs.Dual.{place_below, dual_way_at, cheaper_run}
use Rattle.spec_simplex.specs.Dual.{cheapest_by, cheapest_with, cheapest_run}
use Rattle.spec_runs.proofs.Bounded.{fixed_is, not_fixed_is}

-- ---- the position of a basic column

-- a column that is basic at one of the first n positions is found at one of them
pub place_is : (t : Tableau) (k n r : ℕ) → r < n → basic_at t r ≡ k →
    (place_below t k n < n) × (basic_at t (place_below t k n) ≡ k)
place_is t k zero r h e = absurd (let z : ⊥ = omega (arith, h) in z)
place_is t k (suc n) r h e = by (nat_eq (basic_at t n) k) refl (λ l. place_is t k n r l e)
  where
    by : (c : Bool) → nat_eq (basic_at t n) k ≡ c →
        (r < n → (place_below t k n < n) × (basic_at t (place_below t k n) ≡ k))
        → (cond c n (place_below t k n) < suc n) × (basic_at t (cond c n (place_below t k n)) ≡ k)
    by true c more = (omega arith, eqb-true (basic_at t n) k c)
    by false c more =
        let o =
        more (by_eq r n (λ z. absurd (eqb-false (basic_at t n) k c (ap (basic_at t) (sym z) ∙ e)))
        (λ z. omega (arith, h, z))) in
        (omega (arith, o.0), o.1)

-- ---- the test of a status and an entry

-- where the test gives no direction, the entry does not help a column of that status
way_none : (s : Status) (a : ℚ) → way_by s a ≡ None → ¬ (Helps s a)
way_none Basic a e h = h
way_none AtLower a e h = let z : None ≡ Some Up = sym e ∙ rw (lt_test a 0ℚ h) refl in cc
way_none AtUpper a e h = let z : None ≡ Some Down = sym e ∙ rw (lt_test 0ℚ a h) refl in cc
way_none AtZero a e h = by (lt_ℚ a 0ℚ) (lt_ℚ 0ℚ a) refl refl e
  where
    by : (c d : Bool) → lt_ℚ a 0ℚ ≡ c → lt_ℚ 0ℚ a ≡ d → cond c (Some Up) (cond d (Some Down) None) ≡ None → ⊥
    by true d p q e = let z : Some Up ≡ None = e in cc
    by false true p q e = let z : Some Down ≡ None = e in cc
    by false false p q e = h (≤ℚ_antisym a 0ℚ (le_if_not 0ℚ a q) (le_if_not a 0ℚ p))

-- where the test gives a direction, the entry helps a column of that status
way_some : (s : Status) (a : ℚ) (w : Way) → way_by s a ≡ Some w → Helps s a
way_some Basic a w e = let z : None ≡ Some w = e in cc
way_some AtLower a w e = by (lt_ℚ a 0ℚ) refl e
  where
    by : (c : Bool) → lt_ℚ a 0ℚ ≡ c → cond c (Some Up) None ≡ Some w → a <ℚ 0ℚ
    by true p e = lt_if a 0ℚ p
    by false p e = let z : None ≡ Some w = e in cc
way_some AtUpper a w e = by (lt_ℚ 0ℚ a) refl e
  where
    by : (c : Bool) → lt_ℚ 0ℚ a ≡ c → cond c (Some Down) None ≡ Some w → 0ℚ <ℚ a
    by true p e = lt_if 0ℚ a p
    by false p e = let z : None ≡ Some w = e in cc
way_some AtZero a w e = by (lt_ℚ a 0ℚ) (lt_ℚ 0ℚ a) refl refl e
  where
    by : (c d : Bool) → lt_ℚ a 0ℚ ≡ c → lt_ℚ 0ℚ a ≡ d → cond c (Some Up) (cond d (Some Down) None) ≡ Some w →
        ¬ (a ≡ 0ℚ)
    by true d p q e = not-zero_from_below a (lt_if a 0ℚ p)
    by false true p q e = not-zero_from_lt a (lt_if 0ℚ a q)
    by false false p q e = let z : None ≡ Some w = e in cc

-- ---- the better of two

-- the cheaper of two candidates has a ratio of at most that of each
kept_least : (new best : Cheapest ℚ) (o : Ordering) → o ≡ order new.ratio best.ratio →
    ((cond (is_lt o) new best).ratio ≤ℚ new.ratio) × ((cond (is_lt o) new best).ratio ≤ℚ best.ratio)
kept_least new best Less e =
    (≤ℚ_refl new.ratio, <ℚ-le new.ratio best.ratio ((order_less new.ratio best.ratio).0 (sym e)))
kept_least new best Equal e = (
  subst (λ a. best.ratio ≤ℚ a) (sym ((order_equal new.ratio best.ratio).0 (sym e))) (≤ℚ_refl best.ratio),
  ≤ℚ_refl best.ratio,
)
kept_least new best Greater e =
    (<ℚ-le best.ratio new.ratio ((order_greater new.ratio best.ratio).0 (sym e)), ≤ℚ_refl best.ratio)

-- what holds of two candidates holds of the cheaper one
one_of : (P : Cheapest ℚ → Type 0) (new best : Cheapest ℚ) (o : Ordering) → P new → P best → P (cond (is_lt o) new best)
one_of P new best Less p q = p
one_of P new best Equal p q = q
one_of P new best Greater p q = q

-- ---- the test of a tableau
module _ (limit : Option ℕ) (f : Matrix) (cost : ℕ → ℚ) (b : Bounds) (t : Tableau)
    (s : IsBased t.rows t.cols f cost b t) (p : ℕ) (way : Way) where
  abbrev Candidate : ℕ → Type 0
  Candidate k = IsCandidate b (table_of t) way p k

  row_is : (k : ℕ) → directed way (entry_at t p k) ≡ row_of (table_of t) way p k
  row_is k = directed_is way (entry_at t p k)

  -- where the test of column k gives no direction, the column is no candidate
  not_candidate : (k : ℕ) → k < all_columns t → dual_way_at t p way k ≡ None → ¬ (Candidate k)
  not_candidate k h e c = by (is_fixed (lower_at t k) (upper_at t k)) refl e
    where
      by : (d : Bool) → is_fixed (lower_at t k) (upper_at t k) ≡ d →
          cond d None (way_by (status_at t k) (directed way (entry_at t p k))) ≡ None → ⊥
      by true d e = c.not_fixed (fixed_is f cost b t s k h d)
      by false d e =
          way_none (status_at t k) (directed way (entry_at t p k)) e
          (subst (Helps (status_at t k)) (sym (row_is k)) c.helps)

  -- where the test of column k gives a direction, the column is a candidate
  a_candidate : (k : ℕ) (w : Way) → k < all_columns t → dual_way_at t p way k ≡ Some w → Candidate k
  a_candidate k w h e = by (is_fixed (lower_at t k) (upper_at t k)) refl e
    where
      by : (d : Bool) → is_fixed (lower_at t k) (upper_at t k) ≡ d →
          cond d None (way_by (status_at t k) (directed way (entry_at t p k))) ≡ Some w → Candidate k
      by true d e = let z : None ≡ Some w = e in cc
      by false d e =
          record {
            not_fixed = not_fixed_is f cost b t s k h d;
            helps =
                subst (Helps (status_at t k)) (row_is k)
                (way_some (status_at t k) (directed way (entry_at t p k)) w e);
          }

  -- a candidate whose ratio is the least of those of the first n columns
  record IsLeast (n : ℕ) (x : Cheapest ℚ) : Type 0 where
    inside : x.col < all_columns t
    candidate : Candidate x.col
    ratio_at : x.ratio ≡ ratio (table_of t) p x.col
    least : (k : ℕ) → k < n → Candidate k → x.ratio ≤ℚ ratio (table_of t) p k

  abbrev CheapestIs : ℕ → Option (Cheapest ℚ) → Type 0
  CheapestIs n None = (k : ℕ) → k < n → ¬ (Candidate k)
  CheapestIs n (Some x) = IsLeast n x

  -- where column k is a candidate, the cheaper of it and the cheapest below k is the cheapest below k + 1
  with_one : (k : ℕ) (q : ℚ) → k < all_columns t → Candidate k → q ≡ ratio (table_of t) p k →
      (best next : Option (Cheapest ℚ)) → CheapestIs k best →
      cheaper_run limit (record { ratio = q; col = k }) best ≡ Ok next → CheapestIs (suc k) next
  with_one k q h c e None next was ok =
      let z : ◌≡◌ {A = Option (Cheapest ℚ)} (Some (record { ratio = q; col = k })) next = cc in
      subst (CheapestIs (suc k)) z (record {
        inside = h;
        candidate = c;
        ratio_at = e;
        least =
            λ i l d. by_eq i k (λ y. subst (λ a. q ≤ℚ a) (e ∙ ap (ratio (table_of t) p) (sym y)) (≤ℚ_refl q))
            (λ y. absurd (was i (omega (arith, l, y)) d));
      })
  with_one k q h c e (Some x) next was ok =
      let new : Cheapest ℚ = record { ratio = q; col = k } in
      let o = then_ok (order_run limit q x.ratio) (λ o. Ok (Some (cond (is_lt o) new x))) next ok in
      let z : Some (cond (is_lt o.0) new x) ≡ next = cc in
      let less = kept_least new x o.0 (order_ok limit q x.ratio o.0 o.1) in
      subst (CheapestIs (suc k)) z (record {
        inside = one_of (λ x. x.col < all_columns t) new x o.0 h was.inside;
        candidate = one_of (λ x. Candidate x.col) new x o.0 c was.candidate;
        ratio_at = one_of (λ x. x.ratio ≡ ratio (table_of t) p x.col) new x o.0 e was.ratio_at;
        least = λ i l d. by_eq i k
            (λ y. subst (λ a. (cond (is_lt o.0) new x).ratio ≤ℚ a) (e ∙ ap (ratio (table_of t) p) (sym y)) less.0)
            (λ y. ≤ℚ_trans (cond (is_lt o.0) new x).ratio x.ratio (ratio (table_of t) p i) less.1
            (was.least i (omega (arith, l, y)) d));
      })

  -- where column k is no candidate, the cheapest below k is the cheapest below k + 1
  without_one : (k : ℕ) (best : Option (Cheapest ℚ)) → ¬ (Candidate k) → CheapestIs k best → CheapestIs (suc k) best
  without_one k None n was =
      λ i l. by_eq i k (λ y. subst (λ i. ¬ (Candidate i)) (sym y) n) (λ y. was i (omega (arith, l, y)))
  without_one k (Some x) n was = record {
    inside = was.inside;
    candidate = was.candidate;
    ratio_at = was.ratio_at;
    least = λ i l d. by_eq i k (λ y. absurd (n (subst Candidate y d))) (λ y. was.least i (omega (arith, l, y)) d);
  }

  -- where the cheapest below k is known, what the run makes of it at column k is the cheapest below k + 1
  step : (k : ℕ) (best next : Option (Cheapest ℚ)) → k < all_columns t → CheapestIs k best →
      cheapest_with limit t p way k best ≡ Ok next → CheapestIs (suc k) next
  step k best next h was ok = by (dual_way_at t p way k) refl ok
    where
      by : (o : Option Way) → dual_way_at t p way k ≡ o → cheapest_by limit t p k best o ≡ Ok next →
          CheapestIs (suc k) next
      by None e ok =
          let z : best ≡ next = cc in subst (CheapestIs (suc k)) z (without_one k best (not_candidate k h e) was)
      by (Some w) e ok =
          let o =
          then_ok (quotient_run limit (abs_ℚ (reduced_at t k)) (abs_ℚ (entry_at t p k)))
          (λ ratio. cheaper_run limit (record { ratio = ratio; col = k }) best) next ok in
          with_one k o.0 h (a_candidate k w h e)
          (quotient_ok limit (abs_ℚ (reduced_at t k)) (abs_ℚ (entry_at t p k)) o.0 o.1) best next was o.2

  -- what the run finds is the cheapest of all columns
  cheapest_is : (best : Option (Cheapest ℚ)) → cheapest_run limit t p way ≡ Ok best → CheapestIs (all_columns t) best
  cheapest_is best ok =
      steps_ok CheapestIs (all_columns t) (cheapest_with limit t p way) None best ok
      (λ k l. absurd (let z : ⊥ = omega (arith, l) in z)) step

  -- where the run finds no cheapest column at position p, no column is a candidate there
  pub none_cheapest : cheapest_run limit t p way ≡ Ok None → (k : ℕ) → k < all_columns t →
      ¬ (IsCandidate b (table_of t) way p k)
  none_cheapest ok = cheapest_is None ok

  -- the cheapest column that the run finds at position p is the table's: a candidate of the least ratio
  pub a_cheapest : (x : Cheapest ℚ) → cheapest_run limit t p way ≡ Ok (Some x) →
      IsCheapest (all_columns t) b (table_of t) way p x.col
  a_cheapest x ok =
      let there : IsLeast (all_columns t) x = cheapest_is (Some x) ok in
      record {
        in_range = there.inside;
        candidate = there.candidate;
        least = λ k l c. subst (λ a. a ≤ℚ ratio (table_of t) p k) there.ratio_at (there.least k l c);
      }
