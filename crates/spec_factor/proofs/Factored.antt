-- Factors that were made anew: they stand for the basis, or its columns are dependent.
use Rattle.std.proofs.Common.{◌≡◌, ℕ, zero, suc, ◌+◌, ◌<◌, List, get_or, map, Option, Some, None, Result}
use Rattle.std.proofs.Common.{Ok, Err, Bool, true, false, cond, refl, sym, ap, ◌∙◌, subst, arith}
use Rattle.std.specs.Prelude.{unwrap_or}
use Rattle.std.proofs.lemmas.List.{length-map, get_or-map}
use Rattle.spec_exact.specs.Fraction.{ℚ, ◌*ℚ◌, 0ℚ, 1ℚ, eq_ℚ}
use Rattle.spec_exact.specs.Sums.{sum_below}
use Rattle.spec_exact.proofs.Field.{*ℚ_comm, *ℚ_zero}
use Rattle.spec_exact.proofs.Ruleset.{zero-*ℚ}
use Rattle.spec_exact.proofs.Same.{eq_if, eq_test}
use Rattle.spec_exact.proofs.Strict.{one-not-zero}
use Rattle.spec_exact.proofs.Sums.{sum_below_same, sum_below_none}
use Rattle.spec_pivot.specs.declared.status.Status.{Status}
use Rattle.spec_pivot.specs.declared.status.Status.TheVariants.{Basic}
use Rattle.spec_pivot.specs.Tableau.{delta}
use Rattle.spec_pivot.proofs.Pivot.{delta_same, delta_other}
use Rattle.spec_exact.specs.Run.{Run, refused_as, steps}
use Rattle.spec_simplex.specs.Form.{Form}
use Rattle.spec_simplex.specs.Tableau.{is_basic}
use Rattle.spec_simplex.proofs.RunParts.{then_ok, refused_ok, steps_ok}
use Rattle.spec_simplex.proofs.Walks.{ThenErr, first, second, then_err}
use Rattle.spec_simplex.specs.Eliminate.{basis_at, basics_below}
use Rattle.spec_factor.specs.declared.stop.NoFactors.{NoFactors}
use Rattle.spec_factor.specs.declared.stop.NoFactors.TheVariants as stop
use Rattle.spec_factor.specs.Factors.{Factors, Chosen, column_entry, column_of, ftran_run, open_place}
use Rattle.spec_factor.specs.Factors.{chosen_at, choose_run, none_chosen, choose_all, factors_of, factor_run}
use Rattle.spec_factor.specs.Basis.{forward, basis_of, AreFactors, AreDependent}
use Rattle.spec_factor.proofs.Forward.{forward_same, forward_combines}
use Rattle.spec_factor.proofs.Choosing.{chosen_column, none_found, filled_all, Took, basic_if}
use Rattle.spec_factor.proofs.Choosing.{took_none, took_step, took_all, solved, dependent}

-- ---- where steps stop
pub record StopsAt {A E : Type 0} (n : ℕ) (f : ℕ → A → Result A E) (a : A) (e : E) : Type 0 where
  pub at : ℕ
  pub inside : at < n
  pub state : A
  pub before : steps at f a ≡ Ok state
  pub stop : f at state ≡ Err e

-- where n steps end with an error, one of them ends with it, after those before it succeeded
pub stops_at : {A E : Type 0} (n : ℕ) (f : ℕ → A → Result A E) (a : A) (e : E) → steps n f a ≡ Err e → StopsAt n f a e
stops_at {A} {E} zero f a e h = let z : ◌≡◌ {A = Result A E} (Ok a) (Err e) = h in cc
stops_at (suc n) f a e h = by (then_err (steps n f a) (λ b. f n b) e h) (λ g. stops_at n f a e g)
  where
    by : ThenErr (steps n f a) (λ b. f n b) e → (steps n f a ≡ Err e → StopsAt n f a e) → StopsAt (suc n) f a e
    by (first g) more =
        let w =
        more g in
        record { at = w.at; inside = omega (arith, w.inside); state = w.state; before = w.before; stop = w.stop }
    by (second b g k) more = record { at = n; inside = omega arith; state = b; before = g; stop = k }

module _ (f : Form) (basis : List Status) where
  abbrev m : ℕ
  m = f.rows

  abbrev N : ℕ
  N = f.cols + f.rows

  -- ---- all places have a column
  pub are_factors : (s : Chosen) → Took f basis N s →
      ((p : ℕ) → p < m → (k : ℕ) × (chosen_column s.columns p ≡ Some k)) → AreFactors f basis (factors_of s)
  are_factors s t full = record {
    all = length-map s.columns (λ o. unwrap_or o 0) ∙ t.all;
    in_range = λ p l. let w = full p l in subst (λ k. k < N) (sym (is p w.0 l w.1)) ((t.marked p w.0 l w.1).0);
    marked = λ p l. let w = full p l in ap (basis_at basis) (is p w.0 l w.1) ∙ (t.marked p w.0 l w.1).1;
    placed = λ k l e. let w = t.placed k l e in (w.0, w.1, is w.0 k w.1 w.2);
    stands = record {
      sound = t.sound;
      units = λ p i l q. let w = full p l in
          forward_same m s.pairs (λ r. basis_of f (factors_of s).basic r p)
          (λ r. column_entry f r w.0) t.sound (λ r _. ap (column_entry f r) (is p w.0 l w.1)) i q
          ∙ t.units p w.0 i l q w.1;
    };
  }
    where
      is : (p k : ℕ) → p < m → chosen_column s.columns p ≡ Some k → get_or (map (λ o. unwrap_or o 0) s.columns) p 0 ≡ k
      is p k l e =
          get_or-map (λ o. unwrap_or o 0) s.columns p None 0 (subst (λ n. p < n) (sym t.all) l)
          ∙ ap (λ o. unwrap_or o 0) e

  pub factor_ok : (limit : Option ℕ) (s : Factors) → basics_below basis N ≡ m → factor_run limit f basis ≡ Ok s →
      AreFactors f basis s
  unfolding factor_run
  factor_ok limit s full h =
      let a = then_ok (choose_all limit f basis N) (λ s. Ok (factors_of s)) s h in
      let t : Took f basis N a.0 = took_all f basis limit N a.0 a.1 in
      let z : factors_of a.0 ≡ s = cc in
      subst (AreFactors f basis) z (are_factors a.0 t (filled_all a.0.columns m (t.count ∙ full)))

  -- ---- a column finds no place
  record IsStuck (n : ℕ) (s : Chosen) : Type 0 where
    basic : basis_at basis n ≡ Basic
    column : List ℚ
    solved : (limit : Option ℕ) × (ftran_run limit m s.pairs (column_of f n) ≡ Ok column)
    none : open_place s.columns column m ≡ None

  never_singular : {A : Type 0} (o : Run A) → ¬ (refused_as stop.Past o ≡ Err stop.Singular)
  never_singular {A} (Ok a) h = let z : ◌≡◌ {A = Result A (NoFactors ℚ)} (Ok a) (Err stop.Singular) = h in cc
  never_singular {A} (Err p) h =
      let z : ◌≡◌ {A = Result A (NoFactors ℚ)} (Err (stop.Past p)) (Err stop.Singular) =
      h in let y : stop.Past p ≡ stop.Singular = cc in cc

  stuck_at : (limit : Option ℕ) (n : ℕ) (s : Chosen) →
      cond (is_basic (basis_at basis n)) (choose_run limit f n s) (Ok s) ≡ Err stop.Singular → IsStuck n s
  stuck_at limit n s h = by (is_basic (basis_at basis n)) refl h
    where
      at : (v : List ℚ) → ftran_run limit m s.pairs (column_of f n) ≡ Ok v → basis_at basis n ≡ Basic →
          (o : Option ℕ) → open_place s.columns v m ≡ o → chosen_at s n v o ≡ Err stop.Singular → IsStuck n s
      at v g b None e h = record { basic = b; column = v; solved = (limit, g); none = e }
      at v g b (Some p) e h =
          let z : ◌≡◌ {A = Result Chosen (NoFactors ℚ)} (chosen_at s n v (Some p)) (Err stop.Singular) = h in cc

      two : basis_at basis n ≡ Basic →
          ThenErr (refused_as stop.Past (ftran_run limit m s.pairs (column_of f n)))
          (λ v. chosen_at s n v (open_place s.columns v m)) stop.Singular →
          IsStuck n s
      two b (first g) = absurd (never_singular (ftran_run limit m s.pairs (column_of f n)) g)
      two b (second v g k) =
          at v (refused_ok stop.Past (ftran_run limit m s.pairs (column_of f n)) v g) b
          (open_place s.columns v m) refl k

      by : (c : Bool) → is_basic (basis_at basis n) ≡ c → cond c (choose_run limit f n s) (Ok s) ≡ Err stop.Singular →
          IsStuck n s
      by true e h =
          two (basic_if f basis (basis_at basis n) e)
          (then_err (refused_as stop.Past (ftran_run limit m s.pairs (column_of f n)))
          (λ v. chosen_at s n v (open_place s.columns v m)) stop.Singular h)
      by false e h = let z : ◌≡◌ {A = Result Chosen (NoFactors ℚ)} (Ok s) (Err stop.Singular) = h in cc

  pub all_dependent : (limit : Option ℕ) → choose_all limit f basis N ≡ Err stop.Singular → AreDependent f basis
  unfolding choose_all
  all_dependent limit h =
      let w : StopsAt N (λ k s. cond (is_basic (basis_at basis k)) (choose_run limit f k s) (Ok s))
      (none_chosen f) stop.Singular =
      stops_at N _ (none_chosen f) stop.Singular h in
      let t : Took f basis w.at w.state =
      steps_ok (Took f basis) w.at _ (none_chosen f) w.state w.before
      (took_none f basis) (λ i x y _ t k. took_step f basis limit i x y t k) in
      let k : IsStuck w.at w.state = stuck_at limit w.at w.state w.stop in
      dependent f basis w.at w.state t w.inside k.column
      (solved f basis k.solved.0 w.state.pairs w.at k.column t.sound k.solved.1)
      (none_found w.state.columns k.column m k.none) k.basic

  pub factor_dependent : (limit : Option ℕ) → factor_run limit f basis ≡ Err stop.Singular → AreDependent f basis
  unfolding factor_run
  factor_dependent limit h = by (then_err (choose_all limit f basis N) (λ s. Ok (factors_of s)) stop.Singular h)
    where
      by : ThenErr (choose_all limit f basis N) (λ s. Ok (factors_of s)) stop.Singular → AreDependent f basis
      by (first g) = all_dependent limit g
      by (second s g k) =
          let z : ◌≡◌ {A = Result Factors (NoFactors ℚ)} (Ok (factors_of s)) (Err stop.Singular) = k in cc

  -- ---- factors of dependent columns there are none
  pub independent : (s : Factors) → AreFactors f basis s → ¬ (AreDependent f basis)
  independent s t d =
      let at = t.placed d.column d.in_range d.basic in
      let own : forward s.pairs (λ r. column_entry f r d.column) at.0 ≡ 1ℚ =
      unit_of d.column at.0 at.0 at.1 at.1 at.2 ∙ delta_same at.0 in
      let sum : forward s.pairs (λ r. column_entry f r d.column) at.0 ≡ 0ℚ =
      forward_combines m N s.pairs (column_entry f) d.weights
      (λ r. column_entry f r d.column) t.stands.sound (λ r l. d.combines r l ∙ turn r) at.0 at.1
      ∙ sum_below_none N _ (λ k l. by k (eq_ℚ (d.weights k) 0ℚ) refl at.0 at.1 at.2) in
      one-not-zero (sym own ∙ sum)
    where
      turn : (r : ℕ) →
          sum_below N (λ k. d.weights k *ℚ column_entry f r k) ≡ sum_below N (λ k. column_entry f r k *ℚ d.weights k)
      turn r = sum_below_same N _ _ (λ k _. *ℚ_comm (d.weights k) (column_entry f r k))

      unit_of : (k p i : ℕ) → p < m → i < m → get_or s.basic p 0 ≡ k →
          forward s.pairs (λ r. column_entry f r k) i ≡ delta p i
      unit_of k p i l q e =
          subst (λ k. forward s.pairs (λ r. column_entry f r k) i ≡ delta p i) e (t.stands.units p i l q)

      by : (k : ℕ) (c : Bool) → eq_ℚ (d.weights k) 0ℚ ≡ c → (p : ℕ) → p < m → get_or s.basic p 0 ≡ d.column →
          forward s.pairs (λ r. column_entry f r k) p *ℚ d.weights k ≡ 0ℚ
      by k true e p l x =
          ap (λ a. forward s.pairs (λ r. column_entry f r k) p *ℚ a) (eq_if (d.weights k) 0ℚ e) ∙ *ℚ_zero _
      by k false e p l x =
          let w = d.others k (λ y. let z : true ≡ false = sym (eq_test (d.weights k) 0ℚ y) ∙ e in cc) in
          let q = t.placed k (omega (arith, w.0, d.in_range)) w.1 in
          ap (λ a. a *ℚ d.weights k) (unit_of k q.0 p q.1 l q.2
          ∙ delta_other q.0 p (λ y. let z : k ≡ d.column = sym q.2 ∙ ap (λ p. get_or s.basic p 0) y ∙ x in
          let v : ⊥ = omega (arith, w.0, z) in v))
          ∙ zero-*ℚ _
