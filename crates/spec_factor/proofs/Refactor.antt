-- Factors taken anew of the same basic columns exist, and stand for them.
--
-- `stands_as`: pairs that stand for a basis matrix stand for each matrix of the same entries.
-- `refactored_goes`: a state that goes with a tableau can be factored anew, and then goes with it again.
use Rattle.std.proofs.Common.{◌≡◌, ◌≢◌, ℕ, ◌+◌, ◌-◌, ◌<◌, ◌≤◌, List, get_or, map, Option, Some, None, Result}
use Rattle.std.proofs.Common.{Ok, Err, Bool, true, false, cond, ◌&&◌, nat_le, refl, sym, ap, ◌∙◌, subst, arith}
use Rattle.std.proofs.lemmas.Bool.{le-leb, lt-leb, leb-true, and_parts}
use Rattle.std.proofs.lemmas.List.{length-map, get_or-map}
use Rattle.spec_exact.specs.Fraction.{ℚ, ◌*ℚ◌, 0ℚ}
use Rattle.spec_exact.proofs.Ruleset.{zero-*ℚ}
use Rattle.spec_exact.proofs.Strict.{one-not-zero}
use Rattle.spec_exact.proofs.Sums.{sum_below_none}
use Rattle.spec_pivot.specs.declared.status.Status.{Status}
use Rattle.spec_pivot.specs.declared.status.Status.TheVariants.{Basic}
use Rattle.spec_pivot.specs.Tableau.{Matrix, delta}
use Rattle.spec_pivot.proofs.Pivot.{delta_same, delta_other}
use Rattle.spec_simplex.specs.Form.{Form}
use Rattle.spec_exact.specs.Run.{◌>>=◌}
use Rattle.spec_simplex.specs.Tableau.{Tableau, form_columns, all_columns, status_at}
use Rattle.spec_exact.proofs.RunsInOrder.{get_or-made}
use Rattle.spec_runs.specs.Cold.{basis_status}
use Rattle.spec_simplex.specs.Tableau.{is_basic}
use Rattle.spec_simplex.proofs.ListIndices.{by_lt}
use Rattle.spec_simplex.specs.Eliminate.{basis_at}
use Rattle.spec_factor.specs.declared.stop.NoFactors.{NoFactors}
use Rattle.spec_factor.specs.declared.stop.NoFactors.TheVariants as factor
use Rattle.spec_factor.specs.Factors.{Pair, Factors, Chosen, column_entry, choose_all, factors_of, factor_run}
use Rattle.spec_factor.specs.Basis.{forward, StandsFor, basis_of, AreFactors}
use Rattle.spec_factor.specs.Revised.{Revised, factor_column, factor_basis, standing}
use Rattle.spec_factor.specs.Revised.{factor_stop, refactored, refactor_run}
use Rattle.spec_factor.proofs.Forward.{undone, forward_undone, forward_same, forward_combines}
use Rattle.spec_factor.proofs.Solves.{columns_solved}
use Rattle.spec_factor.proofs.Choosing.{chosen_column, Took, took_all, basic_if}
use Rattle.spec_factor.proofs.Factored.{are_factors, all_dependent, independent}
use Rattle.spec_factor.proofs.FactorLimits.{choose_agrees}
use Rattle.spec_factor.specs.Same.{Places, bare_with, state, GoesWith}

-- the same columns, read in another way
pub stands_as : (m : ℕ) (pairs : List Pair) (a c : Matrix) → StandsFor m pairs a →
    ((r s : ℕ) → r < m → s < m → a r s ≡ c r s) → StandsFor m pairs c
stands_as m pairs a c h e = record {
  sound = h.sound;
  units =
      λ s i l q. forward_same m pairs (λ r. c r s) (λ r. a r s) h.sound (λ r g. sym (e r s g l)) i q ∙ h.units s i l q;
}

-- ---- where a basis has factors, factoring it leaves no place without a column
module _ (f : Form) (basis : List Status) (s : Factors) (old : AreFactors f basis s)
    (c : Chosen) (t : Took f basis (f.cols + f.rows) c) where
  abbrev m : ℕ
  m = f.rows

  no_place_open : (p : ℕ) → p < m → chosen_column c.columns p ≢ None
  no_place_open p l e = one-not-zero (sym (forward_undone m c.pairs (delta p) t.sound p l ∙ delta_same p) ∙ nothing)
    where
      u : ℕ → ℚ
      u = undone c.pairs (delta p)

      x : ℕ → ℚ
      x = forward s.pairs u

      nothing : forward c.pairs u p ≡ 0ℚ
      nothing =
          forward_combines m m c.pairs (basis_of f s.basic) x u t.sound
          (λ r h. sym (columns_solved m s.pairs (basis_of f s.basic) old.stands u r h)) p l
          ∙ sum_below_none m _ (λ q h. let w = t.placed (get_or s.basic q 0) (old.in_range q h) (old.marked q h) in
          ap (λ a. a *ℚ x q) (t.units w.0 (get_or s.basic q 0) p w.1 l w.2 ∙ delta_other w.0 p
          (λ y. let z : None ≡ Some (get_or s.basic q 0) = sym e ∙ ap (chosen_column c.columns) (sym y) ∙ w.2 in cc))
          ∙ zero-*ℚ _)

  pub no_place_left : (p : ℕ) → p < m → (k : ℕ) × (chosen_column c.columns p ≡ Some k)
  no_place_left p l = by (chosen_column c.columns p) refl
    where
      by : (o : Option ℕ) → chosen_column c.columns p ≡ o → (k : ℕ) × (chosen_column c.columns p ≡ Some k)
      by None e = absurd (no_place_open p l e)
      by (Some k) e = (k, e)

-- without a limit it is then never stopped
module _ (f : Form) (basis : List Status) (s : Factors) (old : AreFactors f basis s) where
  abbrev N : ℕ
  N = f.cols + f.rows

  pub again : (u : Factors) × (factor_run None f basis ≡ Ok u) × AreFactors f basis u
  unfolding factor_run
  again = by (choose_all None f basis N) refl
    where
      by : (o : Result Chosen (NoFactors ℚ)) → choose_all None f basis N ≡ o →
          (u : Factors) × ((o >>= λ s. Ok (factors_of s)) ≡ Ok u) × AreFactors f basis u
      by (Ok c) e =
          let t : Took f basis N c =
          took_all f basis None N c e in (factors_of c, refl, are_factors f basis c t (no_place_left f basis s old c t))
      by (Err factor.Singular) e = absurd (independent f basis s old (all_dependent f basis None e))
      by (Err (factor.Past p)) e = absurd ((choose_agrees None f basis N).exact p e)

-- ---- the basic columns of a tableau, with artificials by their logicals
module _ (f : Form) (t : Tableau) (rows : t.rows ≡ f.rows) (cols : t.cols ≡ f.cols) where
  -- a column of the form, or an artificial, which stands as its row's logical
  pub by_factor : {P : Type 0} (k : ℕ) → k < all_columns t → (k < f.cols + f.rows → factor_column t k ≡ k → P)
      → ((i : ℕ) → i < f.rows → k ≡ f.cols + f.rows + i → factor_column t k ≡ f.cols + i → P) → P
  by_factor {P} k l g h =
      by_lt k (f.cols + f.rows)
      (λ q. g q (ap (λ c. cond c (k - t.rows) k) (lt-leb (form_columns t) k (omega (arith, q, rows, cols)))))
      (λ q. h (k - (f.cols + f.rows)) (omega (arith, l, q, rows, cols)) (omega (arith, q))
      (ap (λ c. cond c (k - t.rows) k) (le-leb (form_columns t) k (omega (arith, q, rows, cols)))
      ∙ (let z : k - t.rows ≡ f.cols + (k - (f.cols + f.rows)) = omega (arith, q, rows, cols) in z)))

  abbrev artificial_basic : ℕ → Bool
  artificial_basic k = nat_le t.cols k && is_basic (status_at t (k + t.rows))

  basis_reads : (k : ℕ) → k < f.cols + f.rows → basis_at (factor_basis t) k ≡ basis_status t k
  basis_reads k l = get_or-made (form_columns t) (basis_status t) k _ (omega (arith, l, rows, cols))

  basis_plain : (k : ℕ) → k < f.cols + f.rows → status_at t k ≡ Basic → basis_at (factor_basis t) k ≡ Basic
  basis_plain k l e = basis_reads k l ∙ by (artificial_basic k)
    where
      by : (c : Bool) → cond c Basic (status_at t k) ≡ Basic
      by true = refl
      by false = e

  basis_artificial : (i : ℕ) → i < f.rows → status_at t (f.cols + f.rows + i) ≡ Basic →
      basis_at (factor_basis t) (f.cols + i) ≡ Basic
  basis_artificial i l e =
      basis_reads (f.cols + i) (omega (arith, l))
      ∙ ap (λ c. cond (c && is_basic (status_at t (f.cols + i + t.rows))) Basic (status_at t (f.cols + i)))
      (le-leb t.cols (f.cols + i) (omega (arith, cols)))
      ∙ ap (λ c. cond c Basic (status_at t (f.cols + i)))
      ((let z : f.cols + i + t.rows ≡ f.cols + f.rows + i = omega (arith, rows) in ap (λ k. is_basic (status_at t k)) z)
      ∙ ap is_basic e)

  -- where column k is basic among the factors' columns, it is basic itself or by its artificial; then that stands as it
  by_standing : {P : Type 0} (k : ℕ) → k < f.cols + f.rows → basis_at (factor_basis t) k ≡ Basic →
      (standing t k ≡ k → status_at t k ≡ Basic → P)
      → ((i : ℕ) → i < f.rows → k ≡ f.cols + i → standing t k ≡ f.cols + f.rows + i →
      status_at t (f.cols + f.rows + i) ≡ Basic → P) → P
  by_standing {P} k l e g h = by (artificial_basic k) refl
    where
      by : (c : Bool) → artificial_basic k ≡ c → P
      by false q =
          g (ap (λ c. cond c (k + t.rows) k) q)
          (sym (ap (λ c. cond c Basic (status_at t k)) q) ∙ sym (basis_reads k l) ∙ e)
      by true q =
          let w = and_parts (nat_le t.cols k) (is_basic (status_at t (k + t.rows))) q in
          let at : t.cols ≤ k = leb-true t.cols k w.0 in
          let z : k + t.rows ≡ f.cols + f.rows + (k - f.cols) = omega (arith, at, rows, cols) in
          h (k - f.cols) (omega (arith, l, at, cols)) (omega (arith, at, cols)) (ap (λ c. cond c (k + t.rows) k) q ∙ z)
          (ap (status_at t) (sym z) ∙ basic_if f t.status (status_at t (k + t.rows)) w.1)

  -- a state's factors are those of this basis
  module _ (basic : List ℕ) (pairs : List Pair) (g : Places f t basic pairs) where
    abbrev by_logicals : List ℕ
    by_logicals = map (λ k. factor_column t k) basic

    logical_at : (p : ℕ) → p < f.rows → get_or by_logicals p 0 ≡ factor_column t (get_or basic p 0)
    logical_at p l = get_or-map (λ k. factor_column t k) basic p 0 0 (subst (λ n. p < n) (sym g.all) l)

    pub state_factors : AreFactors f (factor_basis t) (record { pairs = pairs; basic = by_logicals })
    state_factors = record {
      all = length-map basic (λ k. factor_column t k) ∙ g.all;
      in_range = λ p l. subst (λ k. k < f.cols + f.rows) (sym (logical_at p l))
          (by_factor (get_or basic p 0) (g.in_range p l) (λ q e. subst (λ k. k < f.cols + f.rows) (sym e) q)
          (λ i q _ e. subst (λ k. k < f.cols + f.rows) (sym e) (omega (arith, q))));
      marked = λ p l. ap (basis_at (factor_basis t)) (logical_at p l)
          ∙ by_factor (get_or basic p 0) (g.in_range p l)
          (λ q e. ap (basis_at (factor_basis t)) e ∙ basis_plain (get_or basic p 0) q (g.marked p l))
          (λ i q z e. ap (basis_at (factor_basis t)) e
          ∙ basis_artificial i q (ap (status_at t) (sym z) ∙ g.marked p l));
      placed = λ k l e. by_standing k l e
          (λ _ b. let w = g.placed k (omega (arith, l, rows, cols)) b in
          (w.0, w.1, logical_at w.0 w.1 ∙ ap (factor_column t) w.2 ∙ own k l))
          (λ i q z _ b. let w = g.placed (f.cols + f.rows + i) (omega (arith, q, rows, cols)) b in
          (w.0, w.1, logical_at w.0 w.1 ∙ ap (factor_column t) w.2 ∙ artificial i q ∙ sym z));
      stands = g.stands;
    }
      where
        own : (k : ℕ) → k < f.cols + f.rows → factor_column t k ≡ k
        own k l =
            by_factor k (omega (arith, l, rows, cols)) (λ _ e. e)
            (λ i _ z _. let y : ⊥ = omega (arith, l, z) in absurd y)

        artificial : (i : ℕ) → i < f.rows → factor_column t (f.cols + f.rows + i) ≡ f.cols + i
        artificial i q =
            by_factor (f.cols + f.rows + i) (omega (arith, q, rows, cols))
            (λ l _. let y : ⊥ = omega (arith, l) in absurd y)
            (λ j _ z e. let y : i ≡ j = omega (arith, z) in e ∙ ap (λ j. f.cols + j) (sym y))

    -- a logical and its artificial are not both basic
    not_both : (i : ℕ) → i < f.rows → status_at t (f.cols + i) ≡ Basic → status_at t (f.cols + f.rows + i) ≡ Basic → ⊥
    not_both i l a c =
        let p = g.placed (f.cols + i) (omega (arith, l, rows, cols)) a in
        let q = g.placed (f.cols + f.rows + i) (omega (arith, l, rows, cols)) c in
        let one : get_or by_logicals p.0 0 ≡ f.cols + i =
        logical_at p.0 p.1 ∙ ap (factor_column t) p.2
        ∙ by_factor (f.cols + i) (omega (arith, l, rows, cols)) (λ _ e. e)
        (λ j _ z _. let y : ⊥ = omega (arith, l, z) in absurd y) in
        let two : get_or by_logicals q.0 0 ≡ f.cols + i = logical_at q.0 q.1 ∙ ap (factor_column t) q.2
        ∙ by_factor (f.cols + f.rows + i) (omega (arith, l, rows, cols)) (λ h _. let y : ⊥ = omega (arith, h) in
        absurd y) (λ j _ z e. let y : i ≡ j = omega (arith, z) in e ∙ ap (λ j. f.cols + j) (sym y)) in
        let apart : p.0 ≢ q.0 =
        λ y. let z : f.cols + i ≡ f.cols + f.rows + i =
        sym p.2 ∙ ap (λ p. get_or basic p 0) y ∙ q.2 in let x : ⊥ = omega (arith, z, l) in x in
        let same : forward pairs (λ r. basis_of f by_logicals r p.0) p.0
        ≡ forward pairs (λ r. basis_of f by_logicals r q.0) p.0 =
        ap (λ k. forward pairs (λ r. column_entry f r k) p.0) (one ∙ sym two) in
        one-not-zero (sym (delta_same p.0) ∙ sym (g.stands.units p.0 p.0 p.1 p.1) ∙ same
        ∙ g.stands.units q.0 p.0 q.1 p.1 ∙ delta_other q.0 p.0 (λ y. apart (sym y)))

    module _ (u : Factors) (is : AreFactors f (factor_basis t) u) where
      abbrev back : List ℕ
      back = map (λ k. standing t k) u.basic

      back_at : (p : ℕ) → p < f.rows → get_or back p 0 ≡ standing t (get_or u.basic p 0)
      back_at p l = get_or-map (λ k. standing t k) u.basic p 0 0 (subst (λ n. p < n) (sym is.all) l)

      by_place : (P : ℕ → Type 0) (p : ℕ) → p < f.rows →
          (status_at t (get_or u.basic p 0) ≡ Basic → P (get_or u.basic p 0))
          → ((i : ℕ) → i < f.rows → get_or u.basic p 0 ≡ f.cols + i →
          status_at t (f.cols + f.rows + i) ≡ Basic → P (f.cols + f.rows + i)) → P (get_or back p 0)
      by_place P p l g h =
          by_standing (get_or u.basic p 0) (is.in_range p l) (is.marked p l)
          (λ e b. subst P (sym (back_at p l ∙ e)) (g b))
          (λ i q z e b. subst P (sym (back_at p l ∙ e)) (h i q z b))

      pub new_places : Places f t back u.pairs
      new_places = record {
        all = length-map u.basic (λ k. standing t k) ∙ is.all;
        in_range =
            λ p l. by_place (λ k. k < all_columns t) p l
            (λ _. let q = is.in_range p l in omega (arith, q, rows, cols)) (λ i q _ _. omega (arith, q, rows, cols));
        marked = λ p l. by_place (λ k. status_at t k ≡ Basic) p l (λ b. b) (λ i _ _ b. b);
        placed = λ k l b. by_factor k l
            (λ q _. let w = is.placed k q (basis_plain k q b) in (
              w.0,
              w.1,
              by_standing k q (basis_plain k q b)
                  (λ e _. back_at w.0 w.1 ∙ ap (standing t) w.2 ∙ e)
                  (λ i h z _ c. absurd (not_both i h (ap (status_at t) (sym z) ∙ b) c)),
            ))
            (λ i q z _. let e : basis_at (factor_basis t) (f.cols + i) ≡ Basic =
            basis_artificial i q (ap (status_at t) (sym z) ∙ b) in
            let w = is.placed (f.cols + i) (omega (arith, q)) e in (
              w.0,
              w.1,
              back_at w.0 w.1 ∙ ap (standing t) w.2
                  ∙ by_standing (f.cols + i) (omega (arith, q)) e
                  (λ _ c. absurd (not_both i q c (ap (status_at t) (sym z) ∙ b)))
                  (λ j _ y x _. x
                  ∙ (let v : i ≡ j = omega (arith, y) in ap (λ j. f.cols + f.rows + j) (sym v)) ∙ sym z),
            ));
        stands =
            stands_as f.rows u.pairs (basis_of f u.basic) (basis_of f (map (λ k. factor_column t k) back)) is.stands
            (λ r p _ l. ap (column_entry f r) (sym (get_or-map (λ k. factor_column t k) back p 0 0
            (subst (λ n. p < n) (sym (length-map u.basic (λ k. standing t k) ∙ is.all)) l) ∙ fore p l)));
      }
        where
          fore : (p : ℕ) → p < f.rows → factor_column t (get_or back p 0) ≡ get_or u.basic p 0
          fore p l = by_place (λ k. factor_column t k ≡ get_or u.basic p 0) p l
              (λ _. by_factor (get_or u.basic p 0) (let q = is.in_range p l in omega (arith, q, rows, cols))
              (λ _ e. e) (λ i _ z _. let q = is.in_range p l in let y : ⊥ = omega (arith, q, z) in absurd y))
              (λ i q z _. by_factor (f.cols + f.rows + i) (omega (arith, q, rows, cols))
              (λ h _. let y : ⊥ = omega (arith, h) in absurd y)
              (λ j _ y e. let v : i ≡ j = omega (arith, y) in e ∙ ap (λ j. f.cols + j) (sym v) ∙ sym z))

-- a state goes with its tableau after factoring anew as before
pub refactored_goes : (f : Form) (t : Tableau) (s : Revised) → t.rows ≡ f.rows → t.cols ≡ f.cols → GoesWith f t s →
    (u : Revised) × (refactor_run None f s.bare ≡ Ok u) × GoesWith f t u
unfolding refactor_run
refactored_goes f t s rows cols g =
    let w =
    again f (factor_basis t) (record { pairs = g.pairs; basic = map (λ k. factor_column t k) g.basic })
    (state_factors f t rows cols g.basic g.pairs g.places) in
    let new : Places f t (map (λ k. standing t k) w.0.basic) w.0.pairs =
    new_places f t rows cols g.basic g.pairs g.places w.0 w.2 in (
      state t (map (λ k. standing t k) w.0.basic) w.0.pairs 0,
      ap (λ (s : Revised). factor_stop (factor_run None f (factor_basis s.bare)) >>= λ v. Ok (refactored s.bare v))
          g.same
          ∙ ap (λ o. factor_stop o >>= λ v. Ok (refactored (bare_with t g.basic) v)) w.1,
      record { basic = map (λ k. standing t k) w.0.basic; pairs = w.0.pairs; replaced = 0; same = refl; places = new },
    )
