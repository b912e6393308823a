-- One basis, one step: two tableaus of the same statuses choose the same step, named by its columns.
use Rattle.std.proofs.Common.{◌≡◌, ◌≢◌, ℕ, zero, suc, ◌+◌, ◌<◌, ◌≤◌, Option, Some, None, Ok, cond}
use Rattle.std.proofs.Common.{option_map, refl, sym, ap, ap₂, ◌∙◌, subst, subst₂, arith, ⊎_elim}
use Rattle.spec_exact.specs.Fraction.{ℚ, 0ℚ, ◌-ℚ◌, neg_ℚ, ◌*ℚ◌}
use Rattle.spec_pivot.specs.declared.status.Status.TheVariants.{Basic}
use Rattle.spec_pivot.specs.Tableau.{Matrix}
use Rattle.spec_pivot.specs.Simplex.{Bounds, IsTableau, Enters, ray, sign, SameStatuses, SameTableau}
use Rattle.spec_pivot.specs.Ratio.{room, room_at, scan, range_of, best_of, way_of, bound_ahead}
use Rattle.spec_pivot.specs.Ratio as test
use Rattle.spec_pivot.proofs.SameEquations.{j_outside}
use Rattle.spec_pivot.proofs.Ray.{ray_basic}
use Rattle.spec_pivot.proofs.Same.{one_tableau}
use Rattle.spec_pivot.proofs.Values.{by_basic}
use Rattle.spec_simplex.specs.declared.ends.Entering.{Entering}
use Rattle.spec_simplex.specs.declared.ends.Best.{Best}
use Rattle.spec_simplex.specs.declared.ends.PrimalEnd.TheVariants.{Optimal}
use Rattle.spec_simplex.specs.declared.ends.Choice.{Choice}
use Rattle.spec_simplex.specs.declared.ends.Choice.TheVariants.{End, Pivot}
use Rattle.spec_simplex.specs.Tableau.{Tableau, all_columns, basic_at, value_at}
use Rattle.spec_simplex.specs.Tableau.{reduced_at, status_at, lower_at, upper_at, is_fixed}
use Rattle.spec_simplex.specs.Step.{way_by, way_at, or_enters, entering_below, entering, directed}
use Rattle.spec_simplex.specs.Step.{best_run, choice_at, choice_by, choice_of, choice_run}
use Rattle.spec_simplex.specs.Tables.{table_of, IsTableauOf}
use Rattle.spec_simplex.proofs.RunParts.{then_ok}
use Rattle.spec_simplex.proofs.ListIndices.{by_lt}
use Rattle.spec_simplex.proofs.Enters.{an_entering}
use Rattle.spec_simplex.proofs.Tests.{plain, no_best, a_best, best_ahead}
use Rattle.spec_factor.specs.Same.{SameChoice}
use Rattle.spec_factor.proofs.SameScan.{SamePositions, SameBest, none_same, same_best}

-- ---- a tableau by its own count of positions and columns
module _ (m n : ℕ) (f : Matrix) (cost : ℕ → ℚ) (b : Bounds) (t : Tableau) (s : IsTableauOf m n f cost b t) where
  pub own_table : IsTableau t.rows (all_columns t) f cost b (table_of t)
  own_table = subst₂ (λ m n. IsTableau m (n + m + m) f cost b (table_of t)) (sym s.rows) (sym s.cols) s.tableau

  pub columns_are : all_columns t ≡ n + m + m
  columns_are = ap₂ (λ m n. n + m + m) s.rows s.cols

  -- the upper bound of a column by its status
  pub upper_is : (k : ℕ) → k < n + m + m → (P : Option ℚ → Type 0) → (k < n + m → P (b.upper k)) →
      (n + m ≤ k → status_at t k ≡ Basic → P (b.upper k)) → (n + m ≤ k → ¬ (status_at t k ≡ Basic) → P (Some 0ℚ)) →
      P (upper_at t k)
  upper_is k l P before basic other =
      by_lt k (n + m)
      (λ h. subst P (sym (s.bounds.upper k (omega (arith, h, s.rows, s.cols)))) (before h))
      (λ h. by_basic (status_at t k)
      (λ e. subst P (sym (s.bounds.basic k (omega (arith, l, s.rows, s.cols)) e)) (basic h e))
      (λ e. subst P
      (sym (s.bounds.fixed k (omega (arith, h, s.rows, s.cols)) (omega (arith, l, s.rows, s.cols)) e)) (other h e)))

  -- the ratio test of a run is the scan over positions
  scan_is : (e : Entering) → Enters (all_columns t) b (table_of t) e.direction e.col → (limit : Option ℕ) →
      (best : Option (Best ℚ)) → best_run limit t e ≡ Ok best →
      best_of m b (table_of t) e.direction e.col ≡ option_map plain best
  scan_is e enters limit best h =
      subst (λ m. best_of m b (table_of t) e.direction e.col ≡ option_map plain best) s.rows (by best h)
    where
      by : (best : Option (Best ℚ)) → best_run limit t e ≡ Ok best →
          best_of t.rows b (table_of t) e.direction e.col ≡ option_map plain best
      by None h = no_best limit t s.whole f cost b own_table s.bounds e enters h
      by (Some x) h = a_best limit t s.whole f cost b own_table s.bounds e enters x h

module _ (m n : ℕ) (f : Matrix) (cost : ℕ → ℚ) (b : Bounds) (t u : Tableau) (st : IsTableauOf m n f cost b t)
    (su : IsTableauOf m n f cost b u) (same : SameStatuses (n + m + m) (table_of t) (table_of u)) where
  pub both : SameTableau m (n + m + m) (table_of t) (table_of u)
  both = one_tableau m (n + m + m) f cost b (table_of t) (table_of u) st.tableau su.tableau same

  -- ---- the bounds
  pub same_lower : (k : ℕ) → k < n + m + m → lower_at t k ≡ lower_at u k
  same_lower k l =
      st.bounds.lower k (omega (arith, l, st.rows, st.cols))
      ∙ sym (su.bounds.lower k (omega (arith, l, su.rows, su.cols)))

  pub same_upper : (k : ℕ) → k < n + m + m → upper_at t k ≡ upper_at u k
  same_upper k l =
      upper_is m n f cost b t st k l (λ o. o ≡ upper_at u k)
      (λ h. upper_is m n f cost b u su k l (λ o. b.upper k ≡ o) (λ _. refl)
      (λ h' e. refl) (λ h' e. let z : ⊥ = omega (arith, h, h') in absurd z))
      (λ h e. upper_is m n f cost b u su k l (λ o. b.upper k ≡ o)
      (λ _. refl) (λ h' e. refl) (λ h' z. absurd (z (sym (same k l) ∙ e))))
      (λ h e. upper_is m n f cost b u su k l (λ o. Some 0ℚ ≡ o)
      (λ h'. let z : ⊥ = omega (arith, h, h') in absurd z) (λ h' z. absurd (e (same k l ∙ z))) (λ h' z. refl))

  -- ---- the column that enters
  same_way : (k : ℕ) → k < n + m + m → way_at t k ≡ way_at u k
  same_way k l =
      ap₂ (λ x y. cond (is_fixed x y) None (way_by (status_at t k) (reduced_at t k))) (same_lower k l) (same_upper k l)
      ∙ ap₂ (λ x y. cond (is_fixed (lower_at u k) (upper_at u k)) None (way_by x y)) (same k l) (both.reduced k)

  same_below : (k : ℕ) → k ≤ n + m + m → entering_below t k ≡ entering_below u k
  same_below zero l = refl
  same_below (suc k) l = ap₂ (λ e w. or_enters e k w) (same_below k (omega (arith, l))) (same_way k (omega (arith, l)))

  pub same_entering : entering t ≡ entering u
  same_entering =
      ap (entering_below t) (columns_are m n f cost b t st)
      ∙ same_below (n + m + m) (let z : n + m + m ≤ n + m + m = omega arith in z)
      ∙ ap (entering_below u) (sym (columns_are m n f cost b u su))

  -- ---- the ratio test
  module _ (e : Entering) (there : entering t ≡ Some e) where
    abbrev rooms : Tableau → ℕ → Option ℚ
    rooms v = room_at m b (table_of v) e.direction e.col

    enters_t : Enters (n + m + m) b (table_of t) e.direction e.col
    enters_t =
        subst (λ k. Enters k b (table_of t) e.direction e.col)
        (columns_are m n f cost b t st) (an_entering b t st.bounds e there)

    enters_u : Enters (n + m + m) b (table_of u) e.direction e.col
    enters_u =
        subst (λ k. Enters k b (table_of u) e.direction e.col) (columns_are m n f cost b u su)
        (an_entering b u su.bounds e (sym same_entering ∙ there))

    outside_t : (i : ℕ) → i < m → basic_at t i ≢ e.col
    outside_t = j_outside m (n + m + m) f cost b (table_of t) st.tableau e.direction e.col enters_t

    outside_u : (i : ℕ) → i < m → basic_at u i ≢ e.col
    outside_u = j_outside m (n + m + m) f cost b (table_of u) su.tableau e.direction e.col enters_u

    -- the basic columns of both move in the same way
    same_ray : (r i : ℕ) → r < m → i < m → basic_at t r ≡ basic_at u i →
        ray m (table_of t) e.direction e.col (basic_at t r) ≡ ray m (table_of u) e.direction e.col (basic_at u i)
    same_ray r i p q z =
        ray_basic m (table_of t) st.tableau.units e.direction e.col outside_t r p
        ∙ ap (λ a. neg_ℚ (sign e.direction *ℚ a)) (both.rows r i p q z e.col)
        ∙ sym (ray_basic m (table_of u) su.tableau.units e.direction e.col outside_u i q)

    same_room : (r i : ℕ) → r < m → i < m → basic_at t r ≡ basic_at u i → rooms t r ≡ rooms u i
    same_room r i p q z =
        ap₂ (λ k a. room b k (value_at t k) a) z (same_ray r i p q z)
        ∙ ap (λ v. room b (basic_at u i) v (ray m (table_of u) e.direction e.col (basic_at u i)))
        (both.values (basic_at u i) (su.tableau.in_range i q))

    forth : SamePositions m (rooms t) (basic_at t) (rooms u) (basic_at u)
    forth = record {
      position =
          λ r p. let q =
          su.tableau.placed (basic_at t r) (st.tableau.in_range r p)
          (sym (same (basic_at t r) (st.tableau.in_range r p)) ∙ st.tableau.marked r p) in
          (q.0, q.1, sym q.2, same_room r q.0 p q.1 (sym q.2));
    }

    back : SamePositions m (rooms u) (basic_at u) (rooms t) (basic_at t)
    back = record {
      position =
          λ i p. let q =
          st.tableau.placed (basic_at u i) (su.tableau.in_range i p)
          (same (basic_at u i) (su.tableau.in_range i p) ∙ su.tableau.marked i p) in
          (q.0, q.1, sym q.2, sym (same_room q.0 i q.1 p q.2));
    }

    abbrev start : Option test.Best
    start = range_of e.col (b.lower e.col) (b.upper e.col)

    first_is : (l h : Option ℚ) (x : test.Best) → range_of e.col l h ≡ Some x → (x.position ≡ None) × (x.column ≡ e.col)
    first_is None h x z = let y : None ≡ Some x = z in cc
    first_is (Some l) None x z = let y : None ≡ Some x = z in cc
    first_is (Some l) (Some h) x z =
        let y : ◌≡◌ {A = test.Best} (record { ratio = h -ℚ l; column = e.col; position = None }) x = cc in
        (sym (ap (λ (x : test.Best). x.position) y), sym (ap (λ (x : test.Best). x.column) y))

    first : (x : test.Best) → start ≡ Some x →
        (x.position ≡ None) × ((i : ℕ) → i < m → (basic_at t i ≢ x.column) × (basic_at u i ≢ x.column))
    first x z =
        let y =
        first_is (b.lower e.col) (b.upper e.col) x z in
        (y.0, λ i l. (λ w. outside_t i l (w ∙ y.1), λ w. outside_u i l (w ∙ y.1)))

    module _ (limit limit2 : Option ℕ) where
      scan_t : (best : Option (Best ℚ)) → best_run limit t e ≡ Ok best →
          scan m (rooms t) (basic_at t) start ≡ option_map plain best
      scan_t = scan_is m n f cost b t st e (an_entering b t st.bounds e there) limit

      scan_u : (best : Option (Best ℚ)) → best_run limit2 u e ≡ Ok best →
          scan m (rooms u) (basic_at u) start ≡ option_map plain best
      scan_u = scan_is m n f cost b u su e (an_entering b u su.bounds e (sym same_entering ∙ there)) limit2

      -- where both find a best
      with_bests : (x y : Best ℚ) → best_run limit t e ≡ Ok (Some x) → best_run limit2 u e ≡ Ok (Some y) →
          SameChoice t u (choice_at e x x.place) (choice_at e y y.place)
      with_bests x y h k = by x.place refl
        where
          found : SameBest m (basic_at t) (basic_at u) (plain x) (plain y)
          found =
              same_best m (rooms t) (basic_at t) (rooms u) (basic_at u) start forth back first
              (plain x) (plain y) (scan_t (Some x) h) (scan_u (Some y) k)

          ratio : x.ratio ≡ y.ratio
          ratio = found.ratio

          ahead_t : (p : ℕ) → x.place ≡ Some p →
              x.to ≡ bound_ahead (way_of (ray m (table_of t) e.direction e.col (basic_at t p)))
          ahead_t p z =
              subst (λ m. x.to ≡ bound_ahead (way_of (ray m (table_of t) e.direction e.col (basic_at t p)))) st.rows
              (best_ahead limit t st.whole f cost b (own_table m n f cost b t st) st.bounds e
              (an_entering b t st.bounds e there) x h p z)

          ahead_u : (p : ℕ) → y.place ≡ Some p →
              y.to ≡ bound_ahead (way_of (ray m (table_of u) e.direction e.col (basic_at u p)))
          ahead_u p z =
              subst (λ m. y.to ≡ bound_ahead (way_of (ray m (table_of u) e.direction e.col (basic_at u p)))) su.rows
              (best_ahead limit2 u su.whole f cost b (own_table m n f cost b u su) su.bounds e
              (an_entering b u su.bounds e (sym same_entering ∙ there)) y k p z)

          inside_t : (p : ℕ) → x.place ≡ Some p → p < m
          inside_t p z =
              ⊎_elim
              (λ w. let v : None ≡ Some p = sym ((first (plain x) w).0) ∙ z in cc)
              (λ w. let v : Some w.0 ≡ Some p = sym w.1.position ∙ z in
              let e : w.0 ≡ p = cc in subst (λ p. p < m) e w.1.in_range)
              (Rattle.spec_pivot.proofs.Ratio.found (rooms t) (basic_at t) start m (plain x) (scan_t (Some x) h))

          by : (o : Option ℕ) → x.place ≡ o → SameChoice t u (choice_at e x o) (choice_at e y y.place)
          by None z = ap (choice_at e y) (found.none z)
          by (Some p) z =
              let q = found.some p z in
              let to : x.to ≡ y.to =
              ahead_t p z ∙ ap (λ a. bound_ahead (way_of a)) (same_ray p q.0 (inside_t p z) q.1 q.2)
              ∙ sym (ahead_u q.0 q.3) in (
                q.0,
                subst (λ m. q.0 < m) (sym su.rows) q.1,
                q.2,
                ap (choice_at e y) q.3 ∙ ap₂ (λ r to. Pivot q.0 e.col (directed e.direction r) to) (sym ratio) (sym to),
              )

      same_chosen : (c d : Option (Best ℚ)) → best_run limit t e ≡ Ok c → best_run limit2 u e ≡ Ok d →
          SameChoice t u (choice_by e c) (choice_by e d)
      same_chosen None None h k = refl
      same_chosen (Some x) None h k =
          let z : None ≡ Some (plain x) =
          sym (none_same m (rooms t) (basic_at t) (rooms u) (basic_at u) start forth (scan_u None k))
          ∙ scan_t (Some x) h in cc
      same_chosen None (Some y) h k =
          let z : None ≡ Some (plain y) =
          sym (none_same m (rooms u) (basic_at u) (rooms t) (basic_at t) start back (scan_t None h))
          ∙ scan_u (Some y) k in cc
      same_chosen (Some x) (Some y) h k = with_bests x y h k

  pub same_choice : (limit limit2 : Option ℕ) (c d : Choice ℚ) → choice_run limit t ≡ Ok c →
      choice_run limit2 u ≡ Ok d → SameChoice t u c d
  unfolding choice_run
  same_choice limit limit2 c d h k = by (entering t) refl h (ap (choice_of limit2 u) same_entering ∙ k)
    where
      by : (o : Option Entering) → entering t ≡ o → choice_of limit t o ≡ Ok c →
          choice_of limit2 u (entering t) ≡ Ok d → SameChoice t u c d
      by None z h k =
          let k' : choice_of limit2 u None ≡ Ok d = ap (choice_of limit2 u) (sym z) ∙ k in
          let y : End Optimal ≡ c = cc in let x : End Optimal ≡ d = cc in subst₂ (SameChoice t u) y x refl
      by (Some e) z h k =
          let k' : choice_of limit2 u (Some e) ≡ Ok d = ap (choice_of limit2 u) (sym z) ∙ k in
          let a = then_ok (best_run limit t e) (λ best. Ok (choice_by e best)) c h in
          let g = then_ok (best_run limit2 u e) (λ best. Ok (choice_by e best)) d k' in
          let y : choice_by e a.0 ≡ c = cc in
          let x : choice_by e g.0 ≡ d = cc in
          subst₂ (SameChoice t u) y x (same_chosen e z limit limit2 a.0 g.0 a.1 g.1)
