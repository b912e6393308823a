-- Where a step over factors ends the run, its certificate and its basis are the tableau's.
use Rattle.std.proofs.Common.{◌≡◌, ◌≢◌, ⊎_elim, ℕ, zero, suc, ◌+◌, ◌<◌, ◌≤◌, List, length, get_or}
use Rattle.std.proofs.Common.{Option, None, Ok, cond, nat_eq, refl, sym, ap, ap₂, ◌∙◌, subst, arith}
use Rattle.spec_exact.specs.Fraction.{ℚ, ◌-ℚ◌, ◌*ℚ◌, neg_ℚ, 0ℚ}
use Rattle.spec_exact.proofs.Field.{*ℚ_comm}
use Rattle.spec_exact.proofs.Ruleset.{ring}
use Rattle.spec_exact.proofs.Sums.{sum_below_same}
use Rattle.spec_check.specs.declared.certificate.Certificate.TheVariants as certificate
use Rattle.spec_pivot.specs.declared.status.Status.TheVariants.{Basic}
use Rattle.spec_pivot.specs.declared.status.Way.{Way}
use Rattle.spec_pivot.specs.Tableau.{Matrix, delta}
use Rattle.spec_pivot.specs.Simplex.{Bounds, Enters, ray, sign, SameStatuses}
use Rattle.spec_pivot.proofs.SameEquations.{j_outside}
use Rattle.spec_pivot.proofs.Pivot.{by_eq, sum_below-delta}
use Rattle.spec_pivot.proofs.Ray.{ray_at, ray_basic, ray_still, delta_sym}
use Rattle.spec_simplex.specs.declared.ends.RowStart.{RowStart}
use Rattle.spec_simplex.specs.declared.ends.PrimalEnd.{PrimalEnd}
use Rattle.spec_simplex.specs.declared.ends.PrimalEnd.TheVariants.{Optimal, Unbounded}
use Rattle.spec_simplex.specs.declared.ends.Choice.TheVariants.{End}
use Rattle.spec_simplex.specs.Form.{Form}
use Rattle.spec_exact.specs.Run.{made}
use Rattle.spec_exact.proofs.RunsInOrder.{made_same}
use Rattle.spec_simplex.specs.Start.{cost_at}
use Rattle.spec_simplex.specs.Step.{directed, choice_run}
use Rattle.spec_simplex.specs.Tableau.{Tableau, basic_at, entry_at, reduced_at, status_at}
use Rattle.spec_runs.specs.Cold.{point, multipliers, moves_below, moves_by, direction, certificate_at, basis_at}
use Rattle.spec_simplex.specs.Tables.{table_of, IsTableauOf, IsWithinBounds}
use Rattle.spec_simplex.specs.Begins.{form_rows, signs_of}
use Rattle.spec_simplex.proofs.Moved.{at_position}
use Rattle.spec_runs.proofs.Directions.{moves_are}
use Rattle.spec_simplex.proofs.Equations.{row_logical}
use Rattle.spec_simplex.proofs.LeastIndexSteps.{choice_is_meant}
use Rattle.spec_factor.specs.Factors.{Pair}
use Rattle.spec_factor.specs.Revised.{Selection}
use Rattle.spec_factor.specs.Over.{negatives, over_certificate}
use Rattle.spec_factor.proofs.RunLists.{Reads}
use Rattle.spec_factor.specs.Same.{Places, bare_with}
use Rattle.spec_factor.proofs.SameChoices.{both}
use Rattle.spec_factor.proofs.FactoredTableau.{multiplier, price, price_is}
use Rattle.spec_factor.proofs.Selection.{SameColumn, W, W_is, Sees, SeesFor, SelectionRuns}

-- ---- two tableaus of one basis have the same ray
module _ (m n : ℕ) (f : Matrix) (cost : ℕ → ℚ) (b : Bounds) (t u : Tableau) (st : IsTableauOf m n f cost b t)
    (su : IsTableauOf m n f cost b u) (same : SameStatuses (n + m + m) (table_of t) (table_of u))
    (way : Way) (j : ℕ) (et : Enters (n + m + m) b (table_of t) way j)
    (eu : Enters (n + m + m) b (table_of u) way j) where
  outside_t : (i : ℕ) → i < m → basic_at t i ≢ j
  outside_t = j_outside m (n + m + m) f cost b (table_of t) st.tableau way j et

  outside_u : (i : ℕ) → i < m → basic_at u i ≢ j
  outside_u = j_outside m (n + m + m) f cost b (table_of u) su.tableau way j eu

  pub rays_same : (k : ℕ) → ray m (table_of t) way j k ≡ ray m (table_of u) way j k
  rays_same k =
      ⊎_elim
      (λ r. let h : k < n + m + m = subst (λ k. k < n + m + m) r.2 (st.tableau.in_range r.0 r.1) in
      let q =
      su.tableau.placed k h (sym (same k h) ∙ subst (λ k. status_at t k ≡ Basic) r.2 (st.tableau.marked r.0 r.1)) in
      ap (ray m (table_of t) way j) (sym r.2)
      ∙ ray_basic m (table_of t) st.tableau.units way j outside_t r.0 r.1
      ∙ ap (λ a. neg_ℚ (sign way *ℚ a)) ((both m n f cost b t u st su same).rows r.0 q.0 r.1 q.1 (r.2 ∙ sym q.2) j)
      ∙ sym (ray_basic m (table_of u) su.tableau.units way j outside_u q.0 q.1)
      ∙ ap (ray m (table_of u) way j) q.2)
      (λ none. by_eq j k
      (λ e. ap (ray m (table_of t) way j) (sym e) ∙ ray_at m (table_of t) st.tableau.units way j outside_t
      ∙ sym (ray_at m (table_of u) su.tableau.units way j outside_u) ∙ ap (ray m (table_of u) way j) e)
      (λ e. ray_still m (table_of t) st.tableau.units way j outside_t k e none
      ∙ sym (ray_still m (table_of u) su.tableau.units way j outside_u k e
      (λ i l z. let h : k < n + m + m = subst (λ k. k < n + m + m) z (su.tableau.in_range i l) in
      let q =
      st.tableau.placed k h (same k h ∙ subst (λ k. status_at u k ≡ Basic) z (su.tableau.marked i l)) in
      none q.0 q.1 q.2))))
      (at_position m (n + m + m) f cost b (table_of t) st.tableau k)

-- where two tableaus have the same entries in column j, a column moves alike in both as column j moves
moves_same : (v u : Tableau) (j : ℕ) (way : Way) (k : ℕ) → SameColumn v u j → (n : ℕ) → n ≤ u.rows →
    moves_below v j way k n ≡ moves_below u j way k n
moves_same v u j way k s zero h = refl
moves_same v u j way k s (suc n) h =
    ap₂ (λ b a. cond (nat_eq (get_or b n 0) k) (neg_ℚ (directed way a)) (moves_below v j way k n)) s.basic
    (s.entries n (omega (arith, h)))
    ∙ ap (λ a. cond (nat_eq (basic_at u n) k) (neg_ℚ (directed way (entry_at u n j))) a)
    (moves_same v u j way k s n (omega (arith, h)))

module _ (f : Form) (starts : List (RowStart ℚ)) (costs : List ℚ) (b : Bounds)
    (t : Tableau) (st : IsTableauOf f.rows f.cols (form_rows f (signs_of starts)) (cost_at costs) b t)
    (inside : IsWithinBounds f.rows f.cols b t) (few : length costs ≤ f.cols + f.rows + f.rows)
    (free : (i : ℕ) → i < f.rows → cost_at costs (f.cols + i) ≡ 0ℚ)
    (basic : List ℕ) (pairs : List Pair) (g : Places f t basic pairs) where
  abbrev w : Tableau
  w = W f starts costs b t st few basic pairs g

  w_is : IsTableauOf f.rows f.cols (form_rows f (signs_of starts)) (cost_at costs) b w
  w_is = W_is f starts costs b t st few basic pairs g

  -- ---- multipliers: logicals cost nothing
  price_logical : (i : ℕ) → i < f.rows →
      price f starts costs t basic pairs (f.cols + i) ≡ neg_ℚ (multiplier f starts costs t basic pairs i)
  unfolding price
  price_logical i l =
      ap₂ (λ a c. a -ℚ c) (free i l)
      (sum_below_same f.rows _ (λ r. delta i r *ℚ y r)
      (λ r _. ap (λ a. y r *ℚ a) (row_logical f (signs_of starts) r i l ∙ delta_sym r i) ∙ *ℚ_comm (y r) (delta i r))
      ∙ sum_below-delta f.rows i y l)
      ∙ nought (y i)
    where
      y : ℕ → ℚ
      y = multiplier f starts costs t basic pairs

      nought : (a : ℚ) → 0ℚ -ℚ a ≡ neg_ℚ a
      nought a = simp ring

  pub negatives_are : (y : List ℚ) → Reads f.rows y (multiplier f starts costs t basic pairs) →
      negatives t.rows y ≡ multipliers t
  negatives_are y is =
      made_same t.rows (λ i. neg_ℚ (get_or y i 0ℚ)) (λ i. reduced_at t (t.cols + i))
      (λ i l. let l' : i < f.rows = subst (λ n. i < n) st.rows l in
      ap neg_ℚ (is.each i l') ∙ sym (price_logical i l')
      ∙ sym (price_is f starts costs t basic pairs b st few g (f.cols + i))
      ∙ sym ((both f.rows f.cols (form_rows f (signs_of starts)) (cost_at costs) b t w st w_is
      (λ k _. refl)).reduced (f.cols + i))
      ∙ ap (λ n. reduced_at t (n + i)) (sym st.cols))

  -- ---- the direction
  pub direction_is : (limit limit2 : Option ℕ) (v : Tableau) (j : ℕ) (way : Way) →
      Sees f starts costs b t st few basic pairs g limit j v → choice_run None t ≡ Ok (End (Unbounded j way)) →
      choice_run limit2 w ≡ Ok (End (Unbounded j way)) → direction v j way ≡ direction t j way
  direction_is limit limit2 v j way s ct cw =
      ap (λ n. made n (moves_by v j way)) cols_same
      ∙ made_same t.cols (moves_by v j way) (moves_by t j way) (λ k _. move k)
    where
      enters_t : Enters (f.cols + f.rows + f.rows) b (table_of t) way j
      enters_t =
          (choice_is_meant None f.rows f.cols (form_rows f (signs_of starts))
          (cost_at costs) b t (End (Unbounded j way)) st inside ct).enters

      enters_w : Enters (f.cols + f.rows + f.rows) b (table_of w) way j
      enters_w =
          (choice_is_meant limit2 f.rows f.cols (form_rows f (signs_of starts))
          (cost_at costs) b w (End (Unbounded j way)) w_is inside cw).enters

      cols_same : v.cols ≡ t.cols
      cols_same = ap (λ (v : Tableau). v.cols) s.sight

      move : (k : ℕ) → moves_by v j way k ≡ moves_by t j way k
      move k =
          ap (moves_below v j way k) s.same.rows
          ∙ moves_same v w j way k s.same w.rows (let z : t.rows ≤ t.rows = omega arith in z)
          ∙ ap (moves_below w j way k) st.rows
          ∙ moves_are f.rows (f.cols + f.rows + f.rows) (form_rows f (signs_of starts))
          (cost_at costs) b w j way w_is.tableau enters_w k
          ∙ sym (rays_same f.rows f.cols (form_rows f (signs_of starts))
          (cost_at costs) b t w st w_is (λ k _. refl) way j enters_t enters_w k)
          ∙ sym (moves_are f.rows (f.cols + f.rows + f.rows)
          (form_rows f (signs_of starts)) (cost_at costs) b t j way st.tableau enters_t k)
          ∙ ap (moves_below t j way k) (sym st.rows)

  -- ---- the certificate and the basis
  pub certificate_same : (selection : Selection) (end : PrimalEnd) →
      SelectionRuns f starts costs b t st few basic pairs g None selection → choice_run None t ≡ Ok (End end) →
      selection.choice ≡ End end → over_certificate (bare_with t basic) selection end ≡ certificate_at t end
  certificate_same selection Optimal l c e =
      ap (certificate.Optimal (point t)) (negatives_are selection.multipliers l.multipliers)
  certificate_same selection (Unbounded j way) l c e =
      ap (certificate.Unbounded (point t))
      (direction_is None None selection.tableau j way
      (subst (λ d. SeesFor f starts costs b t st few basic pairs g None d selection.tableau) e l.sees) c
      (l.choice ∙ ap Ok e))

-- the basis of an end is the same at a tableau and without its rows and reduced costs
pub basis_same : (t : Tableau) (basic : List ℕ) (end : PrimalEnd) → basis_at (bare_with t basic) end ≡ basis_at t end
basis_same t basic Optimal = refl
basis_same t basic (Unbounded j way) = refl
