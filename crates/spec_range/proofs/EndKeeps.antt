-- The basis of an optimal end of the cold solve keeps the model.
use Rattle.std.proofs.Common.{◌≡◌, ℕ, ◌+◌, ◌<◌, List, get_or, Option}
use Rattle.std.proofs.Common.{Some, None, Result, Ok, Err, Bool, true, false, ◌&&◌, cond}
use Rattle.std.proofs.Common.{refl, sym, ap, ap₂, ◌∙◌, subst, subst₂, arith}
use Rattle.std.proofs.lemmas.Bool.{le-leb, lt-leb}
use Rattle.spec_exact.specs.Fraction.{ℚ, ◌+ℚ◌, ◌-ℚ◌, ◌*ℚ◌, neg_ℚ, 0ℚ, 1ℚ, ◌<ℚ◌}
use Rattle.spec_exact.specs.Sums.{sum_below}
use Rattle.spec_exact.specs.Run.{made}
use Rattle.spec_exact.proofs.Field.{*ℚ_comm, *ℚ_assoc, *ℚ_zero, *ℚ_one, +ℚ_neg}
use Rattle.spec_exact.proofs.Ruleset.{ring, one-*ℚ, zero-+ℚ}
use Rattle.spec_exact.proofs.Strict.{<ℚ_irrefl, zero-lt-one}
use Rattle.spec_exact.proofs.Sums.{sum_below_same, sum_below-sub, *ℚ-sum_below}
use Rattle.spec_model.specs.Model.{Model, width, height}
use Rattle.spec_check.specs.Checks.{ChecksOptimal}
use Rattle.spec_pivot.specs.declared.status.Status.{Status}
use Rattle.spec_pivot.specs.declared.status.Status.TheVariants.{Basic, AtLower}
use Rattle.spec_pivot.specs.Tableau.{Matrix, delta}
use Rattle.spec_pivot.specs.Simplex.{Bounds, Stands, IsTableau}
use Rattle.spec_pivot.proofs.Pivot.{sum_below-delta}
use Rattle.spec_pivot.proofs.Unique.{same_reduced_costs}
use Rattle.spec_pivot.proofs.BasicPositions.{row_at}
use Rattle.spec_pivot.proofs.Values.{by_basic, combined, zero_at_basic, same_stand}
use Rattle.spec_pivot.proofs.Ray.{delta_sym}
use Rattle.spec_simplex.specs.declared.ends.StartStop.{StartStop}
use Rattle.spec_simplex.specs.declared.ends.StartStop.TheVariants as stop
use Rattle.spec_simplex.specs.Form.{Form, form_of, formed}
use Rattle.spec_simplex.specs.Start.{by_column, cost_at}
use Rattle.spec_simplex.specs.Tableau.{Tableau, form_columns, is_basic, basic_at, entry_at, value_at, reduced_at, status_at}
use Rattle.spec_simplex.specs.Eliminate.{basis_at, IsBasisOf, start_from}
use Rattle.spec_simplex.proofs.Statuses.{basic_if}
use Rattle.spec_exact.proofs.RunsInOrder.{get_or-made, made_same}
use Rattle.spec_simplex.specs.Begins.{form_rows}
use Rattle.spec_simplex.specs.Tables.{table_of}
use Rattle.spec_simplex.proofs.ColumnKinds.{by_kind, sum_by_kind, structural_at, logical_at, artificial_at}
use Rattle.spec_simplex.proofs.Equations.{row_structural, row_logical, row_artificial}
use Rattle.spec_simplex.proofs.FormOfModel.{Limited, HasBounds, cost_other, formed_proper}
use Rattle.spec_runs.specs.Cold as cold
use Rattle.spec_runs.specs.Based.{equations, IsDependent}
use Rattle.spec_runs.proofs.EndBases.{basis_fits}
use Rattle.spec_runs.proofs.LimitSteps.{from_agrees}
use Rattle.spec_runs.proofs.Singular.{start_singular}
use Rattle.spec_range.specs.Span.{Keeps}
use Rattle.spec_range.proofs.RangedTableau.{form_bounds, bounded, fixed_after, status_before, status_after}
use Rattle.spec_range.proofs.Checked.{parts, tableau}

module _ (m : Model) (ls : List (Option ℚ × Option ℚ)) (h : Limited m ls)
    (formed_ : form_of None m ≡ Ok (formed m ls)) (signs : ℕ → ℚ) (squares : (i : ℕ) → signs i *ℚ signs i ≡ 1ℚ)
    (b : Bounds) (bs : HasBounds (formed m ls) b) (t : Tableau) (rows : t.rows ≡ height m) (cols : t.cols ≡ width m)
    (g : IsTableau (height m) (width m + height m + height m) (form_rows (formed m ls) signs)
    (cost_at (formed m ls).cost) b (table_of t))
    (none : (i : ℕ) → i < height m → value_at t (width m + height m + i) ≡ 0ℚ) where
  -- the model's form
  abbrev f : Form
  f = formed m ls

  -- the count of the model's columns
  abbrev w : ℕ
  w = width m

  -- the count of the model's rows
  abbrev r : ℕ
  r = height m

  -- the count of the form's columns, with the logical and artificial ones
  abbrev n : ℕ
  n = w + r + r

  -- the equations of the form whose artificial columns have the signs of the start
  abbrev F : Matrix
  F = form_rows f signs

  -- the basis that the last tableau leaves
  abbrev left : List Status
  left = made (form_columns t) (cold.basis_status t)

  -- the basis that is left fits the model's form
  fits : IsBasisOf (formed m ls) left
  fits = basis_fits f signs squares (cost_at f.cost) b bs t rows cols g

  -- ---- the basis by columns
  -- the basis that is left gives column k the status that the last tableau leaves it
  left_is : (k : ℕ) → k < w + r → basis_at left k ≡ cold.basis_status t k
  left_is k l = get_or-made (form_columns t) (cold.basis_status t) k Basic (omega (arith, l, rows, cols))

  -- the basis that is left gives a column of the model its status in the last tableau
  structural_is : (k : ℕ) → k < w → basis_at left k ≡ status_at t k
  structural_is k l =
      left_is k (omega (arith, l))
      ∙ ap (λ c. cond (c && is_basic (status_at t (k + t.rows))) Basic (status_at t k))
      (lt-leb t.cols k (omega (arith, l, cols)))

  -- the basis that is left has row i's logical basic if the row's artificial is basic, else with its own status
  logical_is : (i : ℕ) → i < r →
      basis_at left (w + i) ≡ cond (is_basic (status_at t (w + r + i))) Basic (status_at t (w + i))
  logical_is i l =
      left_is (w + i) (omega (arith, l))
      ∙ ap (λ c. cond (c && is_basic (status_at t (w + i + t.rows))) Basic (status_at t (w + i)))
      (le-leb t.cols (w + i) (omega (arith, cols)))
      ∙ (let z : w + i + t.rows ≡ w + r + i = omega (arith, rows) in
      ap (λ k. cond (is_basic (status_at t k)) Basic (status_at t (w + i))) z)

  -- a column that is not basic there is not basic here, and stands alike
  not_left : (k : ℕ) → k < w + r → ¬ (basis_at left k ≡ Basic) →
      ¬ (status_at t k ≡ Basic) × (basis_at left k ≡ status_at t k)
  not_left k l free =
      by_kind w r k
      (λ q. (λ s. free (structural_is k q ∙ s), structural_is k q))
      (λ i q e. subst (λ k. ¬ (status_at t k ≡ Basic) × (basis_at left k ≡ status_at t k)) (sym e)
      (by i (is_basic (status_at t (w + r + i))) (logical_is i q) (subst (λ k. ¬ (basis_at left k ≡ Basic)) e free)))
      (λ i e. absurd (let z : ⊥ = omega (arith, l, e) in z))
    where
      by : (i : ℕ) (c : Bool) → basis_at left (w + i) ≡ cond c Basic (status_at t (w + i)) →
          ¬ (basis_at left (w + i) ≡ Basic) →
          ¬ (status_at t (w + i) ≡ Basic) × (basis_at left (w + i) ≡ status_at t (w + i))
      by i true e free = absurd (free e)
      by i false e free = (λ s. free (e ∙ s), e)

  -- ---- sums over the equations of both signs, which differ in the artificials alone
  -- below the artificial columns the equations of both signs are the same
  alike : (i k : ℕ) → k < w + r → F i k ≡ equations f i k
  alike i k l =
      by_kind w r k
      (λ q. row_structural f signs i k q ∙ sym (row_structural f (λ _. 1ℚ) i k q))
      (λ j q e. subst (λ k. F i k ≡ equations f i k) (sym e)
      (row_logical f signs i j q ∙ sym (row_logical f (λ _. 1ℚ) i j q)))
      (λ j e. absurd (let z : ⊥ = omega (arith, l, e) in z))

  -- equation i with signs for the artificials sums the columns of the model, the row's logical, and its artificial
  -- times its sign
  sum_is : (s : ℕ → ℚ) (i : ℕ) → i < r → (z : ℕ → ℚ) →
      sum_below n (λ k. form_rows f s i k *ℚ z k)
      ≡ (sum_below w (λ k. form_rows f s i k *ℚ z k) +ℚ z (w + i)) +ℚ s i *ℚ z (w + r + i)
  sum_is s i l z =
      sum_by_kind w r (λ k. form_rows f s i k *ℚ z k)
      ∙ ap₂ ◌+ℚ◌
      (ap (λ a. sum_below w (λ k. form_rows f s i k *ℚ z k) +ℚ a)
      (sum_below_same r _ (λ j. delta i j *ℚ z (w + j)) (λ j q. ap (λ a. a *ℚ z (w + j)) (row_logical f s i j q))
      ∙ sum_below-delta r i (λ j. z (w + j)) l))
      (sum_below_same r _ (λ j. s i *ℚ (delta i j *ℚ z (w + r + j)))
      (λ j q. ap (λ a. a *ℚ z (w + r + j)) (row_artificial f s i j) ∙ *ℚ_assoc (s i) (delta i j) (z (w + r + j)))
      ∙ sym (*ℚ-sum_below (s i) r (λ j. delta i j *ℚ z (w + r + j)))
      ∙ ap (λ a. s i *ℚ a) (sum_below-delta r i (λ j. z (w + r + j)) l))

  -- where two lists of numbers agree on the columns of the model, so do the sums of these in both equations
  structural_sum : (i : ℕ) (z y : ℕ → ℚ) → ((k : ℕ) → k < w → z k ≡ y k) →
      sum_below w (λ k. F i k *ℚ z k) ≡ sum_below w (λ k. equations f i k *ℚ y k)
  structural_sum i z y e = sum_below_same w _ _ (λ k q. ap₂ ◌*ℚ◌ (alike i k (omega (arith, q))) (e k q))

  -- ---- the basis is not singular
  -- row i's logical number where its artificial is not basic; else 0
  abbrev taken : (ℕ → ℚ) → Bool → ℕ → ℚ
  taken x true i = 0ℚ
  taken x false i = x (w + i)

  -- row i's logical number, with the sign of the row, where its artificial is basic; else 0
  abbrev left_over : (ℕ → ℚ) → Bool → ℕ → ℚ
  left_over x true i = signs i *ℚ x (w + i)
  left_over x false i = 0ℚ

  -- whether row i's artificial column is basic in the last tableau
  abbrev art : ℕ → Bool
  art i = is_basic (status_at t (w + r + i))

  module _ (j : ℕ) (x : ℕ → ℚ) (d : IsDependent (formed m ls) left j x) where
    -- the numbers x, with that of a logical whose artificial is basic moved to the artificial
    abbrev y : ℕ → ℚ
    y k = by_column f k (x k) (λ i. taken x (art i) i) (λ i. left_over x (art i) i)

    -- for a column of the model the moved number is x's own
    y_structural : (k : ℕ) → k < w → y k ≡ x k
    y_structural k q = structural_at f (x k) (λ i. taken x (art i) i) (λ i. left_over x (art i) i) k q

    -- row i's logical has its number in x, or 0 if the row's artificial is basic
    y_logical : (i : ℕ) → i < r → y (w + i) ≡ taken x (art i) i
    y_logical i q = logical_at f (x (w + i)) (λ i. taken x (art i) i) (λ i. left_over x (art i) i) i q

    -- row i's artificial, if it is basic, has the logical's number with the sign of the row; else 0
    y_artificial : (i : ℕ) → y (w + r + i) ≡ left_over x (art i) i
    y_artificial i = artificial_at f (x (w + r + i)) (λ i. taken x (art i) i) (λ i. left_over x (art i) i) i

    -- a dependence of the basis that is left has 0 for each artificial column
    x_art : (i : ℕ) → x (w + r + i) ≡ 0ℚ
    x_art i =
        d.others (w + r + i) (λ e. let z : ⊥ = omega (arith, e, d.inside) in z)
        (λ o. let z : ⊥ = omega (arith, o.0, d.inside) in z)

    -- the moved numbers solve the equations of the last tableau
    y_solves : (i : ℕ) → i < r → sum_below n (λ k. F i k *ℚ y k) ≡ 0ℚ
    y_solves i q =
        sum_is signs i q y
        ∙ ap₂ (λ a c. (a +ℚ c) +ℚ signs i *ℚ y (w + r + i)) (structural_sum i y x y_structural) (y_logical i q)
        ∙ ap (λ a. (sum_below w (λ k. equations f i k *ℚ x k) +ℚ taken x (art i) i) +ℚ signs i *ℚ a) (y_artificial i)
        ∙ both (art i) (sum_below w (λ k. equations f i k *ℚ x k))
        ∙ ap (λ a. (sum_below w (λ k. equations f i k *ℚ x k) +ℚ x (w + i)) +ℚ 1ℚ *ℚ a) (sym (x_art i))
        ∙ sym (sum_is (λ _. 1ℚ) i q x) ∙ d.solves i q
      where
        both : (c : Bool) (a : ℚ) → (a +ℚ taken x c i) +ℚ signs i *ℚ left_over x c i ≡ (a +ℚ x (w + i)) +ℚ 1ℚ *ℚ 0ℚ
        both true a = away a (signs i) (x (w + i)) ∙ ap (λ s. a +ℚ s *ℚ x (w + i)) (squares i) ∙ close a (x (w + i))
          where
            away : (a s v : ℚ) → (a +ℚ 0ℚ) +ℚ s *ℚ (s *ℚ v) ≡ a +ℚ (s *ℚ s) *ℚ v
            away a s v = simp ring

            close : (a v : ℚ) → a +ℚ 1ℚ *ℚ v ≡ (a +ℚ v) +ℚ 1ℚ *ℚ 0ℚ
            close a v = simp ring
        both false a = same a (x (w + i)) (signs i)
          where
            same : (a v s : ℚ) → (a +ℚ v) +ℚ s *ℚ 0ℚ ≡ (a +ℚ v) +ℚ 1ℚ *ℚ 0ℚ
            same a v s = simp ring

    -- they are 0 off the tableau's basic columns
    x_off : (k : ℕ) → k < w + r → ¬ (basis_at left k ≡ Basic) → x k ≡ 0ℚ
    x_off k l free = d.others k (λ e. free (ap (basis_at left) e ∙ d.basic)) (λ o. free o.1)

    -- the moved numbers are 0 off the basic columns of the last tableau
    y_off : (k : ℕ) → k < n → ¬ (status_at t k ≡ Basic) → y k ≡ 0ℚ
    y_off k l free =
        by_kind w r k
        (λ q. y_structural k q ∙ x_off k (omega (arith, q)) (λ e. free (sym (structural_is k q) ∙ e)))
        (λ i q e. ap y e ∙ y_logical i q
        ∙ logical i (art i) refl q (subst (λ k. ¬ (status_at t k ≡ Basic)) e free))
        (λ i e. ap y e ∙ y_artificial i
        ∙ artificial i (art i) refl (subst (λ k. ¬ (status_at t k ≡ Basic)) e free))
      where
        logical : (i : ℕ) (c : Bool) → art i ≡ c → i < r → ¬ (status_at t (w + i) ≡ Basic) → taken x c i ≡ 0ℚ
        logical i true e q free = refl
        logical i false e q free =
            x_off (w + i) (omega (arith, q)) (λ z. free (sym (logical_is i q
            ∙ ap (λ c. cond c Basic (status_at t (w + i))) e) ∙ z))

        artificial : (i : ℕ) (c : Bool) → art i ≡ c → ¬ (status_at t (w + r + i) ≡ Basic) → left_over x c i ≡ 0ℚ
        artificial i true e free = absurd (free (basic_if (status_at t (w + r + i)) e))
        artificial i false e free = refl

    -- the moved numbers are all 0
    y_zero : (k : ℕ) → k < n → y k ≡ 0ℚ
    y_zero k l =
        by_basic (status_at t k)
        (λ s. let p = g.placed k l s in
        ap y (sym p.2)
        ∙ sym (row_at r n (entry_at t) (basic_at t) g.units g.in_range y
        (λ k q off. y_off k q (λ e. let w = g.placed k q e in off w.0 w.1 w.2)) p.0 p.1)
        ∙ combined r n (entry_at t) F g.forth y y_solves p.0 p.1)
        (λ s. y_off k l s)

    -- the columns of the basis that is left do not depend on each other
    dependent : ⊥
    dependent =
        by_kind w r j
        (λ q. one (sym (y_structural j q ∙ d.own) ∙ y_zero j (omega (arith, q))))
        (λ i q e. logical i (art i) refl q
        (sym (y_logical i q) ∙ y_zero (w + i) (omega (arith, q)))
        (sym (y_artificial i) ∙ y_zero (w + r + i) (omega (arith, q))) (ap x (sym e) ∙ d.own))
        (λ i e. let z : ⊥ = omega (arith, e, d.inside) in z)
      where
        one : 1ℚ ≡ 0ℚ → ⊥
        one e = <ℚ_irrefl 0ℚ (subst (λ a. 0ℚ <ℚ a) e zero-lt-one)

        logical : (i : ℕ) (c : Bool) → art i ≡ c → i < r → taken x c i ≡ 0ℚ → left_over x c i ≡ 0ℚ →
            x (w + i) ≡ 1ℚ → ⊥
        logical i true e q a c z =
            let s : signs i ≡ 0ℚ = sym (*ℚ_one (signs i)) ∙ ap (λ v. signs i *ℚ v) (sym z) ∙ c in
            one (sym (squares i) ∙ ap (λ v. signs i *ℚ v) s ∙ *ℚ_zero (signs i))
        logical i false e q a c z = one (sym z ∙ a)

  -- ---- its tableau
  -- the basis that is left has a tableau in the model's form
  exists : (u : Tableau) × (start_from None (formed m ls) left ≡ Ok u)
  exists = by (start_from None f left) refl
    where
      by : (o : Result Tableau (StartStop ℚ)) → start_from None f left ≡ o →
          (u : Tableau) × (start_from None (formed m ls) left ≡ Ok u)
      by (Ok u) e = (u, e)
      by (Err (stop.Past p)) e = absurd ((from_agrees None f left).exact p e)
      by (Err stop.Singular) e = let o = start_singular None f left e in absurd (dependent o.0 o.1 o.2)

  module _ (u : Tableau) (ok : start_from None (formed m ls) left ≡ Ok u) where
    -- the tableau of the basis that is left is one of the form's equations, costs and bounds
    g' : IsTableau r n (equations f) (cost_at f.cost) (form_bounds f) (table_of u)
    g' = tableau None m ls h left fits u ok

    -- the tableau of the basis that is left gives column k its status in this basis
    status_is : (k : ℕ) → k < w + r → status_at u k ≡ basis_at left k
    status_is k l =
        ap (λ s. get_or s k Basic) (parts None m ls h left fits u ok).status ∙ status_before f left fits k l

    -- in the tableau of the basis that is left each artificial is at its lower bound
    status_art : (i : ℕ) → i < r → status_at u (w + r + i) ≡ AtLower
    status_art i l =
        ap (λ s. get_or s (w + r + i) Basic) (parts None m ls h left fits u ok).status ∙ status_after f left fits i l

    -- in the tableau of the basis that is left each artificial has the value 0
    value_art : (i : ℕ) → i < r → value_at u (w + r + i) ≡ 0ℚ
    value_art i l =
        let z : (form_bounds f).lower (w + r + i) ≡ Some (value_at u (w + r + i)) =
        subst (λ s. Stands s ((form_bounds f).lower (w + r + i)) ((form_bounds f).upper (w + r + i))
        (value_at u (w + r + i))) (status_art i l) (g'.stands (w + r + i) (omega (arith, l))) in
        let e : Some (value_at u (w + r + i)) ≡ Some 0ℚ =
        sym z ∙ (fixed_after f (formed_proper m ls h) i l).0 in cc

    -- by how much the value of column k differs between the tableau of the basis and the last one
    abbrev gap : ℕ → ℚ
    gap k = value_at u k -ℚ value_at t k

    -- a column that is nonbasic in the basis has the same value in both tableaus
    same_value : (k : ℕ) → k < w + r → ¬ (status_at u k ≡ Basic) → value_at u k ≡ value_at t k
    same_value k l free =
        let o = not_left k l (λ e. free (status_is k l ∙ e)) in
        let p = bounded f (formed_proper m ls h) in
        let s : status_at u k ≡ status_at t k = status_is k l ∙ o.1 in
        same_stand (status_at t k) (b.lower k) (b.upper k) (value_at u k) (value_at t k) o.0
        (subst₂ (λ a c. Stands (status_at t k) a c (value_at u k))
        (p.lower k l ∙ sym (bs.lower k l)) (p.upper k l ∙ sym (bs.upper k l))
        (subst (λ s. Stands s ((form_bounds f).lower k) ((form_bounds f).upper k) (value_at u k)) s
        (g'.stands k (omega (arith, l)))))
        (g.stands k (omega (arith, l)))

    -- off the basic columns the values of both tableaus do not differ
    gap_off : (k : ℕ) → k < n → ¬ (status_at u k ≡ Basic) → gap k ≡ 0ℚ
    gap_off k l free =
        by_kind w r k
        (λ q. ap (λ a. a -ℚ value_at t k) (same_value k (omega (arith, q)) free) ∙ +ℚ_neg (value_at t k))
        (λ i q e. ap (λ a. a -ℚ value_at t k) (same_value k (omega (arith, q, e)) free) ∙ +ℚ_neg (value_at t k))
        (λ i e. let q : i < r = omega (arith, l, e) in
        ap gap e ∙ ap₂ (λ a c. a -ℚ c) (value_art i q) (none i q) ∙ +ℚ_neg 0ℚ)

    -- the values of the last tableau solve the form's equations
    t_solves : (i : ℕ) → i < r → sum_below n (λ k. equations f i k *ℚ value_at t k) ≡ 0ℚ
    t_solves i l =
        sum_is (λ _. 1ℚ) i l (value_at t)
        ∙ ap₂ (λ a c. (a +ℚ value_at t (w + i)) +ℚ 1ℚ *ℚ c)
        (sym (structural_sum i (value_at t) (value_at t) (λ k q. refl))) (none i l)
        ∙ still (sum_below w (λ k. F i k *ℚ value_at t k) +ℚ value_at t (w + i)) (signs i)
        ∙ ap (λ c. (sum_below w (λ k. F i k *ℚ value_at t k) +ℚ value_at t (w + i)) +ℚ signs i *ℚ c) (sym (none i l))
        ∙ sym (sum_is signs i l (value_at t)) ∙ g.solves i l
      where
        still : (a s : ℚ) → a +ℚ 1ℚ *ℚ 0ℚ ≡ a +ℚ s *ℚ 0ℚ
        still a s = simp ring

    -- the differences of the values solve the form's equations
    gap_solves : (i : ℕ) → i < r → sum_below n (λ k. equations f i k *ℚ gap k) ≡ 0ℚ
    gap_solves i l =
        sum_below_same n _ (λ k. equations f i k *ℚ value_at u k -ℚ equations f i k *ℚ value_at t k)
        (λ k _. open_ (equations f i k) (value_at u k) (value_at t k))
        ∙ sum_below-sub n _ _ ∙ ap₂ (λ a c. a -ℚ c) (g'.solves i l) (t_solves i l) ∙ +ℚ_neg 0ℚ
      where
        open_ : (a v z : ℚ) → a *ℚ (v -ℚ z) ≡ a *ℚ v -ℚ a *ℚ z
        open_ a v z = simp ring

    -- both tableaus have the same values
    value_is : (k : ℕ) → k < n → value_at u k ≡ value_at t k
    value_is k l =
        from_gap (value_at u k) (value_at t k)
        (by_basic (status_at u k)
        (λ s. let p = g'.placed k l s in
        ap gap (sym p.2)
        ∙ sym (row_at r n (entry_at u) (basic_at u) g'.units g'.in_range gap
        (λ k q off. gap_off k q (λ e. let w = g'.placed k q e in off w.0 w.1 w.2)) p.0 p.1)
        ∙ combined r n (entry_at u) (equations f) g'.forth gap gap_solves p.0 p.1)
        (λ s. gap_off k l s))
      where
        from_gap : (a c : ℚ) → a -ℚ c ≡ 0ℚ → a ≡ c
        from_gap a c e = sym (again a c) ∙ ap (λ z. z +ℚ c) e ∙ zero-+ℚ c
          where
            again : (a c : ℚ) → a -ℚ c +ℚ c ≡ a
            again a c = simp ring

    -- the cost of column k less the equations' entries times the weights of the last tableau
    abbrev lessened : ℕ → ℚ
    lessened k = cost_at f.cost k -ℚ sum_below r (λ i. g.costs.weights i *ℚ equations f i k)

    -- below the artificial columns these are the reduced costs of the last tableau
    lessened_is : (k : ℕ) → k < w + r → lessened k ≡ reduced_at t k
    lessened_is k l =
        ap (λ s. cost_at f.cost k -ℚ s)
        (sum_below_same r _ _ (λ i _. ap (λ a. g.costs.weights i *ℚ a) (sym (alike i k l))))
        ∙ sym (g.costs.less k)

    -- the weight of a row whose artificial is basic is 0
    art_zero : (i : ℕ) → i < r → status_at t (w + r + i) ≡ Basic → g.costs.weights i ≡ 0ℚ
    art_zero i l s =
        let e : 0ℚ ≡ 0ℚ -ℚ signs i *ℚ g.costs.weights i =
        sym (zero_at_basic r n F (cost_at f.cost) b (table_of t) g (w + r + i) (omega (arith, l)) s)
        ∙ g.costs.less (w + r + i)
        ∙ ap₂ (λ a c. a -ℚ c)
        (let z : w + r + i ≡ w + (r + i) = omega arith in ap (cost_at f.cost) z ∙ cost_other m ls h (r + i))
        (sum_below_same r _ (λ k. delta i k *ℚ (signs k *ℚ g.costs.weights k))
        (λ k _. ap (λ a. g.costs.weights k *ℚ a) (row_artificial f signs k i
        ∙ ap (λ d. signs k *ℚ d) (delta_sym k i))
        ∙ turn (g.costs.weights k) (signs k) (delta i k))
        ∙ sum_below-delta r i (λ k. signs k *ℚ g.costs.weights k) l) in
        sym (one-*ℚ (g.costs.weights i)) ∙ ap (λ a. a *ℚ g.costs.weights i) (sym (squares i))
        ∙ out (signs i) (g.costs.weights i) ∙ ap (λ a. neg_ℚ (signs i) *ℚ a) (sym e) ∙ *ℚ_zero (neg_ℚ (signs i))
      where
        turn : (a s d : ℚ) → a *ℚ (s *ℚ d) ≡ d *ℚ (s *ℚ a)
        turn a s d = simp ring

        out : (s a : ℚ) → (s *ℚ s) *ℚ a ≡ neg_ℚ s *ℚ (0ℚ -ℚ s *ℚ a)
        out s a = simp ring

    -- a column that is basic in the basis has the reduced cost 0 in the last tableau
    zero_left : (k : ℕ) → k < w + r → basis_at left k ≡ Basic → reduced_at t k ≡ 0ℚ
    zero_left k l s =
        by_kind w r k
        (λ q. zero_at_basic r n F (cost_at f.cost) b (table_of t) g k (omega (arith, q)) (sym (structural_is k q) ∙ s))
        (λ i q e. subst (λ k. reduced_at t k ≡ 0ℚ) (sym e)
        (by i (is_basic (status_at t (w + r + i))) refl q
        (sym (logical_is i q) ∙ ap (basis_at left) (sym e) ∙ s)))
        (λ i e. absurd (let z : ⊥ = omega (arith, l, e) in z))
      where
        by : (i : ℕ) (c : Bool) → is_basic (status_at t (w + r + i)) ≡ c → i < r →
            cond (is_basic (status_at t (w + r + i))) Basic (status_at t (w + i)) ≡ Basic → reduced_at t (w + i) ≡ 0ℚ
        by i true c q z =
            g.costs.less (w + i)
            ∙ ap₂ (λ a c. a -ℚ c) (cost_other m ls h i)
            (sum_below_same r _ (λ k. delta i k *ℚ g.costs.weights k)
            (λ k _. ap (λ a. g.costs.weights k *ℚ a) (row_logical f signs k i q
            ∙ delta_sym k i) ∙ *ℚ_comm (g.costs.weights k) (delta i k))
            ∙ sum_below-delta r i g.costs.weights q
            ∙ art_zero i q (basic_if (status_at t (w + r + i)) c))
            ∙ +ℚ_neg 0ℚ
        by i false c q z =
            zero_at_basic r n F (cost_at f.cost) b (table_of t) g (w + i) (omega (arith, q))
            (sym (ap (λ c. cond c Basic (status_at t (w + i))) c) ∙ z)

    -- each basic column of the tableau of the basis is below the artificial ones, and basic in the basis
    basic_before : (i : ℕ) → i < r → (basic_at u i < w + r) × (basis_at left (basic_at u i) ≡ Basic)
    basic_before i l =
        let s : status_at u (basic_at u i) ≡ Basic = g'.marked i l in
        let inside : basic_at u i < n = g'.in_range i l in
        by_kind w r (basic_at u i)
        (λ q. let k : basic_at u i < w + r = omega (arith, q) in (k, sym (status_is (basic_at u i) k) ∙ s))
        (λ j q e. let k : basic_at u i < w + r = omega (arith, q, e) in (k, sym (status_is (basic_at u i) k) ∙ s))
        (λ j e. let z : AtLower ≡ Basic = sym (status_art j (omega (arith, inside, e))) ∙ ap (status_at u) (sym e) ∙ s in cc)

    -- below the artificial columns both tableaus have the same reduced costs
    reduced_is : (k : ℕ) → k < w + r → reduced_at u k ≡ reduced_at t k
    reduced_is k l =
        same_reduced_costs r (equations f) (entry_at u) (basic_at u) g'.units g'.back (cost_at f.cost) (reduced_at u)
        lessened g'.costs.weights g.costs.weights g'.costs.less (λ k. refl) g'.costs.at_basic
        (λ i q. let o = basic_before i q in lessened_is (basic_at u i) o.0 ∙ zero_left (basic_at u i) o.0 o.1) k
        ∙ lessened_is k l

    -- both tableaus have the same point
    point_is : cold.point u ≡ cold.point t
    point_is =
        let p : u.cols ≡ t.cols = (parts None m ls h left fits u ok).cols ∙ sym cols in
        ap (λ n. made n (value_at u)) p
        ∙ made_same t.cols (value_at u) (value_at t) (λ k q. value_is k (omega (arith, q, cols)))

    -- both tableaus have the same multipliers
    multipliers_are : cold.multipliers u ≡ cold.multipliers t
    multipliers_are =
        let p = parts None m ls h left fits u ok in
        ap₂ (λ c n. made n (λ i. reduced_at u (c + i))) (p.cols ∙ sym cols) (p.rows ∙ sym rows)
        ∙ made_same t.rows (λ i. reduced_at u (t.cols + i)) (λ i. reduced_at t (t.cols + i))
        (λ i q. reduced_is (t.cols + i) (omega (arith, q, cols, rows)))

  -- where the point and multipliers of the last tableau show the optimum, the basis that it leaves keeps the model
  pub end_keeps : ChecksOptimal m (cold.point t) (cold.multipliers t) →
      Keeps m (made (form_columns t) (cold.basis_status t))
  end_keeps checks =
      let u = exists in
      record {
        form = formed m ls;
        formed = formed_;
        fits = fits;
        tableau = u.0;
        started = u.1;
        checks =
            subst₂ (ChecksOptimal m) (sym (point_is u.0 u.1)) (sym (multipliers_are u.0 u.1)) checks;
      }
