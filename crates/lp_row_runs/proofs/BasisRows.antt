-- The rows that are solved for all columns of a basis show the stated tableau.
use Rattle.std.proofs.Common.{◌≡◌, ◌≢◌, ℕ, zero, suc, ◌+◌, ◌-◌, ◌<◌, ◌≤◌, List, ◌++◌, length, get_or, replicate, map}
use Rattle.std.proofs.Common.{Option, Some, None, Ok, false, sym, ap, ap₂, subst, ◌∙◌, arith}
use Rattle.std.proofs.lemmas.List.{get_or-append-add, get_or-replicate}
use Rattle.std.proofs.Math.ListN.{get_or-map}
use Rattle.spec_exact.specs.Fraction.{ℚ, 0ℚ, ◌+ℚ◌, ◌-ℚ◌, ◌*ℚ◌, neg_ℚ}
use Rattle.spec_exact.specs.Sums.{sum_below}
use Rattle.spec_exact.specs.Run.{Run, ◌>>=◌, refused_as}
use Rattle.spec_exact.proofs.Field.{*ℚ_zero, +ℚ_zero}
use Rattle.spec_exact.proofs.Ruleset.{ring}
use Rattle.spec_exact.proofs.RunsInOrder.{length-made, get_or-made}
use Rattle.spec_exact.proofs.Sums.{sum_below_same, sum_below-sub}
use Rattle.spec_pivot.specs.declared.status.Status.{Status}
use Rattle.spec_pivot.specs.declared.status.Status.TheVariants.{Basic, AtLower}
use Rattle.spec_pivot.specs.Tableau.{IsUnit}
use Rattle.spec_pivot.proofs.BasicPositions.{row_at as at_row}
use Rattle.spec_pivot.proofs.Values.{by_basic}
use Rattle.spec_simplex.specs.declared.ends.StartStop.TheVariants as start
use Rattle.spec_simplex.specs.Form.{Form, form_lower, form_upper}
use Rattle.spec_simplex.specs.Start.{cost_at, priced_run, with_reduced}
use Rattle.spec_simplex.specs.Tableau.{Tableau, all_columns, basic_at, entry_at, value_at, reduced_at}
use Rattle.spec_simplex.specs.Tableau.{status_at, lower_at, upper_at, is_fixed, stand}
use Rattle.spec_simplex.specs.Eliminate.{IsBasisOf, basis_value, basis_lower, with_basis, valued_run}
use Rattle.spec_simplex.specs.Eliminate.{with_values, filled_run, eliminate_run, start_from}
use Rattle.spec_simplex.specs.Begins.{IsProper}
use Rattle.spec_simplex.proofs.RunParts.{then_ok, refused_ok}
use Rattle.spec_runs.proofs.PhaseSteps.{given}
use Rattle.spec_runs.specs.Based.{BeginsFrom}
use Rattle.spec_runs.proofs.LimitSteps.{from_agrees}
use Rattle.spec_runs.proofs.BasisTableau.{start_begins_from}
use Rattle.spec_runs.proofs.Valued.{valued_other, valued_solves}
use Rattle.lp_natural.specs.declared.words.signed.Signed.{Signed}
use Rattle.lp_rows.specs.declared.fractions.Row.{Row}
use Rattle.lp_rows.specs.Ratio.{bound_of}
use Rattle.lp_rows.specs.declared.tableau.tableau.RowTableau.{RowTableau}
use Rattle.lp_rows.specs.Shows.{Shows}
use Rattle.lp_rows.specs.Second.{IsPricedRow}
use Rattle.lp_rows.proofs.TableauNumbers.{row_at-one}
use Rattle.lp_rows.proofs.Taken.{stated_costs}
use Rattle.lp_row_runs.specs.declared.elimination.Elimination.{Elimination}
use Rattle.lp_row_runs.specs.Rows.{IsSolvedBelow, HasSize, ShowsBasis, ShowsStart}

-- terms that are 0 from the nth on add nothing to a sum
sum_past : (n m : ℕ) (g : ℕ → ℚ) → ((k : ℕ) → n ≤ k → k < n + m → g k ≡ 0ℚ) → sum_below (n + m) g ≡ sum_below n g
sum_past n zero g none = let e : n + 0 ≡ n = omega arith in ap (λ k. sum_below k g) e
sum_past n (suc m) g none =
    (let e : n + suc m ≡ suc (n + m) = omega arith in ap (λ k. sum_below k g) e)
    ∙ ap (λ z. sum_below (n + m) g +ℚ z) (none (n + m) (omega arith) (omega arith))
    ∙ +ℚ_zero (sum_below (n + m) g)
    ∙ sum_past n m g (λ k h l. none k h (omega (arith, l)))

-- ---- values

-- that of a basic column is what the others leave
module _ (t : Tableau) (all : length t.value ≡ all_columns t)
    (units : IsUnit t.rows (entry_at t) (basic_at t)) (in_range : (i : ℕ) → i < t.rows → basic_at t i < all_columns t)
    (marked : (i : ℕ) → i < t.rows → status_at t (basic_at t i) ≡ Basic)
    (placed : (k : ℕ) → k < all_columns t → status_at t k ≡ Basic → (i : ℕ) × (i < t.rows) × (basic_at t i ≡ k))
    (zeros : (k : ℕ) → k < all_columns t → status_at t k ≡ Basic → value_at t k ≡ 0ℚ)
    (values : List ℚ) (ok : valued_run None t ≡ Ok values) where
  abbrev gain : ℕ → ℚ
  gain k = get_or values k 0ℚ -ℚ value_at t k

  -- a column that is basic at no position gains nothing as the values are set
  off : (k : ℕ) → k < all_columns t → ((i : ℕ) → i < t.rows → basic_at t i ≢ k) → gain k ≡ 0ℚ
  off k h none =
      by_basic (status_at t k)
      (λ b. let w = placed k h b in absurd (none w.0 w.1 w.2))
      (λ b. ap (λ v. v -ℚ value_at t k) (valued_other None t all units in_range marked zeros values ok k b)
      ∙ nothing (value_at t k))
    where
      nothing : (a : ℚ) → a -ℚ a ≡ 0ℚ
      nothing a = simp ring

  -- the value that the basic column of row r gets is minus the sum over all columns k of entry k of the row times the
  -- value of k
  pub value_left : (r : ℕ) → r < t.rows →
      get_or values (basic_at t r) 0ℚ ≡ neg_ℚ (sum_below (all_columns t) (λ k. entry_at t r k *ℚ value_at t k))
  value_left r h =
      again (get_or values (basic_at t r) 0ℚ) (value_at t (basic_at t r))
      ∙ ap₂ (λ u v. u +ℚ v)
      (sym (at_row t.rows (all_columns t) (entry_at t) (basic_at t) units in_range gain off r h)
      ∙ sum_below_same (all_columns t) _ (λ k. entry_at t r k *ℚ get_or values k 0ℚ -ℚ entry_at t r k *ℚ value_at t k)
      (λ k _. apart (entry_at t r k) (get_or values k 0ℚ) (value_at t k))
      ∙ sum_below-sub (all_columns t) (λ k. entry_at t r k *ℚ get_or values k 0ℚ)
      (λ k. entry_at t r k *ℚ value_at t k)
      ∙ ap (λ z. z -ℚ sum_below (all_columns t) (λ k. entry_at t r k *ℚ value_at t k))
      (valued_solves None t all units in_range marked zeros values ok r h))
      (zeros (basic_at t r) (in_range r h) (marked r h))
      ∙ close (sum_below (all_columns t) (λ k. entry_at t r k *ℚ value_at t k))
    where
      again : (v x : ℚ) → v ≡ (v -ℚ x) +ℚ x
      again v x = simp ring

      apart : (a v x : ℚ) → a *ℚ (v -ℚ x) ≡ a *ℚ v -ℚ a *ℚ x
      apart a v x = simp ring

      close : (s : ℚ) → (0ℚ -ℚ s) +ℚ 0ℚ ≡ neg_ℚ s
      close s = simp ring

-- ---- the tableau
module _ {T : Type 0} (value : T → ℕ) (f : Form) (basis : List Status) (e : Elimination T) (proper : IsProper f)
    (fits : IsBasisOf f basis) (few : length f.cost ≤ f.cols + f.rows + f.rows)
    (s : IsSolvedBelow value f basis (f.cols + f.rows) e) where
  abbrev n : ℕ
  n = f.cols + f.rows

  abbrev t0 : Tableau
  t0 = with_basis f basis s.now

  -- the stated elimination without a limit gives what the rows are solved to
  eliminated : eliminate_run None f basis ≡ Ok s.now
  unfolding eliminate_run
  eliminated = s.run

  start_is : start_from None f basis ≡ refused_as start.Past (filled_run None f t0)
  unfolding start_from
  start_is = ap (λ o. o >>= λ e. refused_as start.Past (filled_run None f (with_basis f basis e))) eliminated

  filled : (t : Tableau) × (filled_run None f t0 ≡ Ok t)
  filled = given (filled_run None f t0) (λ p h. (from_agrees None f basis).exact p
      (start_is ∙ ap (refused_as start.Past) h))

  abbrev u : Tableau
  u = filled.0

  starts : start_from None f basis ≡ Ok u
  starts = start_is ∙ ap (refused_as start.Past) filled.1

  -- the tableau of the start from the basis is one of the form's equations, costs and bounds
  begins : BeginsFrom f u
  begins = start_begins_from None f basis u proper fits few starts

  valued : (values : List ℚ) × (valued_run None t0 ≡ Ok values) ×
      ((priced_run None t0 f.cost >>= λ reduced. Ok (with_reduced (with_values t0 values) reduced)) ≡ Ok u)
  valued = then_ok (valued_run None t0) _ u filled.1

  priced : (reduced : List ℚ) × (priced_run None t0 f.cost ≡ Ok reduced) ×
      (◌≡◌ {A = Run Tableau} (Ok (with_reduced (with_values t0 valued.0) reduced)) (Ok u))
  priced = then_ok (priced_run None t0 f.cost) _ u valued.2

  abbrev zeros : List ℚ
  zeros = replicate (f.cols + f.rows + f.rows) 0ℚ

  same : with_reduced (with_values t0 valued.0) priced.0 ≡ u
  same = let z : ◌≡◌ {A = Run Tableau} (Ok (with_reduced (with_values t0 valued.0) priced.0)) (Ok u) = priced.2 in cc

  -- the same but for the reduced costs
  abbrev v : Tableau
  v = with_reduced (with_values t0 valued.0) zeros

  begun : BeginsFrom f (with_reduced (with_values t0 valued.0) priced.0)
  begun = subst (BeginsFrom f) (sym same) begins

  -- before the basic values are set, each structural and logical column has the value that the basis gives it
  value_is : (k : ℕ) → k < n + f.rows → value_at t0 k ≡ basis_value f basis k
  value_is k h = get_or-made (n + f.rows) (basis_value f basis) k 0ℚ h

  -- before the basic values are set, each basic column has the value 0
  none_basic : (k : ℕ) → k < n + f.rows → status_at t0 k ≡ Basic → value_at t0 k ≡ 0ℚ
  none_basic k h b = value_is k h ∙ ap (λ s. stand s (lower_at t0 k) (upper_at t0 k)) b

  -- what holds of the artificial column of each row holds of each artificial column k
  artificial : (P : ℕ → Type 0) (k : ℕ) → n ≤ k → k < n + f.rows → ((r : ℕ) → r < f.rows → P (n + r)) → P k
  artificial P k h l g =
      let z : n + (k - n) ≡ k = omega (arith, h) in subst P z (g (k - n) (omega (arith, h, l)))

  -- the basis gives each artificial column the value 0
  artificial_zero : (k : ℕ) → n ≤ k → k < n + f.rows → basis_value f basis k ≡ 0ℚ
  artificial_zero k h l =
      artificial (λ k. basis_value f basis k ≡ 0ℚ) k h l
      (λ r q. ap₂ (λ s o. stand s o (upper_at t0 (n + r)))
      (ap (λ k. get_or (basis ++ replicate f.rows AtLower) (k + r) Basic) (sym fits.all)
      ∙ get_or-append-add basis (replicate f.rows AtLower) r Basic ∙ get_or-replicate f.rows r AtLower Basic q)
      (ap (λ k. get_or (f.lower ++ replicate f.rows (Some 0ℚ)) (k + r) None) (sym proper.all_lower)
      ∙ get_or-append-add f.lower (replicate f.rows (Some 0ℚ)) r None
      ∙ get_or-replicate f.rows r (Some 0ℚ) None q))

  -- over all columns, entries times values sum up in row i to the sum over the structural and logical ones
  left_is : (i : ℕ) → i < f.rows →
      sum_below (n + f.rows) (λ k. entry_at t0 i k *ℚ value_at t0 k) ≡
      sum_below n (λ k. entry_at t0 i k *ℚ basis_value f basis k)
  left_is i h =
      sum_past n f.rows (λ k. entry_at t0 i k *ℚ value_at t0 k)
      (λ k l q. ap (λ z. entry_at t0 i k *ℚ z) (value_is k q ∙ artificial_zero k l q) ∙ *ℚ_zero (entry_at t0 i k))
      ∙ sum_below_same n _ (λ k. entry_at t0 i k *ℚ basis_value f basis k)
      (λ k q. ap (λ z. entry_at t0 i k *ℚ z) (value_is k (omega (arith, q))))

  bound_at : (xs : List (Option (Signed T))) (ys : List (Option ℚ)) →
      map (bound_of value (value e.tab.denominator)) xs ≡ ys → (k : ℕ) →
      get_or ys k None ≡ bound_of value (value e.tab.denominator) (get_or xs k None)
  bound_at xs ys h k =
      sym (ap (λ ys. get_or ys k None) h) ∙ get_or-map (bound_of value (value e.tab.denominator)) xs k None

  -- the rows of the elimination show the start's tableau, but for its reduced costs
  shown : Shows value e.tab v
  shown = record {
    rows = s.rows.len;
    cols = s.form.cols;
    basic = s.basic;
    status = s.form.status;
    entries = λ i k h l. sym (row_at-one value e.tab.rows.items i k ∙ s.rows.entries i k h l);
    values = λ i h.
        value_left t0 (length-made (n + f.rows) (basis_value f basis)) begun.based.tableau.tableau.units
        begun.based.tableau.tableau.in_range begun.based.tableau.tableau.marked begun.based.tableau.tableau.placed none_basic valued.0 valued.1 i h
        ∙ ap neg_ℚ (left_is i h)
        ∙ sym (s.rows.values i h);
    reduced = λ k h. get_or-replicate (n + f.rows) k 0ℚ 0ℚ (omega (arith, h)) ∙ sym (s.form.costs k h);
    lower = λ k h. bound_at e.tab.lower.items (basis_lower f) s.form.lower k;
    upper = λ k h. bound_at e.tab.upper.items _ s.form.upper k;
    fixed = λ k h.
        ap₂ (λ x y. is_fixed x y) (begun.lower k h) (begun.upper k h)
        ∙ sym (ap (λ bs. get_or bs k false) s.form.fixed
        ∙ get_or-made n (λ k. is_fixed (form_lower f k) (form_upper f k)) k false h);
    stands = λ k h b.
        valued_other None t0 (length-made (n + f.rows) (basis_value f basis)) begun.based.tableau.tableau.units
        begun.based.tableau.tableau.in_range begun.based.tableau.tableau.marked none_basic valued.0 valued.1 k b
        ∙ value_is k h;
  }

  -- rows that are solved for all columns of a basis show the tableau of the start from the basis, but for the reduced
  -- costs
  pub shows_basis : ShowsBasis value f basis e.tab
  shows_basis = record {
    tableau = u;
    starts = starts;
    shown = subst (λ u. Shows value e.tab (with_reduced u zeros)) same shown;
  }

-- ---- the reduced costs

-- reduced costs at the start from a basis are costs less each row times the cost of its basic column
start_costs : (f : Form) (basis : List Status) (t : Tableau) → start_from None f basis ≡ Ok t → (k : ℕ) →
    k < all_columns t →
    reduced_at t k ≡ cost_at f.cost k -ℚ sum_below t.rows (λ i. cost_at f.cost (basic_at t i) *ℚ entry_at t i k)
unfolding start_from
start_costs f basis t h =
    let a = then_ok (eliminate_run None f basis) _ t h in
    let g = refused_ok start.Past (filled_run None f (with_basis f basis a.0)) t a.2 in
    let c = then_ok (valued_run None (with_basis f basis a.0)) _ t g in
    let d = then_ok (priced_run None (with_basis f basis a.0) f.cost) _ t c.2 in
    let z : with_reduced (with_values (with_basis f basis a.0) c.0) d.0 ≡ t = cc in
    subst (λ t. (k : ℕ) → k < all_columns t →
    reduced_at t k ≡ cost_at f.cost k -ℚ sum_below t.rows (λ i. cost_at f.cost (basic_at t i) *ℚ entry_at t i k)) z
    (stated_costs (with_basis f basis a.0) f.cost d.0 d.1)

module _ {T : Type 0} (value : T → ℕ) (f : Form) (r : RowTableau T) (costs : Row T)
    (size : HasSize value f r) (priced : IsPricedRow value r f.cost costs) where
  -- rows of the form's size keep it when their costs are replaced by the row of the form's reduced costs
  pub priced_size : HasSize value f (record r { costs = costs })
  priced_size = record {
    whole = record {
      few_rows = size.whole.few_rows;
      few_columns = size.whole.few_columns;
      each_row = size.whole.each_row;
      costs = priced.is_row;
      all_basic = size.whole.all_basic;
      in_range = size.whole.in_range;
      all_statuses = size.whole.all_statuses;
      all_lower = size.whole.all_lower;
      all_upper = size.whole.all_upper;
      all_fixed = size.whole.all_fixed;
      positive = size.whole.positive;
    };
    rows = size.rows;
    cols = size.cols;
  }

  -- where rows show the start from a basis but for the reduced costs, they show the whole of it once their costs are
  -- the row of the form's reduced costs
  pub priced_shows : (basis : List Status) → IsProper f → IsBasisOf f basis → length f.cost ≤ f.cols + f.rows + f.rows →
      ShowsBasis value f basis r → ShowsStart value f basis (record r { costs = costs })
  priced_shows basis proper fits few b =
      let t = b.tableau in
      let zeros = replicate (f.cols + f.rows + f.rows) 0ℚ in
      let begins : BeginsFrom f t = start_begins_from None f basis t proper fits few b.starts in
      let rows_is : t.rows ≡ f.rows = begins.based.tableau.rows in
      let units : IsUnit t.rows (entry_at t) (basic_at t) =
      subst (λ m. IsUnit m (entry_at t) (basic_at t)) (sym rows_is) begins.based.tableau.tableau.units in
      record {
        tableau = t;
        starts = b.starts;
        shown = record {
          rows = b.shown.rows;
          cols = b.shown.cols;
          basic = b.shown.basic;
          status = b.shown.status;
          entries = b.shown.entries;
          values = b.shown.values;
          reduced = λ k h.
              start_costs f basis t b.starts k (omega (arith, h))
              ∙ sym (priced.less (with_reduced t zeros) units b.shown k
              (omega (arith, h, b.shown.rows, b.shown.cols)));
          lower = b.shown.lower;
          upper = b.shown.upper;
          fixed = b.shown.fixed;
          stands = b.shown.stands;
        };
      }

-- end of BasisRows
