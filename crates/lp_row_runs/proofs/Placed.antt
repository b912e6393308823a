-- The last numbers of rows: what is left for the basic columns.
use Rattle.std.proofs.Common.{◌≡◌, ◌≢◌, ℕ, suc, ◌+◌, ◌<◌, ℤ, pos, List, length, sym, ap, ap₂, subst, subst₂}
use Rattle.std.proofs.Common.{◌∙◌, arith, get_or, map, Option, None}
use Rattle.std.proofs.lemmas.List.{get_or_default}
use Rattle.std.proofs.Math.ListN.{get_or-map}
use Rattle.spec_exact.specs.Fraction.{ℚ, 0ℚ, over, ◌+ℚ◌, ◌-ℚ◌, ◌*ℚ◌, neg_ℚ, inverse}
use Rattle.spec_exact.specs.Sums.{sum_below}
use Rattle.spec_exact.proofs.Ruleset.{ring}
use Rattle.spec_exact.proofs.Sums.{sum_below_same, sum_below-*ℚ, *ℚ-sum_below, sum_below-sub}
use Rattle.spec_pivot.specs.Tableau.{pivot_row, pivoted}
use Rattle.spec_pivot.proofs.Pivot.{by_eq, pivoted_at, pivoted_off}
use Rattle.spec_pivot.specs.declared.status.Status.{Status}
use Rattle.spec_pivot.specs.declared.status.Status.TheVariants.{Basic}
use Rattle.spec_simplex.specs.Form.{Form}
use Rattle.spec_simplex.specs.Tableau.{at_place, stand}
use Rattle.spec_simplex.specs.Eliminate.{basis_status, basis_lower, basis_upper, basis_value, unsolved}
use Rattle.lp_natural.specs.declared.words.signed.Signed.{Signed}
use Rattle.lp_rows.specs.Ratio.{bound_of}
use Rattle.lp_rows.specs.declared.fractions.Row.{Row}
use Rattle.lp_rows.specs.declared.tableau.tableau.RowTableau.{RowTableau}
use Rattle.lp_rows.specs.Shows.{IsWhole, width, all_width}
use Rattle.lp_rows.specs.Moves.{number_at, number_in, AreMoved, AreTurned, step_to}
use Rattle.lp_rows.proofs.TableauNumbers.{row_at-on}
use Rattle.lp_rows.proofs.SameCounts.{whole_on, whole_flipped}
use Rattle.lp_row_runs.specs.Rows.{AreRowsAt, IsUnsolved}

module _ {T : Type 0} (value : T → ℕ) (d h n : ℕ) (x : ℕ → ℚ) (equations : ℕ → ℕ → ℚ) (old : List (Row T))
    (positive : 0 < d) where
  -- what one over the denominator of all bounds is
  abbrev unit : ℚ
  unit = over (pos 1) d

  -- ---- one column more has its value
  module _ (k : ℕ) (a : AreRowsAt value d h n k x equations old) (new : List (Row T)) (by : ℤ) (k_in : k < n)
      (m : AreMoved value n k (over by 1) old new) (stands : over by d ≡ x k) where
    -- with k columns placed, the last number of row i is minus the sum of its entries times their values
    last_was : (i : ℕ) → i < h → number_in value old i n *ℚ unit ≡ neg_ℚ (sum_below k (λ k. equations i k *ℚ x k))
    last_was i l =
        sym (row_at-on value old d n i n positive a.each (omega (arith, l, a.len)) (omega arith)) ∙ a.values i l

    -- where the value of column k is moved out of the last numbers, rows with the first k columns placed are rows with
    -- the first k + 1 placed
    pub one_placed : AreRowsAt value d h n (k + 1) x equations new
    one_placed = record {
      len = m.len ∙ a.len;
      each = m.rows;
      entries = λ i j l q. m.others i j (omega (arith, l, a.len)) q ∙ a.entries i j l q;
      values = λ i l.
          row_at-on value new d n i n positive m.rows (omega (arith, l, a.len, m.len)) (omega arith)
          ∙ ap (λ z. z *ℚ unit) (m.last i (omega (arith, l, a.len)))
          ∙ apart (number_in value old i n) (number_in value old i k) (over by 1) unit
          ∙ ap₂ (λ u v. u -ℚ v) (last_was i l)
          (ap₂ (λ u v. u *ℚ v) (a.entries i k l k_in) (whole_on by d positive ∙ stands))
          ∙ more (sum_below k (λ k. equations i k *ℚ x k)) (equations i k *ℚ x k)
          ∙ ap (λ j. neg_ℚ (sum_below j (λ k. equations i k *ℚ x k))) next;
    }
      where
        apart : (l e b u : ℚ) → (l -ℚ e *ℚ b) *ℚ u ≡ l *ℚ u -ℚ e *ℚ (b *ℚ u)
        apart l e b u = simp ring

        more : (s p : ℚ) → neg_ℚ s -ℚ p ≡ neg_ℚ (s +ℚ p)
        more s p = simp ring

        next : suc k ≡ k + 1
        next = omega arith

  -- ---- a pivot, in which the last numbers are as the others
  module _ (a : AreRowsAt value d h n n x equations old) (p j : ℕ) (p_in : p < h) (j_in : j < n) (v w : ℚ)
      (new : List (Row T)) (cost costs : Row T) (v_is : v ≡ 0ℚ) (w_is : w ≡ 0ℚ)
      (t : AreTurned value n p j v w old new cost costs) where
    abbrev left : ℕ → ℚ
    left i = sum_below n (λ k. equations i k *ℚ x k)

    -- with all columns placed, the last number of row i is minus what the row leaves
    own_last : (i : ℕ) → i < h → number_in value old i n *ℚ unit ≡ neg_ℚ (left i)
    own_last i l =
        sym (row_at-on value old d n i n positive a.each (omega (arith, l, a.len)) (omega arith)) ∙ a.values i l

    -- the pivot of the rows' numbers is, entry by entry, the pivot of the equations
    entry_is : (i k : ℕ) → i < h → k < n →
        pivoted (number_in value old) p j i k ≡ pivoted equations p j i k
    entry_is i k l q = by_eq i p
        (λ e. subst (λ i. pivoted (number_in value old) p j i k ≡ pivoted equations p j i k) (sym e)
        (pivoted_at (number_in value old) p j k
        ∙ own k q
        ∙ sym (pivoted_at equations p j k)))
        (λ o. pivoted_off (number_in value old) p j i k o
        ∙ ap₂ (λ u v. u -ℚ v) (a.entries i k l q) (ap₂ (λ u v. u *ℚ v) (a.entries i j l j_in) (own k q))
        ∙ sym (pivoted_off equations p j i k o))
      where
        own : (k : ℕ) → k < n → pivot_row (number_in value old) p j k ≡ pivot_row equations p j k
        own k q = ap₂ (λ u v. u *ℚ inverse v) (a.entries p k p_in q) (a.entries p j p_in j_in)

    -- the value of the step of the pivot in column j at p is minus what row p leaves, over the row's entry there
    step_is : step_to value n p j v old *ℚ unit ≡ neg_ℚ (left p) *ℚ inverse (equations p j)
    step_is =
        ap (λ v. (number_in value old p n -ℚ v) *ℚ inverse (number_in value old p j) *ℚ unit) v_is
        ∙ apart (number_in value old p n) (inverse (number_in value old p j)) unit
        ∙ ap₂ (λ u v. u *ℚ inverse v) (own_last p p_in) (a.entries p j p_in j_in)
      where
        apart : (l e u : ℚ) → (l -ℚ 0ℚ) *ℚ e *ℚ u ≡ (l *ℚ u) *ℚ e
        apart l e u = simp ring

    -- the pivot's own row leaves what it left before, over its entry in column j
    own_sum : sum_below n (λ k. pivoted equations p j p k *ℚ x k) ≡ left p *ℚ inverse (equations p j)
    own_sum =
        sum_below_same n _ (λ k. equations p k *ℚ x k *ℚ inverse (equations p j))
        (λ k _. ap (λ z. z *ℚ x k) (pivoted_at equations p j k)
        ∙ swap (equations p k) (inverse (equations p j)) (x k))
        ∙ sym (sum_below-*ℚ n (λ k. equations p k *ℚ x k) (inverse (equations p j)))
      where
        swap : (e i x : ℚ) → e *ℚ i *ℚ x ≡ e *ℚ x *ℚ i
        swap e i x = simp ring

    -- each other row leaves what it left before, less its entry in column j times what the pivot's row leaves
    other_sum : (i : ℕ) → i ≢ p → sum_below n (λ k. pivoted equations p j i k *ℚ x k) ≡
        left i -ℚ equations i j *ℚ (left p *ℚ inverse (equations p j))
    other_sum i o =
        sum_below_same n _
        (λ k. equations i k *ℚ x k -ℚ equations i j *ℚ (equations p k *ℚ x k *ℚ inverse (equations p j)))
        (λ k _. ap (λ z. z *ℚ x k) (pivoted_off equations p j i k o)
        ∙ swap (equations i k) (equations i j) (equations p k) (inverse (equations p j)) (x k))
        ∙ sum_below-sub n (λ k. equations i k *ℚ x k)
        (λ k. equations i j *ℚ (equations p k *ℚ x k *ℚ inverse (equations p j)))
        ∙ ap (λ z. left i -ℚ z)
        (sym (*ℚ-sum_below (equations i j) n (λ k. equations p k *ℚ x k *ℚ inverse (equations p j)))
        ∙ ap (λ z. equations i j *ℚ z)
        (sym (sum_below-*ℚ n (λ k. equations p k *ℚ x k) (inverse (equations p j)))))
      where
        swap : (a b e i x : ℚ) → (a -ℚ b *ℚ (e *ℚ i)) *ℚ x ≡ a *ℚ x -ℚ b *ℚ (e *ℚ x *ℚ i)
        swap a b e i x = simp ring

    -- after the pivot, the last number of row i is minus the sum of the pivoted entries times the values
    value_is : (i : ℕ) → i < h →
        number_in value new i n *ℚ unit ≡ neg_ℚ (sum_below n (λ k. pivoted equations p j i k *ℚ x k))
    value_is i l = by_eq i p
        (λ e. subst (λ i. number_in value new i n *ℚ unit ≡
        neg_ℚ (sum_below n (λ k. pivoted equations p j i k *ℚ x k))) (sym e)
        (ap (λ z. z *ℚ unit) (t.own ∙ ap (λ w. step_to value n p j v old +ℚ w) w_is)
        ∙ none (step_to value n p j v old) unit
        ∙ step_is
        ∙ out (left p) (inverse (equations p j))
        ∙ ap neg_ℚ (sym own_sum)))
        (λ o. ap (λ z. z *ℚ unit) (t.last i (omega (arith, l, a.len)) o)
        ∙ apart (number_in value old i n) (number_in value old i j) (step_to value n p j v old) unit
        ∙ ap₂ (λ u v. u -ℚ v) (own_last i l) (ap₂ (λ u v. u *ℚ v) (a.entries i j l j_in) step_is)
        ∙ join (left i) (equations i j) (left p) (inverse (equations p j))
        ∙ ap neg_ℚ (sym (other_sum i o)))
      where
        none : (s u : ℚ) → (s +ℚ 0ℚ) *ℚ u ≡ s *ℚ u
        none s u = simp ring

        out : (s i : ℚ) → neg_ℚ s *ℚ i ≡ neg_ℚ (s *ℚ i)
        out s i = simp ring

        apart : (l e b u : ℚ) → (l -ℚ e *ℚ b) *ℚ u ≡ l *ℚ u -ℚ e *ℚ (b *ℚ u)
        apart l e b u = simp ring

        join : (s e q i : ℚ) → neg_ℚ s -ℚ e *ℚ (neg_ℚ q *ℚ i) ≡ neg_ℚ (s -ℚ e *ℚ (q *ℚ i))
        join s e q i = simp ring

    -- where all columns are placed, and a pivot takes the rows on with 0 moved and 0 left, they are rows of the pivoted
    -- equations
    pub turned_rows : AreRowsAt value d h n n x (pivoted equations p j) new
    turned_rows = record {
      len = t.len ∙ a.len;
      each = t.rows;
      entries = λ i k l q. t.entries i k (omega (arith, l, a.len)) q ∙ entry_is i k l q;
      values = λ i l.
          row_at-on value new d n i n positive t.rows (omega (arith, l, a.len, t.len)) (omega arith) ∙ value_is i l;
    }

-- where a call moved the last numbers of the rows that it was lent, those of the tableau's rows are moved
moved_here : {T : Type 0} (value : T → ℕ) (k n : ℕ) (v : ℚ) (old new : RowTableau T) (lent rows : List (Row T)) →
    n ≡ width old → lent ≡ old.rows.items → new.rows.items ≡ rows → AreMoved value n k v lent rows →
    AreMoved value (width old) k v old.rows.items new.rows.items
moved_here value k n v old new lent rows n_is lent_is rows_is m =
    subst₂ (AreMoved value (width old) k v) lent_is (sym rows_is) (subst (λ n. AreMoved value n k v lent rows) n_is m)

-- ---- a column of the form's equations
module _ {T : Type 0} (value : T → ℕ) (k : ℕ) (old new : RowTableau T) (whole : IsWhole value old) (k_in : k < width old)
    (by : ℤ) (n : ℕ) (lent rows : List (Row T)) (n_is : n ≡ width old) (lent_is : lent ≡ old.rows.items)
    (rows_is : new.rows.items ≡ rows) (m : AreMoved value n k (over by 1) lent rows) (cols : new.cols ≡ old.cols)
    (costs : new.costs ≡ old.costs) (basic : new.basic ≡ old.basic) (status : new.status ≡ old.status)
    (lower : new.lower ≡ old.lower) (upper : new.upper ≡ old.upper) (fixed : new.fixed ≡ old.fixed)
    (denominator : new.denominator ≡ old.denominator) where
  moved : AreMoved value (width old) k (over by 1) old.rows.items new.rows.items
  moved = moved_here value k n (over by 1) old new lent rows n_is lent_is rows_is m

  -- where a move changes the last numbers of the rows alone, a whole tableau of rows stays whole
  pub placed_whole : IsWhole value new
  placed_whole =
      whole_flipped value old new whole k (over by 1) moved cols costs basic
      (ap (λ (ss : _). length ss.items) status) lower upper fixed denominator

  module _ (f : Form) (basis : List Status) (u : IsUnsolved value f basis k old) (st st' : Status)
      (low low' high high' : Option (Signed T)) (st_is : st ≡ get_or old.status.items k st')
      (low_is : low ≡ get_or old.lower.items k low') (high_is : high ≡ get_or old.upper.items k high')
      (by_is : (d : ℕ) → 0 < d → over by d ≡ stand st (bound_of value d low) (bound_of value d high)) where
    abbrev d : ℕ
    d = value old.denominator

    wide : width old ≡ f.cols + f.rows
    wide = ap₂ (λ a b. a + b) u.form.cols u.rows.len

    bound_read : (xs : List (Option (Signed T))) (ys : List (Option ℚ)) (x x' : Option (Signed T)) →
        length xs ≡ all_width old → map (bound_of value d) xs ≡ ys → x ≡ get_or xs k x' →
        bound_of value d x ≡ get_or ys k None
    bound_read xs ys x x' all e g =
        ap (bound_of value d) (g ∙ get_or_default xs k x' None (omega (arith, k_in, all)))
        ∙ sym (get_or-map (bound_of value d) xs k None)
        ∙ ap (λ ys. get_or ys k None) e

    stands : over by d ≡ basis_value f basis k
    stands =
        by_is d whole.positive
        ∙ ap (λ s. stand s (bound_of value d low) (bound_of value d high))
        (st_is ∙ get_or_default old.status.items k st' Basic (omega (arith, k_in, whole.all_statuses))
        ∙ ap (λ ss. get_or ss k Basic) u.form.status)
        ∙ ap₂ (λ l h. stand (get_or (basis_status f basis) k Basic) l h)
        (bound_read old.lower.items (basis_lower f) low low' whole.all_lower u.form.lower low_is)
        (bound_read old.upper.items (basis_upper f) high high' whole.all_upper u.form.upper high_is)

    -- where column k is moved by the value of its status and bounds, unsolved equations with the first k columns placed
    -- are such with the first k + 1
    pub value_placed : IsUnsolved value f basis (k + 1) new
    value_placed = record {
      whole = placed_whole;
      form = record {
        cols = cols ∙ u.form.cols;
        costs = λ j h. ap (λ (c : Row T). number_at value c j) costs ∙ u.form.costs j h;
        status = ap (λ (ss : _). ss.items) status ∙ u.form.status;
        lower = ap₂ (λ (d : T) (bs : _). map (bound_of value (value d)) bs.items) denominator lower ∙ u.form.lower;
        upper = ap₂ (λ (d : T) (bs : _). map (bound_of value (value d)) bs.items) denominator upper ∙ u.form.upper;
        fixed = ap (λ (bs : _). bs.items) fixed ∙ u.form.fixed;
      };
      rows =
          subst (λ (e : T). AreRowsAt value (value e) f.rows (f.cols + f.rows) (k + 1) (basis_value f basis)
          (at_place (unsolved f).rows) new.rows.items) (sym denominator)
          (one_placed value d f.rows (f.cols + f.rows) (basis_value f basis) (at_place (unsolved f).rows)
          old.rows.items whole.positive k u.rows new.rows.items by (omega (arith, k_in, wide))
          (subst (λ n. AreMoved value n k (over by 1) old.rows.items new.rows.items) wide moved) stands);
      basic = ap (λ (ks : _). ks.items) basic ∙ u.basic;
    }

-- end of Placed
