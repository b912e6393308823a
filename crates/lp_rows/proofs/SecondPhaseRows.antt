-- The rows at the beginning of the second phase show the stated tableau there.
--
-- `none_zeroed`: bounds as they were are 0 from n to n, where there are none.
-- `all_zeroed`: where the bounds from n to k are 0, so are those from n to m, which is no more than k.
-- `zeroed_more`: where the bounds from n to k are 0, and bound k is set to 0, those from n to k + 1 are 0.
-- `zeroed_written`: where bounds that were lent whole were made 0 from n on, and are written back, they are 0 from n
--   on.
use Rattle.std.proofs.Common.{◌≡◌, ◌≢◌, ℕ, ◌+◌, ◌<◌, ◌≤◌, pos, List, [], ◌∷◌, length, get_or, set, Option}
use Rattle.std.proofs.Common.{Some, None, Ok, false, refl, sym, ap, ap₂, subst, subst₂, ◌∙◌, arith, ◌++◌, All}
use Rattle.std.proofs.Math.ListN.{take, drop}
use Rattle.std.proofs.lemmas.List.{length-set, get_or-set_same, get_or-set_other}
use Rattle.spec_exact.specs.Fraction.{ℚ, 0ℚ, over}
use Rattle.spec_exact.proofs.Ring.{◌⊗◌, lit, v0}
use Rattle.spec_exact.proofs.WholeRing.{by_ring}
use Rattle.spec_exact.proofs.Fraction.{over-same}
use Rattle.spec_exact.proofs.Field.{whole_over}
use Rattle.spec_model.specs.Kept.{row_limit, column_limit}
use Rattle.spec_pivot.specs.declared.status.Status.TheVariants.{Basic}
use Rattle.spec_pivot.proofs.Pivot.{by_eq}
use Rattle.spec_simplex.specs.Form.{Form}
use Rattle.spec_simplex.specs.Phases.{fixed_at_zero, without_artificials, phase_two_run}
use Rattle.spec_simplex.specs.Start.{priced_run, with_reduced}
use Rattle.spec_simplex.specs.Tableau.{Tableau, form_columns, all_columns, lower_at, upper_at, status_at}
use Rattle.spec_simplex.specs.Tableau.{is_fixed, stand}
use Rattle.spec_simplex.proofs.ListIndices.{by_lt}
use Rattle.spec_simplex.proofs.RunParts.{then_ok}
use Rattle.spec_simplex.proofs.PhaseTwo.{zeroed_before, zeroed_after}
use Rattle.lp_natural.specs.declared.words.signed.Signed.{Signed}
use Rattle.lp_rows.specs.declared.fractions.Row.{Row}
use Rattle.lp_rows.specs.Ratio.{bound_of}
use Rattle.lp_rows.specs.declared.tableau.tableau.RowTableau.{RowTableau}
use Rattle.lp_rows.specs.Shows.{IsRow, IsWhole, IsReached, Shows, row_at, height, width, all_width}
use Rattle.lp_rows.specs.Second.{fraction_of, IsPricedRow, AreZeroed, IsBegun}
use Rattle.lp_rows.proofs.Cleared.{written}
use Rattle.lp_rows.proofs.Taken.{stated_costs}

-- ---- a list of bounds

-- a bound of magnitude 0 on a positive denominator is 0
zero_is : {T : Type 0} (value : T → ℕ) (x : T) (d : ℕ) → value x ≡ 0 → 0 < d →
    bound_of value d (Some (record { negative = false; size = x })) ≡ Some 0ℚ
zero_is value x d e p =
    ap Some (ap (λ n. over (pos n) d) e
    ∙ over-same (pos 0) (pos 0) d 1 p (omega arith)
    (by_ring (pos d ∷ []) (lit (pos 0) ⊗ lit (pos 1)) (lit (pos 0) ⊗ v0) refl)
    ∙ sym (whole_over (pos 0)))

pub none_zeroed : {T : Type 0} (value : T → ℕ) (n : ℕ) (old : List (Option (Signed T))) → AreZeroed value n n old old
none_zeroed value n old =
    record { len = refl; before = λ j m. refl; zero = λ j m below d p. absurd (omega (arith, m, below)) }

pub all_zeroed : {T : Type 0} (value : T → ℕ) (n m k : ℕ) (old new : List (Option (Signed T))) →
    AreZeroed value n k old new → m ≤ k → AreZeroed value n m old new
all_zeroed value n m k old new z e =
    record { len = z.len; before = z.before; zero = λ j l below d p. z.zero j l (omega (arith, below, e)) d p }

pub zeroed_more : {T : Type 0} (value : T → ℕ) (n k : ℕ) (old new : List (Option (Signed T))) (x : T) → n ≤ k →
    k < length new → value x ≡ 0 → AreZeroed value n k old new →
    AreZeroed value n (k + 1) old (set new k (Some (record { negative = false; size = x })))
zeroed_more value n k old new x h l e so_far =
    record {
      len = length-set new k _ ∙ so_far.len;
      before = λ j m. get_or-set_other new k j _ None (λ q. let z : ⊥ = omega (arith, h, m, q) in z)
          ∙ so_far.before j m;
      zero = λ j m below d p.
          by_eq j k
          (λ q. ap (bound_of value d)
          (ap (λ j. get_or (set new k (Some (record { negative = false; size = x }))) j None) q
          ∙ get_or-set_same new k (Some (record { negative = false; size = x })) None l)
          ∙ zero_is value x d e p)
          (λ q. ap (bound_of value d) (get_or-set_other new k j _ None q)
          ∙ so_far.zero j m (omega (arith, below, q)) d p);
    }

pub zeroed_written : {T : Type 0} (value : T → ℕ) (n m size : ℕ) (old lent new : List (Option (Signed T))) →
    lent ≡ old → length lent ≡ size → n ≡ m → AreZeroed value n (length lent) lent new →
    AreZeroed value m (length old) old (take size (new ++ drop (length new) old))
zeroed_written value n m size old lent new r l e z =
    subst (λ xs. AreZeroed value m (length old) old xs) (sym (written size new old (z.len ∙ l)))
    (subst₂ (λ n xs. AreZeroed value n (length xs) xs new) e r z)

-- ---- the tableau
module _ {T : Type 0} (value : T → ℕ) (r : RowTableau T) (costs : Row T) (s : RowTableau T) (w : IsWhole value r)
    (b : IsBegun value r costs s) where
  same_height : height s ≡ height r
  same_height = ap (λ (rows : _). length rows.items) b.rows

  same_width : width s ≡ width r
  same_width = ap₂ (λ a b. a + b) b.cols same_height

  same_all : all_width s ≡ all_width r
  same_all = ap₂ (λ a b. a + b) same_width same_height

  -- where the costs are a row of a whole tableau of rows, the tableau with which phase two begins is whole
  pub begun_whole : IsRow value (width r) costs → IsWhole value s
  begun_whole is = record {
    few_rows = subst (λ n. n ≤ row_limit) (sym same_height) w.few_rows;
    few_columns = subst (λ n. n ≤ column_limit) (sym b.cols) w.few_columns;
    each_row =
        subst (λ n. All (IsRow value n) s.rows.items) (sym same_width)
        (subst (λ (rows : _). All (IsRow value (width r)) rows.items) (sym b.rows) w.each_row);
    costs = subst (λ n. IsRow value n s.costs) (sym same_width) (subst (IsRow value (width r)) (sym b.reduced) is);
    all_basic = ap (λ (ks : _). length ks.items) b.basic ∙ w.all_basic ∙ sym same_height;
    in_range =
        subst (λ n. All (λ k. k < n) s.basic.items) (sym same_all)
        (subst (λ (ks : _). All (λ k. k < all_width r) ks.items) (sym b.basic) w.in_range);
    all_statuses = ap (λ (ss : _). length ss.items) b.status ∙ w.all_statuses ∙ sym same_all;
    all_lower = b.lower.len ∙ w.all_lower ∙ sym same_all;
    all_upper = b.upper.len ∙ w.all_upper ∙ sym same_all;
    all_fixed = ap (λ (bs : _). length bs.items) b.fixed ∙ w.all_fixed ∙ sym same_width;
    positive = subst (λ d. 0 < value d) (sym b.denominator) w.positive;
  }

  module _ (t : Tableau) (reached : IsReached t) (shown : Shows value r t) where
    columns : width r ≡ form_columns t
    columns = ap₂ (λ a b. a + b) shown.cols shown.rows

    -- a list of bounds of the stated tableau, and ours
    bound_is : (old new : List (Option (Signed T))) (stated : List (Option ℚ)) → length old ≡ all_width r →
        length stated ≡ all_columns t → AreZeroed value (width r) (length old) old new →
        ((k : ℕ) → k < all_columns t →
        get_or stated k None ≡ bound_of value (value r.denominator) (get_or old k None)) →
        (k : ℕ) → k < all_columns t →
        get_or (fixed_at_zero (form_columns t) t.rows stated) k None ≡
        bound_of value (value s.denominator) (get_or new k None)
    bound_is old new stated all whole z same k l =
        by_lt k (form_columns t)
        (λ h. zeroed_before (form_columns t) t.rows stated k h ∙ same k l
        ∙ ap₂ (λ d o. bound_of value (value d) o) (sym b.denominator) (sym (z.before k (omega (arith, h, columns)))))
        (λ h. zeroed_after (form_columns t) t.rows stated (omega (arith, whole)) k h l
        ∙ sym (z.zero k (omega (arith, h, columns)) (omega (arith, l, all, columns, shown.rows)) (value s.denominator)
        (subst (λ d. 0 < value d) (sym b.denominator) w.positive)))

    -- where a column stood, it stands
    same_lower : (k : ℕ) → k < all_columns t → status_at t k ≢ Basic →
        get_or (fixed_at_zero (form_columns t) t.rows t.lower) k None ≡ lower_at t k
    same_lower k l n =
        by_lt k (form_columns t) (λ h. zeroed_before (form_columns t) t.rows t.lower k h)
        (λ h. zeroed_after (form_columns t) t.rows t.lower (omega (arith, reached.tableau.whole.all_lower)) k h l
        ∙ sym (reached.tableau.bounds.lower k l ∙ reached.tableau.bounds.zero k h l))

    same_upper : (k : ℕ) → k < all_columns t → status_at t k ≢ Basic →
        get_or (fixed_at_zero (form_columns t) t.rows t.upper) k None ≡ upper_at t k
    same_upper k l n =
        by_lt k (form_columns t) (λ h. zeroed_before (form_columns t) t.rows t.upper k h)
        (λ h. zeroed_after (form_columns t) t.rows t.upper (omega (arith, reached.tableau.whole.all_upper)) k h l
        ∙ sym (reached.tableau.bounds.fixed k h l n))

    begun_with : (form : List ℚ) (reduced : List ℚ) → IsPricedRow value r form costs →
        priced_run None (without_artificials t) form ≡ Ok reduced →
        Shows value s (with_reduced (without_artificials t) reduced)
    begun_with form reduced priced ok = record {
      rows = same_height ∙ shown.rows;
      cols = b.cols ∙ shown.cols;
      basic = ap (λ (ks : _). ks.items) b.basic ∙ shown.basic;
      status = ap (λ (ss : _). ss.items) b.status ∙ shown.status;
      entries = λ i k p q. shown.entries i k p q
          ∙ ap (λ (rows : _). row_at value 1 rows.items i k) (sym b.rows);
      values = λ i p. shown.values i p
          ∙ ap₂ (λ (d : T) (rows : _). row_at value (value d) rows.items i (form_columns t)) (sym b.denominator)
          (sym b.rows);
      reduced = λ k l.
          stated_costs (without_artificials t) form reduced ok k (omega (arith, l))
          ∙ sym (priced.less t reached.tableau.tableau.units shown k (omega (arith, l, columns)))
          ∙ ap (λ (row : Row T). fraction_of value row k) (sym b.reduced);
      lower = bound_is r.lower.items s.lower.items t.lower w.all_lower reached.tableau.whole.all_lower b.lower
          shown.lower;
      upper = bound_is r.upper.items s.upper.items t.upper w.all_upper reached.tableau.whole.all_upper b.upper
          shown.upper;
      fixed = λ k l.
          ap₂ (λ x y. is_fixed x y) (zeroed_before (form_columns t) t.rows t.lower k l)
          (zeroed_before (form_columns t) t.rows t.upper k l)
          ∙ shown.fixed k l ∙ ap (λ (bs : _). get_or bs.items k false) (sym b.fixed);
      stands = λ k l n.
          shown.stands k l n
          ∙ ap₂ (λ x y. stand (status_at t k) x y) (sym (same_lower k l n)) (sym (same_upper k l n));
    }

    -- where rows show t, and their costs are made the form's reduced costs and the artificial bounds 0, they show the
    -- tableau with which phase two begins
    pub begun_shown : (form : Form) (u : Tableau) → IsPricedRow value r form.cost costs →
        phase_two_run None form t ≡ Ok u → Shows value s u
    unfolding phase_two_run
    begun_shown form u priced h =
        let o = then_ok (priced_run None (without_artificials t) form.cost) _ u h in
        let z : with_reduced (without_artificials t) o.0 ≡ u = cc in
        subst (Shows value s) z (begun_with form.cost o.0 priced o.1)
