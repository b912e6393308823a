-- A pivot of the run is a pivot of the table.
use Rattle.std.proofs.Common.{◌≡◌, ◌≢◌, ℕ, ◌<◌, ◌≤◌, List, length, get_or, set, Option, Some, None, Ok, Bool}
use Rattle.std.proofs.Common.{true, false, cond, nat_eq, refl, sym, ap, ap₂, ◌∙◌, subst, arith, eq-eqb, ne_eqb}
use Rattle.std.proofs.lemmas.Bool.{eqb-true, le-leb, lt-leb}
use Rattle.std.proofs.lemmas.List.{length-set, get_or-set_same, get_or-set_other, get_or_past}
use Rattle.spec_exact.specs.Fraction.{ℚ, 0ℚ, ◌+ℚ◌, ◌-ℚ◌, ◌*ℚ◌}
use Rattle.spec_exact.proofs.Ruleset.{ring}
use Rattle.spec_pivot.specs.declared.status.Status.{Status}
use Rattle.spec_pivot.specs.declared.status.Status.TheVariants.{Basic}
use Rattle.spec_pivot.specs.declared.status.Way.{Way}
use Rattle.spec_pivot.specs.Tableau.{Matrix, pivot_row}
use Rattle.spec_pivot.specs.Simplex.{Bounds, Table, IsTableau, sign, moved, status_set, after_pivot, Exchanges}
use Rattle.spec_pivot.proofs.Pivot.{by_eq, pivot_row_zero}
use Rattle.spec_pivot.proofs.SameEquations.{outside}
use Rattle.spec_pivot.proofs.Ray.{ray_at}
use Rattle.spec_exact.specs.Run.{sum_run, less_product}
use Rattle.spec_simplex.specs.Tableau.{Tableau, form_columns, all_columns, is_artificial, at_place, basic_at}
use Rattle.spec_simplex.specs.Tableau.{entry_at, value_at, reduced_at, status_at, lower_at, upper_at, stand}
use Rattle.spec_simplex.specs.Step.{moved_run, shifted_run, turned_run, repriced_run}
use Rattle.spec_simplex.specs.Step.{leave_bound, exchanged, turned, pivot_run}
use Rattle.spec_simplex.specs.Tables.{table_of, IsWhole, KeepsBounds}
use Rattle.spec_simplex.proofs.RunParts.{then_ok, sum_ok, less_ok, IsListOf, list_ok}
use Rattle.spec_simplex.proofs.ListIndices.{by_lt, set_reads, past_row}
use Rattle.spec_simplex.proofs.Moved.{moved_length, moved_own, moved_ray}
use Rattle.spec_simplex.proofs.PivotedRows.{turned_rows, turned_whole, turned_own, turned_entry}
use Rattle.spec_simplex.proofs.Tables.{same_table, stand_is}

-- a step leaves the tableau u, which is v as a table. u has the sizes of t and whole lists, and keeps the bounds b
pub record Leaves (b : Bounds) (t u : Tableau) (v : Table) : Type 0 where
  pub rows : u.rows ≡ t.rows
  pub cols : u.cols ≡ t.cols
  pub whole : IsWhole u
  pub table : table_of u ≡ v
  pub bounds : KeepsBounds b u

-- a column that is not barred is a column of the form, and so no artificial one
pub enters_before : (b : Bounds) (t : Tableau) (k : ℕ) → KeepsBounds b t → b.barred k ≡ false → k < form_columns t
enters_before b t k keeps h =
    by_lt k (form_columns t) (λ l. l) (λ l. let e : true ≡ false = sym (keeps.barred k l) ∙ h in cc)

-- the run computes each new reduced cost from the old one and the pivot's row
repriced_is : (limit : Option ℕ) (n : ℕ) (reduced : List ℚ) (rows : List (List ℚ)) (p j : ℕ) (out : List ℚ) →
    repriced_run limit n reduced rows p j ≡ Ok out
    → IsListOf n (λ k. less_product limit (get_or reduced j 0ℚ) (at_place rows p k) (get_or reduced k 0ℚ)) 0ℚ out
unfolding repriced_run
repriced_is limit n reduced rows p j out h =
    list_ok n (λ k. less_product limit (get_or reduced j 0ℚ) (at_place rows p k) (get_or reduced k 0ℚ)) 0ℚ out h

module _ (limit : Option ℕ) (t : Tableau) (w : IsWhole t) (f : Matrix) (cost : ℕ → ℚ) (b : Bounds)
    (g : IsTableau t.rows (all_columns t) f cost b (table_of t)) (keeps : KeepsBounds b t)
    (way : Way) (j p : ℕ) (ratio : ℚ) (to : Status)
    (v : Exchanges t.rows (all_columns t) b (table_of t) way j p ratio to) (open_ : b.barred j ≡ false) where
  -- the column that is basic at position p before the pivot, and leaves
  abbrev q : ℕ
  q = basic_at t p

  -- column j is a column of the tableau t
  j_in : j < all_columns t
  j_in = v.in_range

  -- column j is structural or logical, as it is not barred from entering
  j_before : j < form_columns t
  j_before = enters_before b t j keeps open_

  -- the leaving column is a column of the tableau t
  q_in : q < all_columns t
  q_in = g.in_range p v.position

  -- column j is basic at no position of t
  j_off : (r : ℕ) → r < t.rows → ¬ (basic_at t r ≡ j)
  j_off = outside t.rows (all_columns t) f cost b (table_of t) g j v.nonbasic

  -- the leaving column is not column j
  q_other : q ≢ j
  q_other = j_off p v.position

  -- the leaving column is basic in t
  q_basic : status_at t q ≡ Basic
  q_basic = g.marked p v.position

  module _ (values : List ℚ) (values_ok : moved_run limit t j (sign way *ℚ ratio) (Some p) ≡ Ok values)
      (x : ℚ) (x_ok : sum_run limit (get_or values j 0ℚ) (sign way *ℚ ratio) ≡ Ok x)
      (rows : List (List ℚ)) (rows_ok : turned_run limit t.rows (all_columns t) t.entries p j ≡ Ok rows)
      (reduced : List ℚ) (reduced_ok : repriced_run limit (all_columns t) t.reduced rows p j ≡ Ok reduced) where
    abbrev u : Tableau
    u = exchanged (turned t (set values j x) rows reduced) p j to

    -- the moved values are as many as t has columns
    values_length : length values ≡ all_columns t
    values_length = moved_length limit t w f cost b g j (sign way *ℚ ratio) (Some p) values values_ok

    -- the new reduced costs are the results of the operations on each column, in order
    reduced_list : IsListOf (all_columns t)
        (λ k. less_product limit (get_or t.reduced j 0ℚ) (at_place rows p k) (get_or t.reduced k 0ℚ)) 0ℚ reduced
    reduced_list = repriced_is limit (all_columns t) t.reduced rows p j reduced reduced_ok

    -- fixing an artificial that leaves keeps the number of bounds
    leave_length : (bounds : List (Option ℚ)) → length (leave_bound t q bounds) ≡ length bounds
    leave_length bounds = by (is_artificial t q)
      where
        by : (c : Bool) → length (cond c (set bounds q (Some 0ℚ)) bounds) ≡ length bounds
        by true = length-set bounds q (Some 0ℚ)
        by false = refl

    -- fixing an artificial that leaves keeps the bounds of each other column
    leave_other : (bounds : List (Option ℚ)) (k : ℕ) → k ≢ q →
        get_or (leave_bound t q bounds) k None ≡ get_or bounds k None
    leave_other bounds k d = by (is_artificial t q)
      where
        by : (c : Bool) → get_or (cond c (set bounds q (Some 0ℚ)) bounds) k None ≡ get_or bounds k None
        by true = get_or-set_other bounds q k (Some 0ℚ) None d
        by false = refl

    -- an artificial that leaves gets the bound 0
    leave_same : (bounds : List (Option ℚ)) → q < length bounds → form_columns t ≤ q →
        get_or (leave_bound t q bounds) q None ≡ Some 0ℚ
    leave_same bounds h l = rw (le-leb (form_columns t) q l) (get_or-set_same bounds q (Some 0ℚ) None h)

    -- where the leaving column is no artificial, all bounds stay
    leave_before : (bounds : List (Option ℚ)) → q < form_columns t →
        get_or (leave_bound t q bounds) q None ≡ get_or bounds q None
    leave_before bounds l = rw (lt-leb (form_columns t) q l) refl

    -- the tableau after the pivot has lists of the right lengths
    u_whole : IsWhole u
    u_whole = record {
      all_rows = turned_rows limit t.rows (all_columns t) t.entries w.all_rows w.whole_rows p j v.position rows rows_ok;
      whole_rows =
          turned_whole limit t.rows (all_columns t) t.entries w.all_rows w.whole_rows p j v.position rows rows_ok;
      all_basic = length-set t.basic p j ∙ w.all_basic;
      all_values =
          length-set (set values j x) q (stand to (lower_at t q) (upper_at t q))
          ∙ length-set values j x ∙ values_length;
      all_reduced = reduced_list.all;
      all_statuses = length-set (set t.status q to) j Basic ∙ length-set t.status q to ∙ w.all_statuses;
      all_lower = leave_length t.lower ∙ w.all_lower;
      all_upper = leave_length t.upper ∙ w.all_upper;
    }

    -- after the run's pivot each column has the value that it has along the ray
    value_is : (k : ℕ) → value_at u k ≡ moved t.rows (table_of t) way j ratio k
    value_is k =
        by_eq k q
        (λ e. subst (λ k. value_at u k ≡ moved t.rows (table_of t) way j ratio k) (sym e)
        (get_or-set_same (set values j x) q (stand to (lower_at t q) (upper_at t q)) 0ℚ
        (omega (arith, length-set values j x, values_length, q_in))
        ∙ ap₂ (stand to) (keeps.lower q q_in) (keeps.basic q q_in q_basic)
        ∙ stand_is to (b.lower q) (b.upper q) (moved t.rows (table_of t) way j ratio q) v.to_nonbasic v.lands))
        (λ d. get_or-set_other (set values j x) q k (stand to (lower_at t q) (upper_at t q)) 0ℚ d
        ∙ by_eq k j
        (λ e. subst (λ k. get_or (set values j x) k 0ℚ ≡ moved t.rows (table_of t) way j ratio k) (sym e)
        (get_or-set_same values j x 0ℚ (omega (arith, values_length, j_in))
        ∙ sum_ok limit (get_or values j 0ℚ) (sign way *ℚ ratio) x x_ok
        ∙ ap (λ a. a +ℚ sign way *ℚ ratio)
        (moved_own limit t w f cost b g j (sign way *ℚ ratio) (Some p) values values_ok way j_off ratio refl)
        ∙ turn (value_at t j) (sign way) ratio
        ∙ sym (ap (λ a. value_at t j +ℚ ratio *ℚ a) (ray_at t.rows (table_of t) g.units way j j_off))))
        (λ o. get_or-set_other values j k x 0ℚ o
        ∙ moved_ray limit t w f cost b g j (sign way *ℚ ratio) (Some p) values values_ok way j_off ratio refl k o
        (λ r l s e. d (sym e ∙ ap (basic_at t) (eqb-true r p s)))))
      where
        turn : (v s r : ℚ) → v +ℚ s *ℚ r ≡ v +ℚ r *ℚ s
        turn v s r = simp ring

    -- after the run's pivot the reduced cost of column k is the old one less that of column j times the new pivot row's
    -- entry
    reduced_is : (k : ℕ) → reduced_at u k ≡ reduced_at t k -ℚ reduced_at t j *ℚ pivot_row (entry_at t) p j k
    reduced_is k =
        by_lt k (all_columns t)
        (λ l. less_ok limit (reduced_at t j) (at_place rows p k)
        (reduced_at t k) (get_or reduced k 0ℚ) (reduced_list.each k l)
        ∙ ap (λ a. reduced_at t k -ℚ reduced_at t j *ℚ a)
        (turned_own limit t.rows (all_columns t) t.entries w.all_rows w.whole_rows p j v.position rows rows_ok k))
        (λ l. get_or_past reduced k 0ℚ (omega (arith, reduced_list.all, l))
        ∙ sym (ap₂ (λ a c. a -ℚ reduced_at t j *ℚ c) (get_or_past t.reduced k 0ℚ (omega (arith, w.all_reduced, l)))
        (pivot_row_zero (entry_at t) p j k (past_row t.entries p k (all_columns t) (w.whole_rows p v.position) l))
        ∙ none (reduced_at t j)))
      where
        none : (a : ℚ) → 0ℚ -ℚ a *ℚ 0ℚ ≡ 0ℚ
        none a = simp ring

    -- after the run's pivot column j is basic, the column that left has the status `to`, and each other one its old one
    status_is : (k : ℕ) → status_at u k ≡ status_set (status_set (status_at t) q to) j Basic k
    status_is k =
        set_reads (set t.status q to) j Basic Basic (omega (arith, length-set t.status q to, w.all_statuses, j_in)) k
        ∙ ap (λ s. cond (nat_eq k j) Basic s) (set_reads t.status q to Basic (omega (arith, w.all_statuses, q_in)) k)

    -- after the run's pivot the table is that after the pivot of the table
    table_is : table_of u ≡ after_pivot t.rows (table_of t) way j p ratio to
    table_is =
        same_table (table_of u) (after_pivot t.rows (table_of t) way j p ratio to)
        (turned_entry limit t.rows (all_columns t) t.entries w.all_rows w.whole_rows p j v.position rows rows_ok)
        (set_reads t.basic p j 0 (omega (arith, w.all_basic, v.position)))
        value_is reduced_is status_is

    -- what follows where k is column j, where it is the leaving column, with the status `to`, and where it is another
    -- one, with its old status, holds
    by_status : {P : Type 0} (k : ℕ) → (k ≡ j → P) → (k ≡ q → status_at u k ≡ to → P) →
        (k ≢ q → status_at u k ≡ status_at t k → P) → P
    by_status {P} k f h i =
        by_eq k j f (λ o. by_eq k q (λ e. h e (status_is k ∙ off o ∙ rw (eq-eqb k q e) refl))
        (λ d. i d (status_is k ∙ off o ∙ rw (ne_eqb k q d) refl)))
      where
        off : k ≢ j → status_set (status_set (status_at t) q to) j Basic k ≡ status_set (status_at t) q to k
        off o = rw (ne_eqb k j o) refl

    -- the tableau after the pivot keeps the bounds b
    u_bounds : KeepsBounds b u
    u_bounds = record {
      lower = λ k l. by_eq k q
          (λ e. subst (λ k. lower_at u k ≡ b.lower k) (sym e)
          (by_lt q (form_columns t) (λ z. leave_before t.lower z ∙ keeps.lower q q_in)
          (λ z. leave_same t.lower (omega (arith, w.all_lower, q_in)) z ∙ sym (keeps.zero q z q_in))))
          (λ d. leave_other t.lower k d ∙ keeps.lower k l);
      upper = λ k l. by_eq k q
          (λ e. subst (λ k. upper_at u k ≡ b.upper k) (sym e)
          (leave_before t.upper (subst (λ k. k < form_columns t) e l)
          ∙ keeps.upper q (subst (λ k. k < form_columns t) e l)))
          (λ d. leave_other t.upper k d ∙ keeps.upper k l);
      entering = keeps.entering;
      barred = keeps.barred;
      zero = keeps.zero;
      top = keeps.top;
      basic = λ k l s. by_status k
          (λ e. subst (λ k. upper_at u k ≡ b.upper k) (sym e)
          (leave_other t.upper j (λ e. q_other (sym e)) ∙ keeps.upper j j_before))
          (λ e z. absurd (v.to_nonbasic (sym z ∙ s)))
          (λ d z. leave_other t.upper k d ∙ keeps.basic k l (sym z ∙ s));
      fixed = λ k h l s. by_status k
          (λ e. absurd (let z : ⊥ = omega (arith, e, h, j_before) in z))
          (λ e z. subst (λ k. upper_at u k ≡ Some 0ℚ) (sym e)
          (leave_same t.upper (omega (arith, w.all_upper, q_in)) (subst (λ k. form_columns t ≤ k) e h)))
          (λ d z. leave_other t.upper k d ∙ keeps.fixed k h l (λ y. s (z ∙ y)));
    }

    -- the tableau after the pivot is, as a table, the one after a pivot of columns j and q, with the lists and bounds
    -- to match
    leaves : Leaves b t u (after_pivot t.rows (table_of t) way j p ratio to)
    leaves = record { rows = refl; cols = refl; whole = u_whole; table = table_is; bounds = u_bounds }

  -- a pivot of the run leaves the table that a pivot of the table leaves, with the statuses and bounds to match
  pub pivot_leaves : (u : Tableau) → pivot_run limit t p j (sign way *ℚ ratio) to ≡ Ok u →
      Leaves b t u (after_pivot t.rows (table_of t) way j p ratio to)
  unfolding pivot_run shifted_run
  pivot_leaves u h =
      let a = then_ok (moved_run limit t j (sign way *ℚ ratio) (Some p)) _ u h in
      let s = then_ok (shifted_run limit a.0 j (sign way *ℚ ratio)) _ u a.2 in
      let c = then_ok (sum_run limit (get_or a.0 j 0ℚ) (sign way *ℚ ratio)) (λ v. Ok (set a.0 j v)) s.0 s.1 in
      let d = then_ok (turned_run limit t.rows (all_columns t) t.entries p j) _ u s.2 in
      let e = then_ok (repriced_run limit (all_columns t) t.reduced d.0 p j) _ u d.2 in
      let y : set a.0 j c.0 ≡ s.0 = cc in
      let x : exchanged (turned t s.0 d.0 e.0) p j to ≡ u = cc in
      let z : exchanged (turned t (set a.0 j c.0) d.0 e.0) p j to ≡ u =
      ap (λ values. exchanged (turned t values d.0 e.0) p j to) y ∙ x in
      subst (λ u. Leaves b t u (after_pivot t.rows (table_of t) way j p ratio to)) z
      (leaves a.0 a.1 c.0 c.1 d.0 d.1 e.0 e.1)
