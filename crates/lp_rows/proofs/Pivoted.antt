-- Rows after a pivot show the tableau after it.
use Rattle.std.proofs.Common.{◌≡◌, ◌≢◌, ℕ, ◌<◌, ◌≤◌, List, length, get_or, Option, Some, None, Bool, true, false}
use Rattle.std.proofs.Common.{cond, nat_eq, nat_le}
use Rattle.std.proofs.Common.{refl, sym, ap, ap₂, ◌∙◌, subst, arith, pos, eq-eqb, ne_eqb}
use Rattle.std.proofs.lemmas.Bool.{le-leb, lt-leb}
use Rattle.std.proofs.lemmas.List.{length-set, ext_get_or}
use Rattle.spec_exact.specs.Fraction.{ℚ, 0ℚ, over, ◌+ℚ◌, ◌-ℚ◌, ◌*ℚ◌, inverse}
use Rattle.spec_exact.proofs.Field.{*ℚ_inverse, *ℚ_one}
use Rattle.spec_exact.proofs.Ruleset.{ring, +ℚ-*ℚ}
use Rattle.spec_pivot.specs.declared.status.Status.{Status}
use Rattle.spec_pivot.specs.declared.status.Status.TheVariants.{Basic}
use Rattle.spec_pivot.specs.Tableau.{Matrix, pivot_row, pivoted, entered}
use Rattle.spec_pivot.specs.Simplex.{Bounds, Table, IsTableau, sign, moved, status_set, after_pivot}
use Rattle.spec_pivot.proofs.Pivot.{by_eq, pivoted_at, pivoted_off}
use Rattle.spec_pivot.proofs.Values.{by_basic}
use Rattle.spec_pivot.proofs.SameEquations.{outside}
use Rattle.spec_pivot.proofs.Ray.{ray_at, ray_basic}
use Rattle.spec_simplex.specs.Tableau.{Tableau, form_columns, all_columns, basic_at, entry_at, value_at, reduced_at}
use Rattle.spec_simplex.specs.Tableau.{status_at, lower_at, upper_at, stand}
use Rattle.spec_simplex.specs.Tables.{table_of, IsTableauOf, KeepsBounds}
use Rattle.spec_simplex.specs.Tables as tables
use Rattle.spec_simplex.proofs.ListIndices.{by_lt, set_reads}
use Rattle.spec_simplex.proofs.Tables.{stand_is}
use Rattle.lp_rows.specs.Ratio.{bound_of}
use Rattle.lp_rows.specs.declared.tableau.tableau.RowTableau.{RowTableau}
use Rattle.lp_rows.specs.Shows.{IsWhole, Shows, row_at, height, width}
use Rattle.lp_rows.specs.Moves.{number_at, number_in, step_to}
use Rattle.lp_rows.specs.Changes.{lower_in, upper_in, status_in, basic_in, left_upper, IsPivoted}
use Rattle.lp_rows.proofs.AfterChoice.{PivotsTo}
use Rattle.lp_rows.proofs.TableauKept.{stood, lower_same, upper_same, fixed_same}
use Rattle.lp_rows.proofs.TableauNumbers.{row_at-one, row_at-on}
use Rattle.lp_rows.proofs.FlippedRows.{along, less_on}

-- where n * c is x, v * c is x - a * theta, and a is not 0, (n - v) / a * c is theta: how far the column moves
moves_by : (n v a c x y theta : ℚ) → n *ℚ c ≡ x → v *ℚ c ≡ y → y ≡ x -ℚ a *ℚ theta → a ≢ 0ℚ →
    (n -ℚ v) *ℚ inverse a *ℚ c ≡ theta
moves_by n v a c x y theta e h l d =
    first n v (inverse a) c
    ∙ ap₂ (λ p q. (p -ℚ q) *ℚ inverse a) e (h ∙ l)
    ∙ second x a theta (inverse a)
    ∙ ap (λ z. theta *ℚ z) (*ℚ_inverse a d)
    ∙ *ℚ_one theta
  where
    first : (n v i c : ℚ) → (n -ℚ v) *ℚ i *ℚ c ≡ (n *ℚ c -ℚ v *ℚ c) *ℚ i
    first n v i c = simp ring

    second : (x a theta i : ℚ) → (x -ℚ (x -ℚ a *ℚ theta)) *ℚ i ≡ theta *ℚ (a *ℚ i)
    second x a theta i = simp ring

-- v + r * s is s * r + v
onward : (v s r : ℚ) → v +ℚ r *ℚ s ≡ s *ℚ r +ℚ v
onward v s r = simp ring

module _ {T : Type 0} (value : T → ℕ) (r s : RowTableau T) (t u : Tableau) (f : Matrix) (cost : ℕ → ℚ) (b : Bounds)
    (g : IsTableau t.rows (all_columns t) f cost b (table_of t)) (tw : tables.IsWhole t) (keeps : KeepsBounds b t)
    (p j : ℕ) (theta : ℚ) (to : Status) (x : PivotsTo b t u p j theta to)
    (m n : ℕ) (after : IsTableauOf m n f cost b u)
    (whole : IsWhole value r) (shows : Shows value r t) (d : IsPivoted value p j to r s) where
  abbrev W : ℕ
  W = width r

  abbrev N : ℕ → ℕ → ℚ
  N = number_in value r.rows.items

  abbrev M : ℕ → ℕ → ℚ
  M = number_in value s.rows.items

  abbrev c : ℚ
  c = over (pos 1) (value r.denominator)

  abbrev step : ℚ
  step = step_to value W p j d.leaves_at r.rows.items

  tab : table_of u ≡ after_pivot t.rows (table_of t) x.way j p x.ratio to
  tab = x.leaves.table

  wide : W ≡ form_columns t
  wide = omega (arith, shows.rows, shows.cols)

  form_same : form_columns u ≡ form_columns t
  form_same = omega (arith, x.leaves.rows, x.leaves.cols)

  all_same : all_columns u ≡ all_columns t
  all_same = omega (arith, x.leaves.rows, x.leaves.cols)

  j_in : j < all_columns t
  j_in = x.exchanges.in_range

  q_in : basic_at t p < all_columns t
  q_in = g.in_range p x.exchanges.position

  j_off : (i : ℕ) → i < t.rows → ¬ (basic_at t i ≡ j)
  j_off = outside t.rows (all_columns t) f cost b (table_of t) g j x.exchanges.nonbasic

  q_is : basic_in r p ≡ basic_at t p
  q_is = ap (λ (l : List ℕ). get_or l p 0) shows.basic

  status_is : (k : ℕ) → status_in r k ≡ status_at t k
  status_is k = ap (λ (l : List Status). get_or l k Basic) shows.status

  entry_is : (i k : ℕ) → i < t.rows → k < form_columns t → entry_at t i k ≡ N i k
  entry_is i k h l = shows.entries i k h l ∙ row_at-one value r.rows.items i k

  value_is : (i : ℕ) → i < t.rows → value_at t (basic_at t i) ≡ N i W *ℚ c
  value_is i h =
      shows.values i h
      ∙ ap (λ k. row_at value (value r.denominator) r.rows.items i k) (sym wide)
      ∙ row_at-on value r.rows.items (value r.denominator) W i W whole.positive whole.each_row
      (omega (arith, h, shows.rows)) (omega arith)

  moved_is : (i : ℕ) → i < t.rows →
      moved t.rows (table_of t) x.way j x.ratio (basic_at t i) ≡ value_at t (basic_at t i) -ℚ N i j *ℚ theta
  moved_is i h =
      ap (λ a. value_at t (basic_at t i) +ℚ x.ratio *ℚ a) (ray_basic t.rows (table_of t) g.units x.way j j_off i h)
      ∙ along (value_at t (basic_at t i)) (entry_at t i j) (sign x.way) x.ratio
      ∙ ap₂ (λ a th. value_at t (basic_at t i) -ℚ a *ℚ th) (entry_is i j h x.before) (sym x.same)

  -- where the column lands that leaves
  lands : d.leaves_at *ℚ c ≡ value_at t (basic_at t p) -ℚ N p j *ℚ theta
  lands =
      d.leaves
      ∙ ap₂ (stand to)
      (ap (lower_in value r) q_is ∙ sym (shows.lower (basic_at t p) q_in) ∙ keeps.lower (basic_at t p) q_in)
      (ap (upper_in value r) q_is ∙ sym (shows.upper (basic_at t p) q_in)
      ∙ keeps.basic (basic_at t p) q_in (g.marked p x.exchanges.position))
      ∙ stand_is to (b.lower (basic_at t p)) (b.upper (basic_at t p))
      (moved t.rows (table_of t) x.way j x.ratio (basic_at t p)) x.exchanges.to_nonbasic x.exchanges.lands
      ∙ moved_is p x.exchanges.position

  step_is : step *ℚ c ≡ theta
  step_is =
      moves_by (N p W) d.leaves_at (N p j) c (value_at t (basic_at t p)) _ theta
      (sym (value_is p x.exchanges.position)) lands refl
      (λ e. x.exchanges.entry (entry_is p j x.exchanges.position x.before ∙ e))

  -- where the column enters from
  enters_is : d.enters_from *ℚ c ≡ value_at t j
  enters_is =
      d.enters
      ∙ ap (λ st. stand st (lower_in value r j) (upper_in value r j)) (status_is j)
      ∙ ap₂ (stand (status_at t j)) (sym (shows.lower j j_in)) (sym (shows.upper j j_in))
      ∙ sym (shows.stands j j_in x.exchanges.nonbasic)

  basic_at_is : (i : ℕ) → basic_at u i ≡ entered (basic_at t) p j i
  basic_at_is i = ap (λ (v : Table). v.basic i) tab

  value_at_is : (k : ℕ) → value_at u k ≡ moved t.rows (table_of t) x.way j x.ratio k
  value_at_is k = ap (λ (v : Table). v.value k) tab

  status_at_is : (k : ℕ) → status_at u k ≡ status_set (status_set (status_at t) (basic_at t p) to) j Basic k
  status_at_is k = ap (λ (v : Table). v.status k) tab

  own_value : value_at u (basic_at u p) ≡ M p W *ℚ c
  own_value =
      ap (value_at u) (basic_at_is p ∙ rw (eq-eqb p p refl) refl)
      ∙ value_at_is j
      ∙ ap (λ a. value_at t j +ℚ x.ratio *ℚ a) (ray_at t.rows (table_of t) g.units x.way j j_off)
      ∙ onward (value_at t j) (sign x.way) x.ratio
      ∙ ap (λ a. a +ℚ value_at t j) (sym x.same)
      ∙ ap₂ (λ k w. k +ℚ w) (sym step_is) (sym enters_is)
      ∙ sym (+ℚ-*ℚ step d.enters_from c)
      ∙ ap (λ a. a *ℚ c) (sym d.rows.own)

  other_value : (i : ℕ) → i < t.rows → i ≢ p → value_at u (basic_at u i) ≡ M i W *ℚ c
  other_value i h o =
      ap (value_at u) (basic_at_is i ∙ rw (ne_eqb i p o) refl)
      ∙ value_at_is (basic_at t i)
      ∙ moved_is i h
      ∙ ap₂ (λ v k. v -ℚ N i j *ℚ k) (value_is i h) (sym step_is)
      ∙ sym (less_on (N i W) (N i j) step c)
      ∙ ap (λ a. a *ℚ c) (sym (d.rows.last i (omega (arith, h, shows.rows)) o))

  new_value : (i : ℕ) → i < t.rows → value_at u (basic_at u i) ≡ M i W *ℚ c
  new_value i h =
      by_eq i p (λ e. subst (λ i. value_at u (basic_at u i) ≡ M i W *ℚ c) (sym e) own_value) (other_value i h)

  pivot_row_is : (k : ℕ) → k < form_columns t → pivot_row (entry_at t) p j k ≡ pivot_row N p j k
  pivot_row_is k l =
      ap₂ (λ a e. a *ℚ inverse e) (entry_is p k x.exchanges.position l) (entry_is p j x.exchanges.position x.before)

  pivoted_is : (i k : ℕ) → i < t.rows → k < form_columns t → pivoted (entry_at t) p j i k ≡ pivoted N p j i k
  pivoted_is i k h l =
      by_eq i p
      (λ e. subst (λ i. pivoted (entry_at t) p j i k ≡ pivoted N p j i k) (sym e)
      (pivoted_at (entry_at t) p j k ∙ pivot_row_is k l ∙ sym (pivoted_at N p j k)))
      (λ o. pivoted_off (entry_at t) p j i k o
      ∙ ap₂ (λ a y. a -ℚ y) (entry_is i k h l)
      (ap₂ (λ a y. a *ℚ y) (entry_is i j h x.before) (pivot_row_is k l))
      ∙ sym (pivoted_off N p j i k o))

  new_entry : (i k : ℕ) → i < t.rows → k < form_columns t → entry_at u i k ≡ M i k
  new_entry i k h l =
      ap (λ (v : Table). v.entry i k) tab
      ∙ pivoted_is i k h l
      ∙ sym (d.rows.entries i k (omega (arith, h, shows.rows)) (omega (arith, l, wide)))

  new_reduced : (k : ℕ) → k < form_columns t → reduced_at u k ≡ number_at value s.costs k
  new_reduced k l =
      ap (λ (v : Table). v.reduced k) tab
      ∙ ap₂ (λ a y. a -ℚ y) (shows.reduced k l) (ap₂ (λ a y. a *ℚ y) (shows.reduced j x.before) (pivot_row_is k l))
      ∙ sym (d.rows.reduced k (omega (arith, l, wide)))

  -- ---- the bounds
  denominators : value s.denominator ≡ value r.denominator
  denominators = ap value d.kept.denominator

  lower_is : (k : ℕ) → k < all_columns t → lower_at u k ≡ lower_in value s k
  lower_is k l =
      lower_same b t u keeps x.leaves.bounds all_same k l
      ∙ shows.lower k l
      ∙ ap₂ (λ e xs. bound_of value e (get_or xs k None)) (sym denominators) (ap (λ v. v.items) (sym d.kept.lower))

  left_other : (q k : ℕ) (v : Option ℚ) → k ≢ q → left_upper W q k v ≡ v
  left_other q k v o = rw (ne_eqb k q o) (same (nat_le W q) v)
    where
      same : (c : Bool) (v : Option ℚ) → cond c v v ≡ v
      same true v = refl
      same false v = refl

  left_before : (q k : ℕ) (v : Option ℚ) → q < W → left_upper W q k v ≡ v
  left_before q k v h = rw (lt-leb W q h) refl

  left_own : (q k : ℕ) (v : Option ℚ) → W ≤ q → k ≡ q → left_upper W q k v ≡ Some 0ℚ
  left_own q k v h e = rw (le-leb W q h, eq-eqb k q e) refl

  status_other : (k : ℕ) → k ≢ j → k ≢ basic_at t p → status_at u k ≡ status_at t k
  status_other k o o' = status_at_is k ∙ rw (ne_eqb k j o, ne_eqb k (basic_at t p) o') refl

  status_left : (k : ℕ) → k ≢ j → k ≡ basic_at t p → status_at u k ≡ to
  status_left k o e = status_at_is k ∙ rw (ne_eqb k j o, eq-eqb k (basic_at t p) e) refl

  upper_by : (k : ℕ) → k < all_columns t → upper_at u k ≡ left_upper W (basic_at t p) k (upper_at t k)
  upper_by k l =
      by_lt k (form_columns t)
      (λ h. upper_same b t u keeps x.leaves.bounds form_same k h
      ∙ sym (by_eq k (basic_at t p)
      (λ e. left_before (basic_at t p) k (upper_at t k) (omega (arith, e, h, wide)))
      (left_other (basic_at t p) k (upper_at t k))))
      (λ h. let o : k ≢ j = λ e. absurd (omega (arith, e, h, x.before)) in
      let after : form_columns u ≤ k = omega (arith, h, form_same) in
      let inside : k < all_columns u = omega (arith, l, all_same) in
      by_eq k (basic_at t p)
      (λ e. x.leaves.bounds.fixed k after inside (λ z. x.exchanges.to_nonbasic (sym (status_left k o e) ∙ z))
      ∙ sym (left_own (basic_at t p) k (upper_at t k) (omega (arith, e, h, wide)) e))
      (λ o'. by_basic (status_at t k)
      (λ z. x.leaves.bounds.basic k inside (status_other k o o' ∙ z) ∙ sym (keeps.basic k l z))
      (λ z. x.leaves.bounds.fixed k after inside (λ y. z (sym (status_other k o o') ∙ y)) ∙ sym (keeps.fixed k h l z))
      ∙ sym (left_other (basic_at t p) k (upper_at t k) o')))

  upper_is : (k : ℕ) → k < all_columns t → upper_at u k ≡ upper_in value s k
  upper_is k l =
      upper_by k l
      ∙ ap₂ (λ q v. left_upper W q k v) (sym q_is) (shows.upper k l)
      ∙ sym (d.upper k (omega (arith, l, shows.rows, shows.cols)))

  -- ---- all of it
  basic_list : s.basic.items ≡ u.basic
  basic_list =
      ext_get_or 0 s.basic.items u.basic
      (ap length d.basic ∙ length-set r.basic.items p j
      ∙ whole.all_basic ∙ shows.rows ∙ sym x.leaves.rows ∙ sym x.leaves.whole.all_basic)
      (λ i h. ap (λ (l : List ℕ). get_or l i 0) d.basic
      ∙ set_reads r.basic.items p j 0 (omega (arith, x.exchanges.position, whole.all_basic, shows.rows)) i
      ∙ ap (λ k. cond (nat_eq i p) j k) (ap (λ (l : List ℕ). get_or l i 0) shows.basic)
      ∙ sym (basic_at_is i))

  status_list : s.status.items ≡ u.status
  status_list =
      ext_get_or Basic s.status.items u.status
      (ap length d.status ∙ length-set _ j Basic ∙ length-set r.status.items (basic_in r p) to
      ∙ whole.all_statuses ∙ omega (arith, shows.rows, shows.cols, all_same) ∙ sym x.leaves.whole.all_statuses)
      (λ k h. ap (λ (l : List Status). get_or l k Basic) d.status
      ∙ set_reads _ j Basic Basic (omega (
        arith,
        length-set r.status.items (basic_in r p) to,
        whole.all_statuses,
        shows.rows,
        shows.cols,
        j_in,
      )) k
      ∙ ap (λ v. cond (nat_eq k j) Basic v)
      (set_reads r.status.items (basic_in r p) to Basic
      (omega (arith, whole.all_statuses, shows.rows, shows.cols, q_in, q_is)) k
      ∙ ap₂ (λ q v. cond (nat_eq k q) to v) q_is (status_is k))
      ∙ sym (status_at_is k))

  heights : height s ≡ u.rows
  heights = d.rows.len ∙ shows.rows ∙ sym x.leaves.rows

  -- where the rows r show t, and a pivot takes r to s and t to u, the rows s show u
  pub pivot_shows : Shows value s u
  pivot_shows = record {
    rows = heights;
    cols = d.kept.cols ∙ shows.cols ∙ sym x.leaves.cols;
    basic = basic_list;
    status = status_list;
    entries = λ i k h l.
        new_entry i k (omega (arith, h, x.leaves.rows)) (omega (arith, l, form_same))
        ∙ sym (row_at-one value s.rows.items i k);
    values = λ i h.
        let h' : i < t.rows = omega (arith, h, x.leaves.rows) in
        new_value i h'
        ∙ sym (row_at-on value s.rows.items (value r.denominator) W i W whole.positive d.rows.rows
        (omega (arith, h', shows.rows, d.rows.len)) (omega arith))
        ∙ ap₂ (λ e k. row_at value e s.rows.items i k) (sym denominators) (wide ∙ sym form_same);
    reduced = λ k l. new_reduced k (omega (arith, l, form_same));
    lower = λ k l. lower_is k (omega (arith, l, all_same));
    upper = λ k l. upper_is k (omega (arith, l, all_same));
    fixed = λ k l.
        fixed_same b t u (λ k. get_or r.fixed.items k false) keeps x.leaves.bounds form_same all_same shows.fixed k
        (omega (arith, l, form_same))
        ∙ ap (λ v. get_or v.items k false) (sym d.kept.fixed);
    stands = λ k l. stood m n f cost b u after k l;
  }
