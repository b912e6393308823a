-- Rows after a flip show the tableau after the flip.
--
-- `along`: v + r * -(s * a) is v - a * (s * r).
-- `less_on`: (n - a * k) * c is n * c - a * (k * c).
use Rattle.std.proofs.Common.{◌≡◌, ◌≢◌, ℕ, ◌<◌, ◌≤◌, List, length, get_or, None, false, cond, nat_eq}
use Rattle.std.proofs.Common.{refl, sym, ap, ap₂, ◌∙◌, arith, pos, ne_eqb}
use Rattle.std.proofs.lemmas.List.{length-set, ext_get_or}
use Rattle.spec_exact.specs.Fraction.{ℚ, over, ◌+ℚ◌, ◌-ℚ◌, ◌*ℚ◌, neg_ℚ}
use Rattle.spec_exact.proofs.Ruleset.{ring}
use Rattle.spec_pivot.specs.declared.status.Status.{Status}
use Rattle.spec_pivot.specs.declared.status.Status.TheVariants.{Basic}
use Rattle.spec_pivot.specs.Tableau.{Matrix}
use Rattle.spec_pivot.specs.Simplex.{Bounds, Table, IsTableau, sign, status_set, after_flip}
use Rattle.spec_pivot.proofs.Values.{by_basic}
use Rattle.spec_pivot.proofs.SameEquations.{outside}
use Rattle.spec_pivot.proofs.Ray.{ray_basic}
use Rattle.spec_simplex.specs.Tableau.{Tableau, form_columns, all_columns, basic_at, entry_at, value_at, reduced_at}
use Rattle.spec_simplex.specs.Tableau.{status_at, lower_at, upper_at, or_zero}
use Rattle.spec_simplex.specs.Step.{directed, other_bound, flip_way}
use Rattle.spec_simplex.specs.Tables.{table_of, IsTableauOf, KeepsBounds}
use Rattle.spec_simplex.proofs.ListIndices.{by_lt, set_reads}
use Rattle.spec_simplex.proofs.Flips.{directed_is}
use Rattle.lp_rows.specs.declared.fractions.Row.{Row}
use Rattle.lp_rows.specs.Ratio.{bound_of}
use Rattle.lp_rows.specs.declared.tableau.tableau.RowTableau.{RowTableau}
use Rattle.lp_rows.specs.Shows.{IsWhole, Shows, row_at, width}
use Rattle.lp_rows.specs.Moves.{number_at, number_in}
use Rattle.lp_rows.specs.Changes.{lower_in, upper_in, status_in, IsFlipped}
use Rattle.lp_rows.proofs.AfterChoice.{FlipsTo}
use Rattle.lp_rows.proofs.TableauKept.{stood, lower_same, upper_same, fixed_same}
use Rattle.lp_rows.proofs.TableauNumbers.{row_at-one, row_at-on}

pub along : (v a s r : ℚ) → v +ℚ r *ℚ neg_ℚ (s *ℚ a) ≡ v -ℚ a *ℚ (s *ℚ r)
along v a s r = simp ring

pub less_on : (n a k c : ℚ) → (n -ℚ a *ℚ k) *ℚ c ≡ n *ℚ c -ℚ a *ℚ (k *ℚ c)
less_on n a k c = simp ring

module _ {T : Type 0} (value : T → ℕ) (r s : RowTableau T) (t u : Tableau) (f : Matrix) (cost : ℕ → ℚ) (b : Bounds)
    (g : IsTableau t.rows (all_columns t) f cost b (table_of t)) (keeps : KeepsBounds b t)
    (j : ℕ) (x : FlipsTo b t u j) (m n : ℕ) (after : IsTableauOf m n f cost b u)
    (whole : IsWhole value r) (shows : Shows value r t) (d : IsFlipped value j r s) where
  abbrev W : ℕ
  W = width r

  abbrev N : ℕ → ℕ → ℚ
  N = number_in value r.rows.items

  abbrev M : ℕ → ℕ → ℚ
  M = number_in value s.rows.items

  abbrev c : ℚ
  c = over (pos 1) (value r.denominator)

  tab : table_of u ≡ after_flip t.rows (table_of t) x.way j x.ratio (other_bound x.way)
  tab = x.leaves.table

  wide : W ≡ form_columns t
  wide = omega (arith, shows.rows, shows.cols)

  form_same : form_columns u ≡ form_columns t
  form_same = omega (arith, x.leaves.rows, x.leaves.cols)

  all_same : all_columns u ≡ all_columns t
  all_same = omega (arith, x.leaves.rows, x.leaves.cols)

  j_in : j < all_columns t
  j_in = x.crosses.in_range

  j_off : (i : ℕ) → i < t.rows → ¬ (basic_at t i ≡ j)
  j_off = outside t.rows (all_columns t) f cost b (table_of t) g j x.crosses.nonbasic

  status_is : (k : ℕ) → status_in r k ≡ status_at t k
  status_is k = ap (λ (l : List Status). get_or l k Basic) shows.status

  up_is : flip_way (status_in r j) ≡ x.way
  up_is = ap flip_way (status_is j) ∙ x.way_is

  entry_is : (i k : ℕ) → i < t.rows → k < form_columns t → entry_at t i k ≡ N i k
  entry_is i k h l = shows.entries i k h l ∙ row_at-one value r.rows.items i k

  value_is : (i : ℕ) → i < t.rows → value_at t (basic_at t i) ≡ N i W *ℚ c
  value_is i h =
      shows.values i h
      ∙ ap (λ k. row_at value (value r.denominator) r.rows.items i k) (sym wide)
      ∙ row_at-on value r.rows.items (value r.denominator) W i W whole.positive whole.each_row
      (omega (arith, h, shows.rows)) (omega arith)

  -- how far column j moves
  theta_is : d.by *ℚ c ≡ sign x.way *ℚ x.ratio
  theta_is =
      d.range
      ∙ ap₂ directed up_is
      (ap₂ (λ v w. or_zero v -ℚ or_zero w) (sym (shows.upper j j_in)) (sym (shows.lower j j_in)) ∙ sym x.range)
      ∙ directed_is x.way x.ratio

  basic_at_is : (i : ℕ) → basic_at u i ≡ basic_at t i
  basic_at_is i = ap (λ (v : Table). v.basic i) tab

  status_at_is : (k : ℕ) → status_at u k ≡ status_set (status_at t) j (other_bound x.way) k
  status_at_is k = ap (λ (v : Table). v.status k) tab

  new_value : (i : ℕ) → i < t.rows → value_at u (basic_at u i) ≡ M i W *ℚ c
  new_value i h =
      ap (value_at u) (basic_at_is i)
      ∙ ap (λ (v : Table). v.value (basic_at t i)) tab
      ∙ ap (λ a. value_at t (basic_at t i) +ℚ x.ratio *ℚ a)
      (ray_basic t.rows (table_of t) g.units x.way j j_off i h)
      ∙ along (value_at t (basic_at t i)) (entry_at t i j) (sign x.way) x.ratio
      ∙ ap₂ (λ v k. v -ℚ k) (value_is i h) (ap₂ (λ a k. a *ℚ k) (entry_is i j h x.before) (sym theta_is))
      ∙ sym (less_on (N i W) (N i j) d.by c)
      ∙ ap (λ a. a *ℚ c) (sym (d.rows.last i (omega (arith, h, shows.rows))))

  new_entry : (i k : ℕ) → i < t.rows → k < form_columns t → entry_at u i k ≡ M i k
  new_entry i k h l =
      ap (λ (v : Table). v.entry i k) tab
      ∙ entry_is i k h l
      ∙ sym (d.rows.others i k (omega (arith, h, shows.rows)) (omega (arith, l, wide)))

  new_reduced : (k : ℕ) → k < form_columns t → reduced_at u k ≡ number_at value s.costs k
  new_reduced k l =
      ap (λ (v : Table). v.reduced k) tab ∙ shows.reduced k l ∙ ap (λ (z : Row T). number_at value z k) (sym d.costs)

  denominators : value s.denominator ≡ value r.denominator
  denominators = ap value d.kept.denominator

  lower_is : (k : ℕ) → k < all_columns t → lower_at u k ≡ lower_in value s k
  lower_is k l =
      lower_same b t u keeps x.leaves.bounds all_same k l
      ∙ shows.lower k l
      ∙ ap₂ (λ e xs. bound_of value e (get_or xs k None)) (sym denominators) (ap (λ v. v.items) (sym d.kept.lower))

  status_other : (k : ℕ) → k ≢ j → status_at u k ≡ status_at t k
  status_other k o = status_at_is k ∙ rw (ne_eqb k j o) refl

  upper_by : (k : ℕ) → k < all_columns t → upper_at u k ≡ upper_at t k
  upper_by k l =
      by_lt k (form_columns t)
      (λ h. upper_same b t u keeps x.leaves.bounds form_same k h)
      (λ h. let o : k ≢ j = λ e. absurd (omega (arith, e, h, x.before)) in
      let after : form_columns u ≤ k = omega (arith, h, form_same) in
      let inside : k < all_columns u = omega (arith, l, all_same) in
      by_basic (status_at t k)
      (λ z. x.leaves.bounds.basic k inside (status_other k o ∙ z) ∙ sym (keeps.basic k l z))
      (λ z. x.leaves.bounds.fixed k after inside (λ y. z (sym (status_other k o) ∙ y)) ∙ sym (keeps.fixed k h l z)))

  upper_is : (k : ℕ) → k < all_columns t → upper_at u k ≡ upper_in value s k
  upper_is k l =
      upper_by k l
      ∙ shows.upper k l
      ∙ ap₂ (λ e xs. bound_of value e (get_or xs k None)) (sym denominators) (ap (λ v. v.items) (sym d.upper))

  basic_list : s.basic.items ≡ u.basic
  basic_list =
      ap (λ v. v.items) d.basic ∙ shows.basic
      ∙ ext_get_or 0 t.basic u.basic (lengths ∙ sym x.leaves.whole.all_basic)
      (λ i h. sym (basic_at_is i))
    where
      lengths : length t.basic ≡ u.rows
      lengths = ap length (sym shows.basic) ∙ whole.all_basic ∙ shows.rows ∙ sym x.leaves.rows

  status_list : s.status.items ≡ u.status
  status_list =
      ext_get_or Basic s.status.items u.status
      (ap length d.status ∙ length-set r.status.items j _
      ∙ whole.all_statuses ∙ omega (arith, shows.rows, shows.cols, all_same) ∙ sym x.leaves.whole.all_statuses)
      (λ k h. ap (λ (l : List Status). get_or l k Basic) d.status
      ∙ set_reads r.status.items j _ Basic (omega (arith, whole.all_statuses, shows.rows, shows.cols, j_in)) k
      ∙ ap₂ (λ v w. cond (nat_eq k j) (other_bound v) w) up_is (status_is k)
      ∙ sym (status_at_is k))

  -- where the rows r show t, and a flip takes r to s and t to u, the rows s show u
  pub flip_shows : Shows value s u
  flip_shows = record {
    rows = d.rows.len ∙ shows.rows ∙ sym x.leaves.rows;
    cols = d.kept.cols ∙ shows.cols ∙ sym x.leaves.cols;
    basic = basic_list;
    status = status_list;
    entries = λ i k h l.
        new_entry i k (omega (arith, h, x.leaves.rows)) (omega (arith, l, form_same))
        ∙ sym (row_at-one value s.rows.items i k);
    values = λ i h.
        let h' : i < t.rows = omega (arith, h, x.leaves.rows) in
        new_value i h'
        ∙ sym (row_at-on value s.rows.items (value r.denominator) W i W whole.positive d.rows.rows
        (omega (arith, h', shows.rows, d.rows.len)) (omega arith))
        ∙ ap₂ (λ e k. row_at value e s.rows.items i k) (sym denominators) (wide ∙ sym form_same);
    reduced = λ k l. new_reduced k (omega (arith, l, form_same));
    lower = λ k l. lower_is k (omega (arith, l, all_same));
    upper = λ k l. upper_is k (omega (arith, l, all_same));
    fixed = λ k l.
        fixed_same b t u (λ k. get_or r.fixed.items k false) keeps x.leaves.bounds form_same all_same shows.fixed k
        (omega (arith, l, form_same))
        ∙ ap (λ v. get_or v.items k false) (sym d.kept.fixed);
    stands = λ k l. stood m n f cost b u after k l;
  }
