-- A flip of the run is a flip of the table.
use Rattle.std.proofs.Common.{◌≡◌, ◌≢◌, ℕ, ◌<◌, List, length, Option, None, Ok, true}
use Rattle.std.proofs.Common.{false, refl, sym, ap, ap₂, ◌∙◌, subst, arith, eq-eqb, ne_eqb}
use Rattle.std.proofs.lemmas.List.{length-set, get_or-set_same, get_or-set_other}
use Rattle.spec_exact.specs.Fraction.{ℚ, 0ℚ, 1ℚ, ◌-ℚ◌, ◌*ℚ◌, neg_ℚ}
use Rattle.spec_exact.proofs.Ruleset.{ring}
use Rattle.spec_pivot.specs.declared.status.Status.{Status}
use Rattle.spec_pivot.specs.declared.status.Status.TheVariants.{Basic}
use Rattle.spec_pivot.specs.declared.status.Way.{Way}
use Rattle.spec_pivot.specs.declared.status.Way.TheVariants.{Up, Down}
use Rattle.spec_pivot.specs.Tableau.{Matrix}
use Rattle.spec_pivot.specs.Simplex.{Bounds, IsTableau, sign, moved, status_set, after_flip, Crosses}
use Rattle.spec_pivot.proofs.Pivot.{by_eq}
use Rattle.spec_pivot.proofs.SameEquations.{outside}
use Rattle.spec_exact.specs.Run.{Run, ◌>>=◌, difference_run}
use Rattle.spec_simplex.specs.Tableau.{Tableau, form_columns, all_columns, value_at}
use Rattle.spec_simplex.specs.Tableau.{status_at, lower_at, upper_at, or_zero, stand}
use Rattle.spec_simplex.specs.Step.{directed, other_bound, moved_run, flip_way, flipped, flip_run}
use Rattle.spec_simplex.specs.Tables.{table_of, IsWhole, KeepsBounds}
use Rattle.spec_simplex.proofs.RunParts.{then_ok, difference_ok}
use Rattle.spec_simplex.proofs.ListIndices.{set_reads}
use Rattle.spec_simplex.proofs.Moved.{moved_length, moved_ray}
use Rattle.spec_simplex.proofs.Tables.{same_table, stand_is}
use Rattle.spec_simplex.proofs.Pivots.{Leaves, enters_before}

-- `directed` of a number is the sign of the entering column's way times the number
pub directed_is : (way : Way) (v : ℚ) → directed way v ≡ sign way *ℚ v
directed_is Up v = rise v
  where
    rise : (v : ℚ) → v ≡ 1ℚ *ℚ v
    rise v = simp ring
directed_is Down v = fall v
  where
    fall : (v : ℚ) → neg_ℚ v ≡ neg_ℚ 1ℚ *ℚ v
    fall v = simp ring

module _ (limit : Option ℕ) (t : Tableau) (w : IsWhole t) (f : Matrix) (cost : ℕ → ℚ) (b : Bounds)
    (g : IsTableau t.rows (all_columns t) f cost b (table_of t)) (keeps : KeepsBounds b t)
    (way : Way) (j : ℕ) (ratio : ℚ)
    (v : Crosses t.rows (all_columns t) b (table_of t) way j ratio (other_bound way))
    (open_ : b.barred j ≡ false) where
  -- the bound at which column j ends as it moves its way
  abbrev to : Status
  to = other_bound way

  -- column j is a column of the tableau t
  j_in : j < all_columns t
  j_in = v.in_range

  -- column j is structural or logical, as it is not barred from entering
  j_before : j < form_columns t
  j_before = enters_before b t j keeps open_

  module _ (theta : ℚ) (same : theta ≡ sign way *ℚ ratio) (values : List ℚ)
      (values_ok : moved_run limit t j theta None ≡ Ok values) where
    -- the tableau t with these values and column j at its other bound
    abbrev u : Tableau
    u = flipped t j to values

    -- the moved values are as many as t has columns
    values_length : length values ≡ all_columns t
    values_length = moved_length limit t w f cost b g j theta None values values_ok

    -- the tableau after the flip has lists of the right lengths
    u_whole : IsWhole u
    u_whole = record {
      all_rows = w.all_rows;
      whole_rows = w.whole_rows;
      all_basic = w.all_basic;
      all_values = length-set values j (stand to (lower_at t j) (upper_at t j)) ∙ values_length;
      all_reduced = w.all_reduced;
      all_statuses = length-set t.status j to ∙ w.all_statuses;
      all_lower = w.all_lower;
      all_upper = w.all_upper;
    }

    -- after the run's flip each column has the value that it has along the ray
    value_is : (k : ℕ) → value_at u k ≡ moved t.rows (table_of t) way j ratio k
    value_is k =
        by_eq k j
        (λ e. subst (λ k. value_at u k ≡ moved t.rows (table_of t) way j ratio k) (sym e)
        (get_or-set_same values j (stand to (lower_at t j) (upper_at t j)) 0ℚ (omega (arith, values_length, j_in))
        ∙ ap₂ (stand to) (keeps.lower j j_in) (keeps.upper j j_before)
        ∙ stand_is to (b.lower j) (b.upper j) (moved t.rows (table_of t) way j ratio j) v.to_nonbasic v.lands))
        (λ o. get_or-set_other values j k (stand to (lower_at t j) (upper_at t j)) 0ℚ o
        ∙ moved_ray limit t w f cost b g j theta None values values_ok way (outside t.rows
        (all_columns t) f cost b (table_of t) g j v.nonbasic) ratio same k o (λ r l s. let z : false ≡ true = s in cc))

    -- after the run's flip column j has the status of its other bound, and each other column its old one
    status_is : (k : ℕ) → status_at u k ≡ status_set (status_at t) j to k
    status_is k = set_reads t.status j to Basic (omega (arith, w.all_statuses, j_in)) k

    -- after the run's flip the table is that after the flip of the table
    table_is : table_of u ≡ after_flip t.rows (table_of t) way j ratio to
    table_is =
        same_table (table_of u) (after_flip t.rows (table_of t) way j ratio to)
        (λ i k. refl) (λ i. refl) value_is (λ k. refl) status_is

    -- the flip leaves the status of each column but j
    status_other : (k : ℕ) → k ≢ j → status_at u k ≡ status_at t k
    status_other k d = status_is k ∙ rw (ne_eqb k j d) refl

    -- after the flip column j has the status of its other bound
    status_own : (k : ℕ) → k ≡ j → status_at u k ≡ to
    status_own k e = status_is k ∙ rw (eq-eqb k j e) refl

    -- the tableau after the flip keeps the bounds b
    u_bounds : KeepsBounds b u
    u_bounds = record {
      lower = keeps.lower;
      upper = keeps.upper;
      entering = keeps.entering;
      barred = keeps.barred;
      zero = keeps.zero;
      top = keeps.top;
      basic = λ k l s. by_eq k j
          (λ e. absurd (v.to_nonbasic (sym (status_own k e) ∙ s)))
          (λ d. keeps.basic k l (sym (status_other k d) ∙ s));
      fixed = λ k h l s. by_eq k j
          (λ e. absurd (let z : ⊥ = omega (arith, e, h, j_before) in z))
          (λ d. keeps.fixed k h l (λ y. s (status_other k d ∙ y)));
    }

    -- the tableau after the flip is, as a table, the one after a flip of column j, with the lists and bounds to match
    leaves : Leaves b t u (after_flip t.rows (table_of t) way j ratio to)
    leaves = record { rows = refl; cols = refl; whole = u_whole; table = table_is; bounds = u_bounds }

  -- the run of a flip of column j in which it moves the way c
  flip_by : Way → Run Tableau
  flip_by c =
      difference_run limit (or_zero (upper_at t j)) (or_zero (lower_at t j)) >>= λ range.
      moved_run limit t j (directed c range) None >>= λ values. Ok (flipped t j (other_bound c) values)

  -- where the flip of column j is one that the table allows, what the run's flip leaves is the table after it
  pub flip_leaves : (u : Tableau) → flip_way (status_at t j) ≡ way →
      ratio ≡ or_zero (upper_at t j) -ℚ or_zero (lower_at t j) → flip_run limit t j ≡ Ok u
      → Leaves b t u (after_flip t.rows (table_of t) way j ratio to)
  unfolding flip_run flip_by
  flip_leaves u e length h =
      let h' : flip_by way ≡ Ok u = ap flip_by (sym e) ∙ h in
      let a = then_ok (difference_run limit (or_zero (upper_at t j)) (or_zero (lower_at t j))) _ u h' in
      let c = then_ok (moved_run limit t j (directed way a.0) None) _ u a.2 in
      let z : flipped t j (other_bound way) c.0 ≡ u = cc in
      let same : directed way a.0 ≡ sign way *ℚ ratio =
      ap (directed way) (difference_ok limit (or_zero (upper_at t j)) (or_zero (lower_at t j)) a.0 a.1 ∙ sym length)
      ∙ directed_is way ratio in
      subst (λ u. Leaves b t u (after_flip t.rows (table_of t) way j ratio to)) z
      (leaves (directed way a.0) same c.0 c.1)
