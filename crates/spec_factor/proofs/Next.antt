-- After the same step two tableaus of one basis have the same columns again.
--
-- `flip_out`: a flip without a refused operation leaves the column at its other bound, with the values moved over the
--   range.
-- `pivot_out`: a pivot without a refused operation leaves the entering column in the position, with moved values.
-- `next_statuses`: after the same choice two tableaus with equal statuses have equal statuses again.
-- `next_same`: after the same choice two tableaus of one form with the same statuses by columns have the same ones
--   again.
use Rattle.std.proofs.Common.{◌≡◌, ℕ, ◌+◌, ◌<◌, List, get_or, set, Option, Some, None, Ok, sym, ap, ap₂, ◌∙◌, subst}
use Rattle.std.proofs.lemmas.List.{ext_get_or}
use Rattle.spec_exact.specs.Fraction.{ℚ, 0ℚ}
use Rattle.spec_pivot.specs.declared.status.Status.{Status}
use Rattle.spec_pivot.specs.declared.status.Status.TheVariants.{Basic}
use Rattle.spec_pivot.specs.Tableau.{Matrix}
use Rattle.spec_pivot.specs.Simplex.{Bounds, SameStatuses}
use Rattle.spec_simplex.specs.declared.ends.Choice.{Choice}
use Rattle.spec_simplex.specs.declared.ends.Choice.TheVariants.{End, Flip, Pivot}
use Rattle.spec_exact.specs.Run.{difference_run}
use Rattle.spec_simplex.specs.Tableau.{Tableau, all_columns, basic_at, status_at, lower_at, upper_at, or_zero}
use Rattle.spec_simplex.specs.Step.{directed, other_bound, moved_run, flip_way, flipped, flip_run}
use Rattle.spec_simplex.specs.Step.{shifted_run, turned_run, repriced_run, exchanged, turned, pivot_run}
use Rattle.spec_simplex.specs.Phases.{done_run}
use Rattle.spec_simplex.specs.Tables.{table_of, IsTableauOf}
use Rattle.spec_simplex.proofs.RunParts.{then_ok}
use Rattle.spec_factor.specs.Same.{SameChoice, bare_with}
use Rattle.spec_factor.proofs.SameChoices.{both, same_lower, same_upper, columns_are}

-- ---- what a flip and a pivot leave
pub record Flipped (limit : Option ℕ) (t : Tableau) (j : ℕ) (u : Tableau) : Type 0 where
  pub range : ℚ
  pub range_ok : difference_run limit (or_zero (upper_at t j)) (or_zero (lower_at t j)) ≡ Ok range
  pub values : List ℚ
  pub values_ok : moved_run limit t j (directed (flip_way (status_at t j)) range) None ≡ Ok values
  pub is : flipped t j (other_bound (flip_way (status_at t j))) values ≡ u

pub flip_out : (limit : Option ℕ) (t : Tableau) (j : ℕ) (u : Tableau) → flip_run limit t j ≡ Ok u → Flipped limit t j u
unfolding flip_run
flip_out limit t j u h =
    let a = then_ok (difference_run limit (or_zero (upper_at t j)) (or_zero (lower_at t j))) _ u h in
    let c = then_ok (moved_run limit t j (directed (flip_way (status_at t j)) a.0) None) _ u a.2 in
    record { range = a.0; range_ok = a.1; values = c.0; values_ok = c.1; is = cc }

pub record Pivoted (limit : Option ℕ) (t : Tableau) (p j : ℕ) (theta : ℚ) (to : Status) (u : Tableau) : Type 0 where
  pub values : List ℚ
  pub values_ok : moved_run limit t j theta (Some p) ≡ Ok values
  pub shifted : List ℚ
  pub shifted_ok : shifted_run limit values j theta ≡ Ok shifted
  pub rows : List (List ℚ)
  pub reduced : List ℚ
  pub is : exchanged (turned t shifted rows reduced) p j to ≡ u

pub pivot_out : (limit : Option ℕ) (t : Tableau) (p j : ℕ) (theta : ℚ) (to : Status) (u : Tableau) →
    pivot_run limit t p j theta to ≡ Ok u → Pivoted limit t p j theta to u
unfolding pivot_run
pivot_out limit t p j theta to u h =
    let a = then_ok (moved_run limit t j theta (Some p)) _ u h in
    let s = then_ok (shifted_run limit a.0 j theta) _ u a.2 in
    let d = then_ok (turned_run limit t.rows (all_columns t) t.entries p j) _ u s.2 in
    let e = then_ok (repriced_run limit (all_columns t) t.reduced d.0 p j) _ u d.2 in
    record { values = a.0; values_ok = a.1; shifted = s.0; shifted_ok = s.1; rows = d.0; reduced = e.0; is = cc }

-- ---- the statuses after a step

-- after a flip the column stands at its other bound, and all other statuses are as before
flip_status : (limit : Option ℕ) (t : Tableau) (j : ℕ) (u : Tableau) → flip_run limit t j ≡ Ok u →
    u.status ≡ set t.status j (other_bound (flip_way (status_at t j)))
flip_status limit t j u h = sym (ap (λ (u : Tableau). u.status) ((flip_out limit t j u h).is))

-- after a pivot the leaving column stands at its bound, and the entering one is basic
pivot_status : (limit : Option ℕ) (t : Tableau) (p j : ℕ) (theta : ℚ) (to : Status) (u : Tableau) →
    pivot_run limit t p j theta to ≡ Ok u → u.status ≡ set (set t.status (basic_at t p) to) j Basic
pivot_status limit t p j theta to u h = sym (ap (λ (u : Tableau). u.status) ((pivot_out limit t p j theta to u h).is))

-- the step of a choice that is the same by columns leaves the same statuses
pub next_statuses : (limit limit2 : Option ℕ) (t u : Tableau) (c d : Choice ℚ) (v w : Tableau) → SameChoice t u c d →
    t.status ≡ u.status → done_run limit t c ≡ Ok v → done_run limit2 u d ≡ Ok w → v.status ≡ w.status
next_statuses limit limit2 t u (End end) d v w same e h k =
    let k' : done_run limit2 u (End end) ≡ Ok w = ap (done_run limit2 u) (sym same) ∙ k in
    let z : t ≡ v = cc in let y : u ≡ w = cc in
    sym (ap (λ (t : Tableau). t.status) z) ∙ e ∙ ap (λ (t : Tableau). t.status) y
next_statuses limit limit2 t u (Flip j) d v w same e h k =
    let k' : flip_run limit2 u j ≡ Ok w = ap (done_run limit2 u) (sym same) ∙ k in
    flip_status limit t j v h ∙ ap (λ l. set l j (other_bound (flip_way (get_or l j Basic)))) e
    ∙ sym (flip_status limit2 u j w k')
next_statuses limit limit2 t u (Pivot p j theta to) d v w same e h k =
    let k' : pivot_run limit2 u same.0 j theta to ≡ Ok w = ap (done_run limit2 u) (sym same.3) ∙ k in
    pivot_status limit t p j theta to v h ∙ ap₂ (λ l q. set (set l q to) j Basic) e same.2
    ∙ sym (pivot_status limit2 u same.0 j theta to w k')

-- ---- where the statuses are the same, so are all columns
module _ (m n : ℕ) (f : Matrix) (cost : ℕ → ℚ) (b : Bounds) (t u : Tableau)
    (st : IsTableauOf m n f cost b t) (su : IsTableauOf m n f cost b u) (same : t.status ≡ u.status) where
  pub statuses : SameStatuses (n + m + m) (table_of t) (table_of u)
  statuses k l = ap (λ s. get_or s k Basic) same

  long : all_columns t ≡ all_columns u
  long = columns_are m n f cost b t st ∙ sym (columns_are m n f cost b u su)

  inside : (k : ℕ) → k < all_columns t → k < n + m + m
  inside k l = subst (λ n. k < n) (columns_are m n f cost b t st) l

  pub values_same : t.value ≡ u.value
  values_same =
      ext_get_or 0ℚ t.value u.value (st.whole.all_values ∙ long ∙ sym su.whole.all_values)
      (λ k l. (both m n f cost b t u st su statuses).values k (inside k (subst (λ n. k < n) st.whole.all_values l)))

  lower_same : t.lower ≡ u.lower
  lower_same =
      ext_get_or None t.lower u.lower (st.whole.all_lower ∙ long ∙ sym su.whole.all_lower)
      (λ k l. same_lower m n f cost b t u st su statuses k (inside k (subst (λ n. k < n) st.whole.all_lower l)))

  upper_same : t.upper ≡ u.upper
  upper_same =
      ext_get_or None t.upper u.upper (st.whole.all_upper ∙ long ∙ sym su.whole.all_upper)
      (λ k l. same_upper m n f cost b t u st su statuses k (inside k (subst (λ n. k < n) st.whole.all_upper l)))

  pub bare_same : (basic : List ℕ) → bare_with t basic ≡ bare_with u basic
  bare_same basic =
      let r : t.rows ≡ u.rows = st.rows ∙ sym su.rows in
      let c : t.cols ≡ u.cols = st.cols ∙ sym su.cols in
      let v : t.value ≡ u.value = values_same in
      let l : t.lower ≡ u.lower = lower_same in
      let h : t.upper ≡ u.upper = upper_same in
      cc

-- ---- by their statuses one by one
pub next_same : (m n : ℕ) (f : Matrix) (cost : ℕ → ℚ) (b : Bounds)
    (limit other : Option ℕ) (t u v w : Tableau) (c d : Choice ℚ) →
    IsTableauOf m n f cost b t → IsTableauOf m n f cost b u
    → SameStatuses (n + m + m) (table_of t) (table_of u) → SameChoice t u c d → done_run limit t c ≡ Ok v →
    done_run other u d ≡ Ok w → SameStatuses (n + m + m) (table_of v) (table_of w)
next_same m n f cost b limit other t u v w c d st su same chosen h k i l =
    ap (λ s. get_or s i Basic) (next_statuses limit other t u c d v w chosen lists h k)
  where
    lists : t.status ≡ u.status
    lists =
        ext_get_or Basic t.status u.status (st.whole.all_statuses ∙ columns_are m n f cost b t st
        ∙ sym (su.whole.all_statuses ∙ columns_are m n f cost b u su))
        (λ k l. same k (subst (λ n. k < n) (st.whole.all_statuses ∙ columns_are m n f cost b t st) l))
