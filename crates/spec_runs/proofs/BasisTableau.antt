-- The tableau of a basis is one of the form's equations, costs and bounds.
use Rattle.std.proofs.Common.{◌≡◌, inr, ℕ, ◌+◌, ◌-◌, ◌<◌, ◌≤◌, List, ◌++◌, length, get_or, replicate}
use Rattle.std.proofs.Common.{Option, Some, None, Ok, refl, sym, ap, ap₂, ◌∙◌, subst, arith}
use Rattle.std.proofs.lemmas.Bool.{le-leb, lt-leb}
use Rattle.std.proofs.lemmas.List.{length-append, length-replicate, get_or_append_left}
use Rattle.std.proofs.lemmas.List.{get_or-append-add, get_or-replicate}
use Rattle.spec_exact.specs.Fraction.{ℚ, 0ℚ}
use Rattle.spec_pivot.specs.declared.status.Status.{Status}
use Rattle.spec_pivot.specs.declared.status.Status.TheVariants.{Basic, AtLower, AtUpper, AtZero}
use Rattle.spec_pivot.specs.Tableau.{IsUnit}
use Rattle.spec_pivot.specs.Simplex.{Stands}
use Rattle.spec_pivot.proofs.Values.{combined, by_basic}
use Rattle.spec_simplex.specs.Form.{Form, form_lower, form_upper}
use Rattle.spec_simplex.specs.Start.{cost_at, priced_run, with_reduced}
use Rattle.spec_simplex.specs.Tableau.{Tableau, basic_at, entry_at, value_at}
use Rattle.spec_simplex.specs.Tableau.{status_at, lower_at, upper_at, or_zero, stand}
use Rattle.spec_exact.proofs.RunsInOrder.{length-made}
use Rattle.spec_simplex.specs.Tables.{bounds_of, IsWhole, KeepsBounds}
use Rattle.spec_simplex.specs.Begins.{IsProper}
use Rattle.spec_simplex.proofs.RunParts.{then_ok, refused_ok, get_or-made}
use Rattle.spec_simplex.proofs.ListIndices.{by_lt, past_row}
use Rattle.spec_simplex.proofs.Priced.{priced_length, priced_agrees}
use Rattle.spec_simplex.specs.declared.ends.StartStop.TheVariants as stop
use Rattle.spec_runs.specs.Based.{equations, IsBased, BeginsFrom}
use Rattle.spec_simplex.specs.Eliminate.{basis_at, CanStand, IsBasisOf, Elimination, eliminate_run, or_first}
use Rattle.spec_simplex.specs.Eliminate.{basis_value, with_basis, valued_run, with_values, filled_run, start_from}
use Rattle.spec_runs.proofs.Counts.{filled_all, some_is}
use Rattle.spec_runs.proofs.Eliminated.{Solving, eliminated}
use Rattle.spec_runs.proofs.Valued.{valued_length, valued_other, valued_solves}

-- a column that can have a status stands so at the value of the status
can_stand : (s : Status) (l u : Option ℚ) → CanStand s l u → Stands s l u (stand s l u)
can_stand Basic l u h = tt
can_stand AtLower l u h = h.1 ∙ ap Some (sym (ap or_zero h.1))
can_stand AtUpper l u h = h.1 ∙ ap Some (sym (ap or_zero h.1))
can_stand AtZero l u h = (h.0, h.1, refl)

-- the value that a status gives a column is 0 where the status is basic
basic_stands_zero : (s : Status) (l u : Option ℚ) → s ≡ Basic → stand s l u ≡ 0ℚ
basic_stands_zero s l u e = ap (λ s. stand s l u) e

module _ (limit : Option ℕ) (f : Form) (proper : IsProper f) (basis : List Status)
    (fits : IsBasisOf f basis) (e : Elimination) (s : Solving limit f basis (f.cols + f.rows) e) where
  abbrev t : Tableau
  t = with_basis f basis e

  abbrev n : ℕ
  n = f.cols + f.rows + f.rows

  -- ---- reading the lists
  -- the basic column of a position
  record At (i : ℕ) : Type 0 where
    column : ℕ
    taken : get_or e.basic i None ≡ Some column
    is : basic_at t i ≡ column

  at : (i : ℕ) → i < f.rows → At i
  at i h =
      let o = some_is (get_or e.basic i None) (filled_all e.basic f.rows (s.count ∙ fits.count) i h) in
      record {
        column = o.0;
        taken = o.1;
        is = get_or-made f.rows (λ i. or_first (get_or e.basic i None)) 0 i h ∙ ap or_first o.1;
      }

  -- each basic column of the start from a basis is structural or logical
  basic_before : (i : ℕ) → i < f.rows → basic_at t i < f.cols + f.rows
  basic_before i h = let a = at i h in subst (λ k. k < f.cols + f.rows) (sym a.is) (s.only i a.column h a.taken).0

  in_range : (i : ℕ) → i < f.rows → basic_at t i < n
  in_range i h = omega (arith, basic_before i h)

  -- each structural and logical column has the status that the basis gives it
  status_before : (k : ℕ) → k < f.cols + f.rows → status_at t k ≡ basis_at basis k
  status_before k h = get_or_append_left basis (replicate f.rows AtLower) Basic k (omega (arith, h, fits.all))

  status_after : (r : ℕ) → r < f.rows → status_at t (f.cols + f.rows + r) ≡ AtLower
  status_after r h =
      ap (λ k. get_or (basis ++ replicate f.rows AtLower) (k + r) Basic) (sym fits.all)
      ∙ get_or-append-add basis (replicate f.rows AtLower) r Basic
      ∙ get_or-replicate f.rows r AtLower Basic h

  lower_before : (k : ℕ) → k < f.cols + f.rows → lower_at t k ≡ form_lower f k
  lower_before k h = get_or_append_left f.lower (replicate f.rows (Some 0ℚ)) None k (omega (arith, h, proper.all_lower))

  upper_before : (k : ℕ) → k < f.cols + f.rows → upper_at t k ≡ form_upper f k
  upper_before k h = get_or_append_left f.upper (replicate f.rows (Some 0ℚ)) None k (omega (arith, h, proper.all_upper))

  bound_after : (bounds : List (Option ℚ)) → length bounds ≡ f.cols + f.rows → (r : ℕ) → r < f.rows →
      get_or (bounds ++ replicate f.rows (Some 0ℚ)) (f.cols + f.rows + r) None ≡ Some 0ℚ
  bound_after bounds all r h =
      ap (λ k. get_or (bounds ++ replicate f.rows (Some 0ℚ)) (k + r) None) (sym all)
      ∙ get_or-append-add bounds (replicate f.rows (Some 0ℚ)) r None
      ∙ get_or-replicate f.rows r (Some 0ℚ) None h

  -- what holds of the artificial column of each row holds of each artificial column k
  by_artificial : (P : ℕ → Type 0) (k : ℕ) → f.cols + f.rows ≤ k → k < n →
      ((r : ℕ) → r < f.rows → P (f.cols + f.rows + r)) → P k
  by_artificial P k h l g =
      let z : f.cols + f.rows + (k - (f.cols + f.rows)) ≡ k = omega (arith, h) in
      subst P z (g (k - (f.cols + f.rows)) (omega (arith, h, l)))

  lower_zero : (k : ℕ) → f.cols + f.rows ≤ k → k < n → lower_at t k ≡ Some 0ℚ
  lower_zero k h l = by_artificial (λ k. lower_at t k ≡ Some 0ℚ) k h l (bound_after f.lower proper.all_lower)

  upper_zero : (k : ℕ) → f.cols + f.rows ≤ k → k < n → upper_at t k ≡ Some 0ℚ
  upper_zero k h l = by_artificial (λ k. upper_at t k ≡ Some 0ℚ) k h l (bound_after f.upper proper.all_upper)

  -- before the basic values are set, each column has the value that its status and bounds give
  value_is : (k : ℕ) → k < n → value_at t k ≡ stand (status_at t k) (lower_at t k) (upper_at t k)
  value_is k h = get_or-made n (basis_value f basis) 0ℚ k h

  -- ---- the basic columns
  units : IsUnit f.rows (entry_at t) (basic_at t)
  units i r h l = let a = at i h in ap (entry_at t r) a.is ∙ s.units i a.column r h l a.taken

  -- the basic column of each position has the status `Basic`
  marked : (i : ℕ) → i < f.rows → status_at t (basic_at t i) ≡ Basic
  marked i h =
      let a = at i h in
      status_before (basic_at t i) (basic_before i h) ∙ ap (basis_at basis) a.is ∙ (s.only i a.column h a.taken).1

  basic_inside : (k : ℕ) → k < n → status_at t k ≡ Basic → k < f.cols + f.rows
  basic_inside k h b = by_lt k (f.cols + f.rows) (λ l. l)
      (λ l. let z : AtLower ≡ Basic = sym (by_artificial (λ k. status_at t k ≡ AtLower) k l h status_after) ∙ b in cc)

  -- each column with the status `Basic` is basic at some position
  placed : (k : ℕ) → k < n → status_at t k ≡ Basic → (i : ℕ) × (i < f.rows) × (basic_at t i ≡ k)
  placed k h b =
      let l : k < f.cols + f.rows = basic_inside k h b in
      let w = s.placed k l (sym (status_before k l) ∙ b) in
      let a = at w.0 w.1 in
      (w.0, w.1, a.is ∙ (let z : Some a.column ≡ Some k = sym a.taken ∙ w.2 in let y : a.column ≡ k = cc in y))

  zero : (k : ℕ) → k < n → status_at t k ≡ Basic → value_at t k ≡ 0ℚ
  zero k h b = value_is k h ∙ basic_stands_zero (status_at t k) (lower_at t k) (upper_at t k) b

  -- ---- where columns stand
  can : (k : ℕ) → k < n → CanStand (status_at t k) (lower_at t k) (upper_at t k)
  can k h =
      by_lt k (f.cols + f.rows)
      (λ l. at_bounds (basis_at basis k) (form_lower f k) (form_upper f k)
      (status_before k l) (lower_before k l) (upper_before k l) (fits.stand k l))
      (λ l. subst (λ s. CanStand s (lower_at t k) (upper_at t k))
      (sym (by_artificial (λ k. status_at t k ≡ AtLower) k l h status_after)) (0ℚ, lower_zero k l h))
    where
      at_bounds : (x : Status) (a c : Option ℚ) → status_at t k ≡ x → lower_at t k ≡ a → upper_at t k ≡ c →
          CanStand x a c → CanStand (status_at t k) (lower_at t k) (upper_at t k)
      at_bounds x a c p q r g =
          subst (λ x. CanStand x (lower_at t k) (upper_at t k)) (sym p)
          (subst (λ a. CanStand x a (upper_at t k)) (sym q) (subst (CanStand x a) (sym r) g))

  module _ (values reduced : List ℚ) (values_ok : valued_run limit t ≡ Ok values)
      (reduced_ok : priced_run limit t f.cost ≡ Ok reduced) (few : length f.cost ≤ n) where
    abbrev u : Tableau
    u = with_reduced (with_values t values) reduced

    all_values : length t.value ≡ n
    all_values = length-made n (basis_value f basis)

    -- once the basic values are set, each column stands where its status says
    stands : (k : ℕ) → k < n → Stands (status_at t k) (lower_at t k) (upper_at t k) (get_or values k 0ℚ)
    stands k h =
        by_basic (status_at t k)
        (λ b. subst (λ x. Stands x (lower_at t k) (upper_at t k) (get_or values k 0ℚ)) (sym b) tt)
        (λ b. subst (Stands (status_at t k) (lower_at t k) (upper_at t k))
        (sym (valued_other limit t all_values units in_range marked zero values values_ok k b ∙ value_is k h))
        (can_stand (status_at t k) (lower_at t k) (upper_at t k) (can k h)))

    whole : IsWhole u
    whole = record {
      all_rows = s.all_rows;
      whole_rows = s.whole_rows;
      all_basic = length-made f.rows (λ i. or_first (get_or e.basic i None));
      all_values = valued_length limit t all_values units in_range marked zero values values_ok;
      all_reduced = priced_length limit t f.cost reduced reduced_ok;
      all_statuses =
          length-append basis (replicate f.rows AtLower) ∙ ap₂ ◌+◌ fits.all (length-replicate f.rows AtLower);
      all_lower =
          length-append f.lower (replicate f.rows (Some 0ℚ))
          ∙ ap₂ ◌+◌ proper.all_lower (length-replicate f.rows (Some 0ℚ));
      all_upper =
          length-append f.upper (replicate f.rows (Some 0ℚ))
          ∙ ap₂ ◌+◌ proper.all_upper (length-replicate f.rows (Some 0ℚ));
    }

    keeps : KeepsBounds (bounds_of u) u
    keeps = record {
      lower = λ k l. refl;
      upper = λ k l. refl;
      entering = λ k l. lt-leb (f.cols + f.rows) k l;
      barred = λ k l. le-leb (f.cols + f.rows) k l;
      zero = λ k l h. lower_zero k l h;
      top = λ k l h. inr (upper_zero k l h);
      basic = λ k l b. refl;
      fixed = λ k l h b. upper_zero k l h;
    }

    -- the tableau of the start is based on the form's equations, costs and bounds
    based : IsBased f.rows f.cols (equations f) (cost_at f.cost) (bounds_of u) u
    based = record {
      tableau = record {
        rows = refl;
        cols = refl;
        whole = whole;
        tableau = record {
          in_range = in_range;
          forth = s.forth;
          back = s.back;
          units = units;
          costs =
              priced_agrees limit t f.cost reduced reduced_ok few
              (λ i k h l. past_row e.rows i k n (s.whole_rows i h) l) (equations f) s.forth units in_range;
          marked = marked;
          placed = placed;
          stands = stands;
          solves =
              combined f.rows n (equations f) (entry_at t) s.back (λ k. get_or values k 0ℚ)
              (valued_solves limit t all_values units in_range marked zero values values_ok);
        };
        bounds = keeps;
      };
      top = upper_zero;
    }

    -- the tableau of the start begins from the form: it is based on it, with the form's sizes and bounds
    begins : BeginsFrom f u
    begins = record { based = based; lower = lower_before; upper = upper_before }

-- a tableau that the start from a basis gives is one of the form's equations, costs and bounds
pub start_begins_from : (limit : Option ℕ) (f : Form) (basis : List Status) (t : Tableau) → IsProper f →
    IsBasisOf f basis → length f.cost ≤ f.cols + f.rows + f.rows → start_from limit f basis ≡ Ok t → BeginsFrom f t
unfolding start_from
start_begins_from limit f basis t proper fits few h =
    let a = then_ok (eliminate_run limit f basis) _ t h in
    let s : Solving limit f basis (f.cols + f.rows) a.0 = eliminated limit f basis a.0 a.1 in
    let h' = refused_ok stop.Past (filled_run limit f (with_basis f basis a.0)) t a.2 in
    let c = then_ok (valued_run limit (with_basis f basis a.0)) _ t h' in
    let d = then_ok (priced_run limit (with_basis f basis a.0) f.cost) _ t c.2 in
    let z : with_reduced (with_values (with_basis f basis a.0) c.0) d.0 ≡ t = cc in
    subst (BeginsFrom f) z (begins limit f proper basis fits a.0 s c.0 d.0 c.1 d.1 few)
