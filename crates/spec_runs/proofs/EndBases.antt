-- The basis of an end is a basis of the form.
use Rattle.std.proofs.Common.{◌≡◌, ◌≢◌, ℕ, zero, suc, ◌+◌, ◌<◌, List, Option, Bool, true, false, ◌&&◌}
use Rattle.std.proofs.Common.{◌||◌, cond, nat_le, refl, sym, ap, ap₂, ◌∙◌, subst, subst₂, arith}
use Rattle.std.proofs.lemmas.Bool.{le-leb, lt-leb}
use Rattle.spec_exact.specs.Fraction.{ℚ, ◌*ℚ◌, 0ℚ, 1ℚ, ◌<ℚ◌}
use Rattle.spec_exact.proofs.Field.{*ℚ_comm, *ℚ_assoc, *ℚ_zero}
use Rattle.spec_exact.proofs.Ruleset.{one-*ℚ}
use Rattle.spec_exact.proofs.Strict.{<ℚ_irrefl, zero-lt-one}
use Rattle.spec_exact.proofs.Sums.{sum_below_same}
use Rattle.spec_pivot.specs.declared.status.Status.{Status}
use Rattle.spec_pivot.specs.declared.status.Status.TheVariants.{Basic, AtLower, AtUpper, AtZero}
use Rattle.spec_pivot.specs.Tableau.{delta}
use Rattle.spec_pivot.specs.Simplex.{Bounds, Stands, IsTableau}
use Rattle.spec_pivot.proofs.Pivot.{delta_same, delta_other, sum_below-delta}
use Rattle.spec_pivot.proofs.Unique.{apart}
use Rattle.spec_pivot.proofs.Values.{by_basic}
use Rattle.spec_pivot.proofs.Ray.{delta_sym}
use Rattle.spec_simplex.specs.Form.{Form, form_lower, form_upper}
use Rattle.spec_exact.specs.Run.{made}
use Rattle.spec_simplex.specs.Tableau.{Tableau, form_columns, basic_at, entry_at, value_at, status_at}
use Rattle.spec_exact.proofs.RunsInOrder.{length-made}
use Rattle.spec_simplex.specs.Begins.{form_rows}
use Rattle.spec_simplex.specs.Tableau.{is_basic}
use Rattle.spec_runs.specs.Cold as cold
use Rattle.spec_simplex.specs.Tables.{table_of}
use Rattle.spec_simplex.proofs.FormOfModel.{HasBounds}
use Rattle.spec_simplex.proofs.Equations.{row_logical, row_artificial}
use Rattle.spec_simplex.proofs.RunParts.{get_or-made}
use Rattle.spec_simplex.specs.Eliminate.{basis_at, basics_below, CanStand, IsBasisOf}
use Rattle.spec_simplex.proofs.Statuses.{basic_if}
use Rattle.spec_runs.proofs.Counts.{basic_test, nonbasic_test}
use Rattle.spec_runs.proofs.Members.{count, count_same, count_split, count_either}
use Rattle.spec_runs.proofs.Members.{member, member_if, member_test, count_members}

-- a column that stands at a value by its status and bounds can have that status
stands_can : (s : Status) (l u : Option ℚ) (v : ℚ) → Stands s l u v → CanStand s l u
stands_can Basic l u v h = tt
stands_can AtLower l u v h = (v, h)
stands_can AtUpper l u v h = (v, h)
stands_can AtZero l u v h = (h.0, h.1)

-- how many columns below n are basic in a basis is how many test as basic
basics_count : (basis : List Status) (n : ℕ) → basics_below basis n ≡ count n (λ k. is_basic (basis_at basis k))
basics_count basis zero = refl
basics_count basis (suc n) = ap (λ c. c + cond (is_basic (basis_at basis n)) 1 0) (basics_count basis n)

module _ (f : Form) (signs : ℕ → ℚ) (squares : (i : ℕ) → signs i *ℚ signs i ≡ 1ℚ) (cost : ℕ → ℚ) (b : Bounds)
    (bs : HasBounds f b) (t : Tableau) (rows : t.rows ≡ f.rows) (cols : t.cols ≡ f.cols)
    (g : IsTableau f.rows (f.cols + f.rows + f.rows) (form_rows f signs) cost b (table_of t)) where
  abbrev n : ℕ
  n = f.cols + f.rows + f.rows

  abbrev basic : ℕ → Bool
  basic k = is_basic (status_at t k)

  abbrev basis : List Status
  basis = made (form_columns t) (cold.basis_status t)

  -- ---- as many columns are basic as there are positions
  basic_member : (k : ℕ) → k < n → basic k ≡ member f.rows (basic_at t) k
  basic_member k h =
      by_basic (status_at t k)
      (λ s. let w = g.placed k h s in
      basic_test (status_at t k) s ∙ sym (member_test f.rows (basic_at t) k w.0 w.1 w.2))
      (λ s. nonbasic_test (status_at t k) s ∙ sym (none s (member f.rows (basic_at t) k) refl))
    where
      none : ¬ (status_at t k ≡ Basic) → (c : Bool) → member f.rows (basic_at t) k ≡ c →
          member f.rows (basic_at t) k ≡ false
      none s true e =
          let w = member_if f.rows (basic_at t) k e in absurd (s (ap (status_at t) (sym w.2) ∙ g.marked w.0 w.1))
      none s false e = e

  all_basics : count n basic ≡ f.rows
  all_basics =
      count_same n basic (member f.rows (basic_at t)) basic_member ∙ count_members f.rows n
      (basic_at t) g.in_range (λ i r h l e. apart f.rows (entry_at t) (basic_at t) g.units i r h l e)

  -- ---- a row's logical and its artificial are not both basic, since their columns are the same but for a sign
  logical_entry : (r i : ℕ) → r < f.rows → i < f.rows → entry_at t r (f.cols + i) ≡ g.forth.0 r i
  logical_entry r i h l =
      g.forth.1 r (f.cols + i) h
      ∙ sum_below_same f.rows _ (λ s. delta i s *ℚ g.forth.0 r s) (λ s q.
      ap (λ a. g.forth.0 r s *ℚ a) (row_logical f signs s i l ∙ delta_sym s i) ∙ *ℚ_comm (g.forth.0 r s) (delta i s))
      ∙ sum_below-delta f.rows i (g.forth.0 r) l

  artificial_entry : (r i : ℕ) → r < f.rows → i < f.rows →
      entry_at t r (f.cols + f.rows + i) ≡ signs i *ℚ g.forth.0 r i
  artificial_entry r i h l =
      g.forth.1 r (f.cols + f.rows + i) h
      ∙ sum_below_same f.rows _ (λ s. delta i s *ℚ (signs s *ℚ g.forth.0 r s))
      (λ s q. ap (λ a. g.forth.0 r s *ℚ a)
      (row_artificial f signs s i ∙ ap (λ d. signs s *ℚ d) (delta_sym s i))
      ∙ turn (g.forth.0 r s) (signs s) (delta i s))
      ∙ sum_below-delta f.rows i (λ s. signs s *ℚ g.forth.0 r s) l
    where
      turn : (w c d : ℚ) → w *ℚ (c *ℚ d) ≡ d *ℚ (c *ℚ w)
      turn w c d = *ℚ_comm w (c *ℚ d) ∙ ap (λ a. a *ℚ w) (*ℚ_comm c d) ∙ *ℚ_assoc d c w

  -- the logical and the artificial column of one row are not both basic
  not_both : (i : ℕ) → i < f.rows → basic (f.cols + i) ≡ true → basic (f.cols + f.rows + i) ≡ true → ⊥
  not_both i h p q =
      let v = g.placed (f.cols + i) (omega (arith, h)) (basic_if (status_at t (f.cols + i)) p) in
      let w = g.placed (f.cols + f.rows + i) (omega (arith, h)) (basic_if (status_at t (f.cols + f.rows + i)) q) in
      let other : w.0 ≢ v.0 =
      (λ e. let z : f.cols + f.rows + i ≡ f.cols + i = sym w.2 ∙ ap (basic_at t) e ∙ v.2 in omega (arith, h, z)) in
      let one : g.forth.0 v.0 i ≡ 1ℚ =
      sym (logical_entry v.0 i v.1 h) ∙ ap (entry_at t v.0) (sym v.2) ∙ g.units v.0 v.0 v.1 v.1 ∙ delta_same v.0 in
      let none : signs i *ℚ g.forth.0 v.0 i ≡ 0ℚ =
      sym (artificial_entry v.0 i v.1 h) ∙ ap (entry_at t v.0) (sym w.2)
      ∙ g.units w.0 v.0 w.1 v.1 ∙ delta_other w.0 v.0 other in
      clash (signs i) (g.forth.0 v.0 i) (squares i) one none
    where
      clash : (s a : ℚ) → s *ℚ s ≡ 1ℚ → a ≡ 1ℚ → s *ℚ a ≡ 0ℚ → ⊥
      clash s a e one none =
          let zero : s ≡ 0ℚ = sym (one-*ℚ s) ∙ *ℚ_comm 1ℚ s ∙ ap (λ a. s *ℚ a) (sym one) ∙ none in
          let z : 1ℚ ≡ 0ℚ = sym e ∙ ap (λ a. s *ℚ a) zero ∙ *ℚ_zero s in
          <ℚ_irrefl 0ℚ (subst (λ a. 0ℚ <ℚ a) z zero-lt-one)

  -- ---- the basis
  at_is : (k : ℕ) → k < f.cols + f.rows → basis_at basis k ≡ cold.basis_status t k
  at_is k h = get_or-made (form_columns t) (cold.basis_status t) Basic k (omega (arith, h, rows, cols))

  structural_is : (k : ℕ) → k < f.cols → is_basic (basis_at basis k) ≡ basic k
  structural_is k h =
      ap is_basic (at_is k (omega (arith, h)))
      ∙ ap (λ c. is_basic (cond (c && is_basic (status_at t (k + t.rows))) Basic (status_at t k)))
      (lt-leb t.cols k (omega (arith, h, cols)))

  logical_is : (i : ℕ) → i < f.rows →
      is_basic (basis_at basis (f.cols + i)) ≡ basic (f.cols + i) || basic (f.cols + f.rows + i)
  logical_is i h =
      ap is_basic (at_is (f.cols + i) (omega (arith, h)))
      ∙ ap (λ c. is_basic (cond (c && is_basic (status_at t (f.cols + i + t.rows))) Basic (status_at t (f.cols + i))))
      (le-leb t.cols (f.cols + i) (omega (arith, cols)))
      ∙ (let z : f.cols + i + t.rows ≡ f.cols + f.rows + i = omega (arith, rows) in
      ap (λ k. is_basic (cond (is_basic (status_at t k)) Basic (status_at t (f.cols + i)))) z)
      ∙ by (basic (f.cols + f.rows + i)) (status_at t (f.cols + i))
    where
      by : (c : Bool) (s : Status) → is_basic (cond c Basic s) ≡ is_basic s || c
      by true Basic = refl
      by true AtLower = refl
      by true AtUpper = refl
      by true AtZero = refl
      by false Basic = refl
      by false AtLower = refl
      by false AtUpper = refl
      by false AtZero = refl

  -- the basis of an end has as many basic columns and rows as there are rows
  basis_count : basics_below basis (f.cols + f.rows) ≡ f.rows
  basis_count =
      basics_count basis (f.cols + f.rows) ∙ count_split f.cols f.rows (λ k. is_basic (basis_at basis k))
      ∙ ap₂ ◌+◌
      (count_same f.cols (λ k. is_basic (basis_at basis k)) basic structural_is)
      (count_same f.rows (λ i. is_basic (basis_at basis (f.cols + i)))
      (λ i. basic (f.cols + i) || basic (f.cols + f.rows + i)) logical_is
      ∙ count_either f.rows (λ i. basic (f.cols + i)) (λ i. basic (f.cols + f.rows + i)) not_both)
      ∙ same (count f.cols basic) (count f.rows (λ i. basic (f.cols + i)))
      (count f.rows (λ i. basic (f.cols + f.rows + i)))
      ∙ sym (ap (λ c. c + count f.rows (λ i. basic (f.cols + f.rows + i))) (count_split f.cols f.rows basic))
      ∙ sym (count_split (f.cols + f.rows) f.rows basic) ∙ all_basics
    where
      same : (a c d : ℕ) → a + (c + d) ≡ a + c + d
      same a c d = omega arith

  pub basis_fits : IsBasisOf f (made (form_columns t) (cold.basis_status t))
  basis_fits = record {
    all = length-made (form_columns t) (cold.basis_status t) ∙ ap₂ ◌+◌ cols rows;
    stand = λ k h. subst (λ s. CanStand s (form_lower f k) (form_upper f k)) (sym (at_is k h))
        (by (nat_le t.cols k && is_basic (status_at t (k + t.rows))) (status_at t k) (form_lower f k) (form_upper f k)
        (stands_can (status_at t k) (form_lower f k) (form_upper f k) (value_at t k)
        (subst₂ (λ l u. Stands (status_at t k) l u (value_at t k))
        (bs.lower k h) (bs.upper k h) (g.stands k (omega (arith, h))))));
    count = basis_count;
  }
    where
      by : (c : Bool) (s : Status) (l u : Option ℚ) → CanStand s l u → CanStand (cond c Basic s) l u
      by true s l u h = tt
      by false s l u h = h
