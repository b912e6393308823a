-- The tableau that a form begins with is one of the form's equations, and each value is within its bounds.
--
-- `sign_square`: the sign of a logical column in the first tableau, times itself, is 1.
-- `twice`: multiplying twice by a number whose square is 1 changes nothing.
-- `first_few`: the costs of phase one are at most as many as there are columns.
-- `start_is_tableau`: the start of a proper form is a tableau of its equations, with values within its bounds.
-- `start_begins`: the start of a proper form is a first tableau, with the costs of phase one.
use Rattle.std.proofs.Common.{◌≡◌, ◌⊎◌, inl, inr, ℕ, ◌+◌, ◌-◌, ◌<◌, ◌≤◌, List, [], ◌++◌, length}
use Rattle.std.proofs.Common.{get_or, map, replicate, Option, Some, None, Ok, Bool}
use Rattle.std.proofs.Common.{true, false, cond, nat_eq, refl, sym, ap, ap₂, ◌∙◌, subst, arith}
use Rattle.std.proofs.lemmas.Bool.{le-leb, lt-leb}
use Rattle.std.proofs.lemmas.List.{length-append, length-map, length-replicate, get_or_append_left}
use Rattle.std.proofs.lemmas.List.{get_or-append-add, get_or-replicate, get_or-map}
use Rattle.spec_exact.specs.Fraction.{ℚ, 0ℚ, 1ℚ, ◌+ℚ◌, ◌-ℚ◌, ◌*ℚ◌, neg_ℚ, ◌≤ℚ◌}
use Rattle.spec_exact.specs.Sums.{sum_below}
use Rattle.spec_exact.proofs.Field.{*ℚ_assoc, *ℚ_zero, *ℚ_one}
use Rattle.spec_exact.proofs.Order.{≤ℚ_refl, <ℚ-le, ≤ℚ-difference}
use Rattle.spec_exact.proofs.Ruleset.{ring, one-*ℚ}
use Rattle.spec_exact.proofs.Sums.{sum_below_same, *ℚ-sum_below}
use Rattle.spec_pivot.specs.declared.status.Status.{Status}
use Rattle.spec_pivot.specs.declared.status.Status.TheVariants.{Basic, AtLower, AtUpper}
use Rattle.spec_pivot.specs.Tableau.{Matrix, Spans, delta, IsUnit}
use Rattle.spec_pivot.specs.Simplex.{IsInside, Stands, AgreesWith}
use Rattle.spec_pivot.proofs.Pivot.{by_eq, delta_other, sum_below-delta}
use Rattle.spec_pivot.proofs.Ray.{delta_sym}
use Rattle.spec_pivot.proofs.Optimal.{if_some}
use Rattle.spec_simplex.specs.declared.ends.RowStart.{RowStart}
use Rattle.spec_simplex.specs.declared.ends.RowStart.TheVariants.{Within, Below, Above}
use Rattle.spec_simplex.specs.Form.{Form, form_entry, form_lower, form_upper}
use Rattle.spec_exact.specs.Run.{list_run}
use Rattle.spec_simplex.specs.Start.{first_status, first_value, row_start, logical_status, logical_value}
use Rattle.spec_simplex.specs.Start.{logical_sign, structural_entry, artificial_status, artificial_value}
use Rattle.spec_simplex.specs.Start.{artificial_upper, is_wanting, start_at, one_at, start_entry}
use Rattle.spec_simplex.specs.Start.{start_basic, start_value, start_status, start_row, begun}
use Rattle.spec_simplex.specs.Start.{with_reduced, cost_at, first_cost, first_costs, priced_run, start_of}
use Rattle.spec_simplex.specs.Tableau.{Tableau, basic_at, entry_at, value_at, reduced_at}
use Rattle.spec_simplex.specs.Tableau.{status_at, lower_at, upper_at, or_zero, stand}
use Rattle.spec_exact.proofs.RunsInOrder.{length-made}
use Rattle.spec_simplex.specs.Tables.{bounds_of, IsWhole, KeepsBounds, IsTableauOf, IsWithinBounds}
use Rattle.spec_simplex.specs.Begins.{form_rows, signs_of, IsProper, Begins}
use Rattle.spec_simplex.proofs.RunParts.{then_ok, IsListOf, list_ok, get_or-made}
use Rattle.spec_simplex.proofs.ListIndices.{by_lt, past_row}
use Rattle.spec_simplex.proofs.ColumnKinds.{structural_at, logical_at, artificial_at, by_kind, sum_by_kind}
use Rattle.spec_simplex.proofs.Equations.{row_structural, row_logical, row_artificial, row_past}
use Rattle.spec_simplex.proofs.Priced.{priced_length, priced_agrees}
use Rattle.spec_simplex.proofs.RowStarts.{first_sum, RowBegins, within, below, above, start_is}

-- v where two numbers are the same, else 0, is v times their unit entry
one_is : (i r : ℕ) (v : ℚ) → one_at i r v ≡ v *ℚ delta i r
one_is i r v = by (nat_eq i r)
  where
    by : (c : Bool) → cond c v 0ℚ ≡ v *ℚ cond c 1ℚ 0ℚ
    by true = sym (*ℚ_one v)
    by false = sym (*ℚ_zero v)

pub sign_square : (s : RowStart ℚ) → logical_sign s *ℚ logical_sign s ≡ 1ℚ
sign_square (Within v) = *ℚ_one 1ℚ
sign_square (Below gap) = minus
  where
    minus : neg_ℚ 1ℚ *ℚ neg_ℚ 1ℚ ≡ 1ℚ
    minus = simp ring
sign_square (Above gap) = *ℚ_one 1ℚ

-- a structural entry is the logical column's sign times the coefficient's negative
structural_sign : (s : RowStart ℚ) (a : ℚ) → structural_entry s a ≡ logical_sign s *ℚ neg_ℚ a
structural_sign (Within v) a = sym (one-*ℚ (neg_ℚ a))
structural_sign (Below gap) a = minus a
  where
    minus : (a : ℚ) → a ≡ neg_ℚ 1ℚ *ℚ neg_ℚ a
    minus a = simp ring
structural_sign (Above gap) a = sym (one-*ℚ (neg_ℚ a))

pub twice : (c d : ℚ) → c *ℚ c ≡ 1ℚ → c *ℚ (c *ℚ d) ≡ d
twice c d e = sym (*ℚ_assoc c c d) ∙ ap (λ a. a *ℚ d) e ∙ one-*ℚ d

-- ---- bounds

-- the first status of a structural column is not that of a basic one
first_never_basic : (l u : Option ℚ) → ¬ (first_status l u ≡ Basic)
first_never_basic (Some l) u e = cc
first_never_basic None (Some u) e = cc
first_never_basic None None e = cc

-- the first value of a structural column stands where its first status says
first_stands : (l u : Option ℚ) → Stands (first_status l u) l u (stand (first_status l u) l u)
first_stands (Some l) u = refl
first_stands None (Some u) = refl
first_stands None None = (refl, refl, refl)

-- the first value of a structural column is within its bounds, if these do not clash
first_inside : (l u : Option ℚ) → ((a c : ℚ) → l ≡ Some a → u ≡ Some c → a ≤ℚ c) →
    IsInside l u (stand (first_status l u) l u)
first_inside (Some l) None h = record { lower = ≤ℚ_refl l; upper = tt }
first_inside (Some l) (Some u) h = record { lower = ≤ℚ_refl l; upper = h l u refl refl }
first_inside None (Some u) h = record { lower = tt; upper = ≤ℚ_refl u }
first_inside None None h = record { lower = tt; upper = tt }

-- the first value of a logical column stands where its status says, however its row begins
logical_stands : (l u : Option ℚ) (v : ℚ) (s : RowStart ℚ) → RowBegins l u v s →
    Stands (logical_status s) l u (logical_value s l u)
logical_stands l u v (Within x) (within p q) = tt
logical_stands l u v (Below g) (below a e h) = e ∙ ap Some (sym (ap or_zero e))
logical_stands l u v (Above g) (above a e h) = e ∙ ap Some (sym (ap or_zero e))

-- the first value of a logical column is within its bounds, if these do not clash
logical_inside : (l u : Option ℚ) (v : ℚ) (s : RowStart ℚ) → ((a c : ℚ) → l ≡ Some a → u ≡ Some c → a ≤ℚ c) →
    RowBegins l u v s → IsInside l u (logical_value s l u)
logical_inside l u v (Within x) o (within p q) =
    record { lower = if_some (λ a. a ≤ℚ v) l p; upper = if_some (λ a. v ≤ℚ a) u q }
logical_inside l u v (Below g) o (below a e h) = record {
  lower = if_some (λ a. a ≤ℚ or_zero l) l (λ c z. subst (λ o. c ≤ℚ or_zero o) (sym z) (≤ℚ_refl c));
  upper = if_some (λ a. or_zero l ≤ℚ a) u (λ c z. subst (λ o. or_zero o ≤ℚ c) (sym e) (o a c e z));
}
logical_inside l u v (Above g) o (above a e h) = record {
  lower = if_some (λ a. a ≤ℚ or_zero u) l (λ c z. subst (λ o. c ≤ℚ or_zero o) (sym e) (o c a z e));
  upper = if_some (λ a. or_zero u ≤ℚ a) u (λ c z. subst (λ o. or_zero o ≤ℚ c) (sym z) (≤ℚ_refl c));
}

-- the first value of an artificial column stands where its status says
artificial_stands : (s : RowStart ℚ) → Stands (artificial_status s) (Some 0ℚ) (artificial_upper s) (artificial_value s)
artificial_stands (Within v) = refl
artificial_stands (Below g) = tt
artificial_stands (Above g) = tt

-- the first value of an artificial column is within its bounds, however its row begins
artificial_inside : (l u : Option ℚ) (v : ℚ) (s : RowStart ℚ) → RowBegins l u v s →
    IsInside (Some 0ℚ) (artificial_upper s) (artificial_value s)
artificial_inside l u v (Within x) (within p q) = record { lower = ≤ℚ_refl 0ℚ; upper = ≤ℚ_refl 0ℚ }
artificial_inside l u v (Below g) (below a e h) = record { lower = ≤ℚ-difference v a (<ℚ-le v a h); upper = tt }
artificial_inside l u v (Above g) (above a e h) = record { lower = ≤ℚ-difference a v (<ℚ-le a v h); upper = tt }

-- a row's sum and its first logical and artificial values solve the row
row_solved : (l u : Option ℚ) (v : ℚ) (s : RowStart ℚ) → RowBegins l u v s →
    (neg_ℚ v +ℚ logical_value s l u) +ℚ logical_sign s *ℚ artificial_value s ≡ 0ℚ
row_solved l u v (Within x) (within p q) = none v
  where
    none : (v : ℚ) → (neg_ℚ v +ℚ v) +ℚ 1ℚ *ℚ 0ℚ ≡ 0ℚ
    none v = simp ring
row_solved l u v (Below g) (below a e h) = ap (λ z. (neg_ℚ v +ℚ z) +ℚ neg_ℚ 1ℚ *ℚ (a -ℚ v)) (ap or_zero e) ∙ none v a
  where
    none : (v a : ℚ) → (neg_ℚ v +ℚ a) +ℚ neg_ℚ 1ℚ *ℚ (a -ℚ v) ≡ 0ℚ
    none v a = simp ring
row_solved l u v (Above g) (above a e h) = ap (λ z. (neg_ℚ v +ℚ z) +ℚ 1ℚ *ℚ (v -ℚ a)) (ap or_zero e) ∙ none v a
  where
    none : (v a : ℚ) → (neg_ℚ v +ℚ a) +ℚ 1ℚ *ℚ (v -ℚ a) ≡ 0ℚ
    none v a = simp ring

pub first_few : (f : Form) (starts : List (RowStart ℚ)) → length starts ≡ f.rows →
    length (first_costs f starts) ≤ f.cols + f.rows + f.rows
first_few f starts all =
    omega (
      arith,
      length-append (replicate (f.cols + f.rows) 0ℚ) (map first_cost starts),
      length-replicate (f.cols + f.rows) 0ℚ,
      length-map starts first_cost,
      all,
    )

module _ (f : Form) (proper : IsProper f) (starts : List (RowStart ℚ)) (all : length starts ≡ f.rows)
    (begins : (i : ℕ) → i < f.rows →
    RowBegins (form_lower f (f.cols + i)) (form_upper f (f.cols + i)) (first_sum f i) (start_at starts i))
    (reduced : List ℚ) where
  -- the tableau of the start, by how the rows begin, with these reduced costs
  abbrev t : Tableau
  t = with_reduced (begun f starts) reduced

  -- how many columns the tableau of the start has: structural, logical and artificial ones
  abbrev n : ℕ
  n = f.cols + f.rows + f.rows

  -- how row i begins
  abbrev s : ℕ → RowStart ℚ
  s i = start_at starts i

  -- the equations of the form f, with the signs of the artificials by how the rows begin
  abbrev F : Matrix
  F = form_rows f (signs_of starts)

  -- the entry of the logical column of row i in that row of the first tableau: 1 or -1
  abbrev sign_at : ℕ → ℚ
  sign_at i = logical_sign (start_at starts i)

  -- ---- reading the lists
  -- row i of the first tableau is `start_row` of how the rows begin
  row_is : (i : ℕ) → i < f.rows → get_or t.entries i [] ≡ start_row f starts i
  row_is i h = get_or-made f.rows (start_row f starts) [] i h

  -- row i of the first tableau has an entry for each column
  row_length : (i : ℕ) → i < f.rows → length (get_or t.entries i []) ≡ n
  row_length i h = ap length (row_is i h) ∙ length-made n (start_entry f (s i) i)

  -- each entry of the first tableau is the one that its row's start gives
  entry_is : (i k : ℕ) → i < f.rows → k < n → entry_at t i k ≡ start_entry f (s i) i k
  entry_is i k h l = ap (λ row. get_or row k 0ℚ) (row_is i h) ∙ get_or-made n (start_entry f (s i) i) 0ℚ k l

  -- the basic column of position i of the first tableau is `start_basic`
  basic_is : (i : ℕ) → i < f.rows → basic_at t i ≡ start_basic f starts i
  basic_is i h = get_or-made f.rows (start_basic f starts) 0 i h

  -- the value of column k of the first tableau is `start_value`
  value_is : (k : ℕ) → k < n → value_at t k ≡ start_value f starts k
  value_is k h = get_or-made n (start_value f starts) 0ℚ k h

  -- the status of column k of the first tableau is `start_status`
  status_is : (k : ℕ) → k < n → status_at t k ≡ start_status f starts k
  status_is k h = get_or-made n (start_status f starts) Basic k h

  -- the first tableau has the form's lower bound of each structural and logical column
  lower_before : (k : ℕ) → k < f.cols + f.rows → lower_at t k ≡ form_lower f k
  lower_before k h = get_or_append_left f.lower (replicate f.rows (Some 0ℚ)) None k (omega (arith, h, proper.all_lower))

  -- the first tableau has the form's upper bound of each structural and logical column
  upper_before : (k : ℕ) → k < f.cols + f.rows → upper_at t k ≡ form_upper f k
  upper_before k h =
      get_or_append_left f.upper (map artificial_upper starts) None k (omega (arith, h, proper.all_upper))

  -- in the first tableau the lower bound of each artificial column is 0
  lower_after : (r : ℕ) → r < f.rows → lower_at t (f.cols + f.rows + r) ≡ Some 0ℚ
  lower_after r h =
      ap (λ k. get_or (f.lower ++ replicate f.rows (Some 0ℚ)) (k + r) None) (sym proper.all_lower)
      ∙ get_or-append-add f.lower (replicate f.rows (Some 0ℚ)) r None
      ∙ get_or-replicate f.rows r (Some 0ℚ) None h

  -- in the first tableau the upper bound of the artificial of row r is the one by how the row begins
  upper_after : (r : ℕ) → r < f.rows → upper_at t (f.cols + f.rows + r) ≡ artificial_upper (s r)
  upper_after r h =
      ap (λ k. get_or (f.upper ++ map artificial_upper starts) (k + r) None) (sym proper.all_upper)
      ∙ get_or-append-add f.upper (map artificial_upper starts) r None
      ∙ get_or-map artificial_upper starts r (Within 0ℚ) None (omega (arith, h, all))

  -- ---- the rows
  -- the entry of row i of the first tableau in a structural column is that of its coefficient, by how the row begins
  start_structural : (i k : ℕ) → k < f.cols → start_entry f (s i) i k ≡ structural_entry (s i) (form_entry f i k)
  start_structural i k =
      structural_at f (structural_entry (s i) (form_entry f i k)) (λ r. one_at i r (sign_at i)) (λ r. one_at i r 1ℚ) k

  -- the entry of row i of the first tableau in row r's logical column is the sign of the logical where r is i, else 0
  start_logical : (i r : ℕ) → r < f.rows → start_entry f (s i) i (f.cols + r) ≡ one_at i r (sign_at i)
  start_logical i r =
      logical_at f (structural_entry (s i) (form_entry f i (f.cols + r)))
      (λ r. one_at i r (sign_at i)) (λ r. one_at i r 1ℚ) r

  -- the entry of row i of the first tableau in row r's artificial column is 1 where r is i, else 0
  start_artificial : (i r : ℕ) → start_entry f (s i) i (f.cols + f.rows + r) ≡ one_at i r 1ℚ
  start_artificial i r =
      artificial_at f (structural_entry (s i) (form_entry f i (f.cols + f.rows + r)))
      (λ r. one_at i r (sign_at i)) (λ r. one_at i r 1ℚ) r

  -- row i of the first tableau is the equation of row i times the sign of its logical
  signed : (i k : ℕ) → i < f.rows → start_entry f (s i) i k ≡ sign_at i *ℚ F i k
  signed i k h =
      by_kind f.cols f.rows k
      (λ l. start_structural i k l ∙ structural_sign (s i) (form_entry f i k)
      ∙ ap (λ a. sign_at i *ℚ a) (sym (row_structural f (signs_of starts) i k l)))
      (λ r l e. subst (λ k. start_entry f (s i) i k ≡ sign_at i *ℚ F i k) (sym e)
      (start_logical i r l ∙ one_is i r (sign_at i)
      ∙ ap (λ a. sign_at i *ℚ a) (sym (row_logical f (signs_of starts) i r l))))
      (λ r e. subst (λ k. start_entry f (s i) i k ≡ sign_at i *ℚ F i k) (sym e)
      (start_artificial i r ∙ one_is i r 1ℚ ∙ one-*ℚ (delta i r)
      ∙ sym (twice (sign_at i) (delta i r) (sign_square (s i)))
      ∙ ap (λ a. sign_at i *ℚ a) (sym (row_artificial f (signs_of starts) i r))))

  -- row i of the first tableau has the entry 0 past all columns
  entry_past : (i k : ℕ) → i < f.rows → n ≤ k → entry_at t i k ≡ 0ℚ
  entry_past i k h l = past_row t.entries i k n (row_length i h) l

  -- each entry of the first tableau is the sign of its row times the equation's entry
  entry_sign : (i k : ℕ) → i < f.rows → entry_at t i k ≡ sign_at i *ℚ F i k
  entry_sign i k h =
      by_lt k n
      (λ l. entry_is i k h l ∙ signed i k h)
      (λ l. entry_past i k h l ∙ sym (ap (λ a. sign_at i *ℚ a) (row_past f (signs_of starts) i k h l) ∙ *ℚ_zero _))

  -- the sum over rows r of g r times the sign of row i where r is i, else 0, is the sign times g i
  diagonal : (i : ℕ) → i < f.rows → (g : ℕ → ℚ) →
      sum_below f.rows (λ r. (delta i r *ℚ sign_at i) *ℚ g r) ≡ sign_at i *ℚ g i
  diagonal i h g =
      sum_below_same f.rows _ (λ r. delta i r *ℚ (sign_at i *ℚ g r)) (λ r _. *ℚ_assoc (delta i r) (sign_at i) (g r))
      ∙ sum_below-delta f.rows i (λ r. sign_at i *ℚ g r) h

  -- the rows of the first tableau are combinations of the equations
  forth : Spans f.rows (entry_at t) F
  forth = (λ i r. delta i r *ℚ sign_at i, λ i k h. entry_sign i k h ∙ sym (diagonal i h (λ r. F r k)))

  -- the equations are combinations of the rows of the first tableau
  back : Spans f.rows F (entry_at t)
  back = (
    λ i r. delta i r *ℚ sign_at i,
    λ i k h. sym (diagonal i h (λ r. entry_at t r k) ∙ ap (λ a. sign_at i *ℚ a) (entry_sign i k h)
        ∙ twice (sign_at i) (F i k) (sign_square (s i))),
  )

  -- ---- the basic columns
  -- row i's logical column is a column of the first tableau
  logical_in : (i : ℕ) → i < f.rows → f.cols + i < n
  logical_in i h = omega (arith, h)

  -- row i's artificial column is a column of the first tableau
  artificial_in : (i : ℕ) → i < f.rows → f.cols + f.rows + i < n
  artificial_in i h = omega (arith, h)

  -- what holds of row i's artificial column if the row needs it, and of its logical column if not, holds of the first
  -- basic column of position i
  by_wanting : (P : ℕ → Type 0) (i : ℕ) → i < f.rows → (is_wanting (s i) ≡ true → P (f.cols + f.rows + i)) →
      (is_wanting (s i) ≡ false → P (f.cols + i)) → P (basic_at t i)
  by_wanting P i h first second = subst P (sym (basic_is i h)) (go (is_wanting (s i)) first second)
    where
      go : (c : Bool) → (c ≡ true → P (f.cols + f.rows + i)) → (c ≡ false → P (f.cols + i)) →
          P (cond c (f.cols + f.rows + i) (f.cols + i))
      go true first second = first refl
      go false first second = second refl

  -- the basic column of each position of the first tableau is a column of it
  in_range : (i : ℕ) → i < f.rows → basic_at t i < n
  in_range i h = by_wanting (λ k. k < n) i h (λ _. artificial_in i h) (λ _. logical_in i h)

  -- a row that begins within its limits has a logical column of the sign 1
  wanting_sign : (r : RowStart ℚ) → is_wanting r ≡ false → logical_sign r ≡ 1ℚ
  wanting_sign (Within v) e = refl
  wanting_sign (Below g) e = let z : true ≡ false = e in cc
  wanting_sign (Above g) e = let z : true ≡ false = e in cc

  -- the basic columns of the first tableau are those of the unit matrix
  units : IsUnit f.rows (entry_at t) (basic_at t)
  units i r h l =
      by_wanting (λ k. entry_at t r k ≡ delta i r) i h
      (λ _. entry_is r (f.cols + f.rows + i) l (artificial_in i h)
      ∙ start_artificial r i ∙ one_is r i 1ℚ ∙ one-*ℚ (delta r i) ∙ delta_sym r i)
      (λ e. entry_is r (f.cols + i) l (logical_in i h) ∙ start_logical r i h ∙ one_is r i (sign_at r) ∙ by_eq r i
      (λ z. subst (λ r. sign_at r *ℚ delta r i ≡ delta i r) (sym z)
      (ap (λ a. a *ℚ delta i i) (wanting_sign (s i) e) ∙ one-*ℚ (delta i i)))
      (λ z. ap (λ a. sign_at r *ℚ a) (delta_other r i z) ∙ *ℚ_zero _ ∙ sym (delta_other i r (λ y. z (sym y)))))

  -- ---- statuses
  -- a structural column of the first tableau has its first status
  status_structural : (k : ℕ) → k < f.cols → status_at t k ≡ first_status (form_lower f k) (form_upper f k)
  status_structural k h =
      status_is k (omega (arith, h))
      ∙ structural_at f (first_status (form_lower f k) (form_upper f k))
      (λ r. logical_status (s r)) (λ r. artificial_status (s r)) k h

  -- row r's logical column of the first tableau has the status by how the row begins
  status_logical : (r : ℕ) → r < f.rows → status_at t (f.cols + r) ≡ logical_status (s r)
  status_logical r h =
      status_is (f.cols + r) (logical_in r h)
      ∙ logical_at f (first_status (form_lower f (f.cols + r)) (form_upper f (f.cols + r)))
      (λ r. logical_status (s r)) (λ r. artificial_status (s r)) r h

  -- row r's artificial column of the first tableau has the status by how the row begins
  status_artificial : (r : ℕ) → r < f.rows → status_at t (f.cols + f.rows + r) ≡ artificial_status (s r)
  status_artificial r h =
      status_is (f.cols + f.rows + r) (artificial_in r h)
      ∙ artificial_at f (first_status (form_lower f (f.cols + f.rows + r)) (form_upper f (f.cols + f.rows + r)))
      (λ r. logical_status (s r)) (λ r. artificial_status (s r)) r

  -- a structural column of the first tableau has its first value
  value_structural : (k : ℕ) → k < f.cols → value_at t k ≡ first_value f k
  value_structural k h =
      value_is k (omega (arith, h))
      ∙ structural_at f (first_value f k)
      (λ r. logical_value (s r) (form_lower f k) (form_upper f k)) (λ r. artificial_value (s r)) k h

  -- row r's logical column of the first tableau has the value by how the row begins
  value_logical : (r : ℕ) → r < f.rows →
      value_at t (f.cols + r) ≡ logical_value (s r) (form_lower f (f.cols + r)) (form_upper f (f.cols + r))
  value_logical r h =
      value_is (f.cols + r) (logical_in r h)
      ∙ logical_at f (first_value f (f.cols + r)) (λ i. logical_value (s i)
      (form_lower f (f.cols + r)) (form_upper f (f.cols + r))) (λ r. artificial_value (s r)) r h

  -- row r's artificial column of the first tableau has the value by how the row begins
  value_artificial : (r : ℕ) → r < f.rows → value_at t (f.cols + f.rows + r) ≡ artificial_value (s r)
  value_artificial r h =
      value_is (f.cols + f.rows + r) (artificial_in r h)
      ∙ artificial_at f (first_value f (f.cols + f.rows + r)) (λ i. logical_value (s i)
      (form_lower f (f.cols + f.rows + r)) (form_upper f (f.cols + f.rows + r))) (λ r. artificial_value (s r)) r

  -- the artificial column of a row that misses a limit begins as basic
  wanting_basic : (r : RowStart ℚ) → is_wanting r ≡ true → artificial_status r ≡ Basic
  wanting_basic (Within v) e = let z : false ≡ true = e in cc
  wanting_basic (Below g) e = refl
  wanting_basic (Above g) e = refl

  -- the logical column of a row within its limits begins as basic
  not_wanting_basic : (r : RowStart ℚ) → is_wanting r ≡ false → logical_status r ≡ Basic
  not_wanting_basic (Within v) e = refl
  not_wanting_basic (Below g) e = let z : true ≡ false = e in cc
  not_wanting_basic (Above g) e = let z : true ≡ false = e in cc

  -- a row whose logical column begins as basic is within its limits
  basic_not_wanting : (r : RowStart ℚ) → logical_status r ≡ Basic → is_wanting r ≡ false
  basic_not_wanting (Within v) e = refl
  basic_not_wanting (Below g) e = let z : AtLower ≡ Basic = e in cc
  basic_not_wanting (Above g) e = let z : AtUpper ≡ Basic = e in cc

  -- a row whose artificial column begins as basic misses a limit
  basic_wanting : (r : RowStart ℚ) → artificial_status r ≡ Basic → is_wanting r ≡ true
  basic_wanting (Within v) e = let z : AtLower ≡ Basic = e in cc
  basic_wanting (Below g) e = refl
  basic_wanting (Above g) e = refl

  -- the basic column of each position has the status `Basic` in the first tableau
  marked : (i : ℕ) → i < f.rows → status_at t (basic_at t i) ≡ Basic
  marked i h =
      by_wanting (λ k. status_at t k ≡ Basic) i h
      (λ e. status_artificial i h ∙ wanting_basic (s i) e)
      (λ e. status_logical i h ∙ not_wanting_basic (s i) e)

  -- what holds of each structural, each logical and each artificial column holds of each column k
  by_column_kind : (P : ℕ → Type 0) (k : ℕ) → k < n → (k < f.cols → P k) → ((r : ℕ) → r < f.rows → P (f.cols + r)) →
      ((r : ℕ) → r < f.rows → P (f.cols + f.rows + r)) → P k
  by_column_kind P k h a c d =
      by_kind f.cols f.rows k a (λ r l e. subst P (sym e) (c r l)) (λ r e. subst P (sym e) (d r (omega (arith, h, e))))

  -- each column with the status `Basic` in the first tableau is basic at some position
  placed : (k : ℕ) → k < n → status_at t k ≡ Basic → (i : ℕ) × (i < f.rows) × (basic_at t i ≡ k)
  placed k h =
      by_column_kind (λ k. status_at t k ≡ Basic → (i : ℕ) × (i < f.rows) × (basic_at t i ≡ k)) k h
      (λ l e. absurd (first_never_basic (form_lower f k) (form_upper f k) (sym (status_structural k l) ∙ e)))
      (λ r l e. (
        r,
        l,
        basic_is r l ∙ ap (λ c. cond c (f.cols + f.rows + r) (f.cols + r))
            (basic_not_wanting (s r) (sym (status_logical r l) ∙ e)),
      ))
      (λ r l e. (
        r,
        l,
        basic_is r l ∙ ap (λ c. cond c (f.cols + f.rows + r) (f.cols + r))
            (basic_wanting (s r) (sym (status_artificial r l) ∙ e)),
      ))

  -- ---- bounds and values
  -- column k of the first tableau stands where its status says
  abbrev StandsAt : ℕ → Type 0
  StandsAt k = Stands (status_at t k) (lower_at t k) (upper_at t k) (value_at t k)

  -- column k of the first tableau stands where its status says if its status, bounds and value are equal to ones of
  -- which that is true
  stands_by : (k : ℕ) (x : Status) (l u : Option ℚ) (v : ℚ) → status_at t k ≡ x → lower_at t k ≡ l → upper_at t k ≡ u →
      value_at t k ≡ v → Stands x l u v → StandsAt k
  stands_by k x l u v a c d e h =
      subst (λ x. Stands x (lower_at t k) (upper_at t k) (value_at t k)) (sym a)
      (subst (λ l. Stands x l (upper_at t k) (value_at t k)) (sym c)
      (subst (λ u. Stands x l u (value_at t k)) (sym d) (subst (Stands x l u) (sym e) h)))

  -- each column of the first tableau stands where its status says
  stands : (k : ℕ) → k < n → StandsAt k
  stands k h =
      by_column_kind StandsAt k h
      (λ l. stands_by k (first_status (form_lower f k) (form_upper f k))
      (form_lower f k) (form_upper f k) (first_value f k) (status_structural k l)
      (lower_before k (omega (arith, l))) (upper_before k (omega (arith, l))) (value_structural k l)
      (first_stands (form_lower f k) (form_upper f k)))
      (λ r l. stands_by (f.cols + r) (logical_status (s r)) (form_lower f (f.cols + r)) (form_upper f (f.cols + r))
      (logical_value (s r) (form_lower f (f.cols + r)) (form_upper f (f.cols + r))) (status_logical r l)
      (lower_before (f.cols + r) (omega (arith, l))) (upper_before (f.cols + r) (omega (arith, l))) (value_logical r l)
      (logical_stands (form_lower f (f.cols + r)) (form_upper f (f.cols + r)) (first_sum f r) (s r) (begins r l)))
      (λ r l. stands_by (f.cols + f.rows + r) (artificial_status (s r)) (Some 0ℚ) (artificial_upper (s r))
      (artificial_value (s r)) (status_artificial r l) (lower_after r l) (upper_after r l) (value_artificial r l)
      (artificial_stands (s r)))

  -- the value of column k of the first tableau is within its bounds
  abbrev InsideAt : ℕ → Type 0
  InsideAt k = IsInside (lower_at t k) (upper_at t k) (value_at t k)

  -- the value of column k of the first tableau is within its bounds if these are equal to ones of which that is true
  inside_by : (k : ℕ) (l u : Option ℚ) (v : ℚ) → lower_at t k ≡ l → upper_at t k ≡ u → value_at t k ≡ v →
      IsInside l u v → InsideAt k
  inside_by k l u v c d e h =
      subst (λ l. IsInside l (upper_at t k) (value_at t k)) (sym c)
      (subst (λ u. IsInside l u (value_at t k)) (sym d) (subst (IsInside l u) (sym e) h))

  -- each value of the first tableau is within the bounds of its column
  pub begun_within : IsWithinBounds f.rows f.cols (bounds_of t) t
  begun_within k h =
      by_column_kind InsideAt k h
      (λ l. inside_by k (form_lower f k) (form_upper f k) (first_value f k)
      (lower_before k (omega (arith, l))) (upper_before k (omega (arith, l))) (value_structural k l)
      (first_inside (form_lower f k) (form_upper f k) (λ a c. proper.ordered k a c (omega (arith, l)))))
      (λ r l. inside_by (f.cols + r) (form_lower f (f.cols + r)) (form_upper f (f.cols + r))
      (logical_value (s r) (form_lower f (f.cols + r)) (form_upper f (f.cols + r)))
      (lower_before (f.cols + r) (omega (arith, l))) (upper_before (f.cols + r) (omega (arith, l))) (value_logical r l)
      (logical_inside (form_lower f (f.cols + r)) (form_upper f (f.cols + r)) (first_sum f r)
      (s r) (λ a c. proper.ordered (f.cols + r) a c (omega (arith, l))) (begins r l)))
      (λ r l. inside_by (f.cols + f.rows + r) (Some 0ℚ) (artificial_upper (s r))
      (artificial_value (s r)) (lower_after r l) (upper_after r l) (value_artificial r l)
      (artificial_inside (form_lower f (f.cols + r)) (form_upper f (f.cols + r)) (first_sum f r) (s r) (begins r l)))

  -- ---- the equations are solved
  -- the values of the first tableau solve each equation of the form
  solves : (i : ℕ) → i < f.rows → sum_below n (λ k. F i k *ℚ value_at t k) ≡ 0ℚ
  solves i h =
      sum_by_kind f.cols f.rows (λ k. F i k *ℚ value_at t k)
      ∙ ap₂ ◌+ℚ◌ (ap₂ ◌+ℚ◌ structural logical) artificial
      ∙ row_solved (form_lower f (f.cols + i)) (form_upper f (f.cols + i)) (first_sum f i) (s i) (begins i h)
    where
      minus : (a v : ℚ) → neg_ℚ a *ℚ v ≡ neg_ℚ 1ℚ *ℚ (a *ℚ v)
      minus a v = simp ring

      negative : (v : ℚ) → neg_ℚ 1ℚ *ℚ v ≡ neg_ℚ v
      negative v = simp ring

      structural : sum_below f.cols (λ k. F i k *ℚ value_at t k) ≡ neg_ℚ (first_sum f i)
      structural =
          sum_below_same f.cols _ (λ k. neg_ℚ 1ℚ *ℚ (form_entry f i k *ℚ first_value f k)) (λ k l.
          ap₂ ◌*ℚ◌ (row_structural f (signs_of starts) i k l) (value_structural k l)
          ∙ minus (form_entry f i k) (first_value f k))
          ∙ sym (*ℚ-sum_below (neg_ℚ 1ℚ) f.cols _) ∙ negative (first_sum f i)

      logical : sum_below f.rows (λ r. F i (f.cols + r) *ℚ value_at t (f.cols + r))
          ≡ logical_value (s i) (form_lower f (f.cols + i)) (form_upper f (f.cols + i))
      logical =
          sum_below_same f.rows _ (λ r. delta i r *ℚ value_at t (f.cols + r))
          (λ r l. ap (λ a. a *ℚ value_at t (f.cols + r)) (row_logical f (signs_of starts) i r l))
          ∙ sum_below-delta f.rows i (λ r. value_at t (f.cols + r)) h ∙ value_logical i h

      turn : (c d v : ℚ) → (c *ℚ d) *ℚ v ≡ d *ℚ (c *ℚ v)
      turn c d v = simp ring

      artificial : sum_below f.rows (λ r. F i (f.cols + f.rows + r) *ℚ value_at t (f.cols + f.rows + r))
          ≡ sign_at i *ℚ artificial_value (s i)
      artificial =
          sum_below_same f.rows _ (λ r. delta i r *ℚ (sign_at i *ℚ value_at t (f.cols + f.rows + r)))
          (λ r l. ap (λ a. a *ℚ value_at t (f.cols + f.rows + r)) (row_artificial f (signs_of starts) i r)
          ∙ turn (sign_at i) (delta i r) (value_at t (f.cols + f.rows + r)))
          ∙ sum_below-delta f.rows i (λ r. sign_at i *ℚ value_at t (f.cols + f.rows + r)) h
          ∙ ap (λ a. sign_at i *ℚ a) (value_artificial i h)

  -- ---- the whole
  -- with as many reduced costs as columns, the first tableau has lists of the right lengths
  whole : length reduced ≡ n → IsWhole t
  whole reduced_length = record {
    all_rows = length-made f.rows (start_row f starts);
    whole_rows = row_length;
    all_basic = length-made f.rows (start_basic f starts);
    all_values = length-made n (start_value f starts);
    all_reduced = reduced_length;
    all_statuses = length-made n (start_status f starts);
    all_lower =
        length-append f.lower (replicate f.rows (Some 0ℚ))
        ∙ ap₂ ◌+◌ proper.all_lower (length-replicate f.rows (Some 0ℚ));
    all_upper =
        length-append f.upper (map artificial_upper starts)
        ∙ ap₂ ◌+◌ proper.all_upper (length-map starts artificial_upper ∙ all);
  }

  -- an artificial column that does not begin as basic has the upper bound 0
  fixed_upper : (r : RowStart ℚ) → ¬ (artificial_status r ≡ Basic) → artificial_upper r ≡ Some 0ℚ
  fixed_upper (Within v) h = refl
  fixed_upper (Below g) h = absurd (h refl)
  fixed_upper (Above g) h = absurd (h refl)

  -- the upper bound of an artificial column at the start is 0 or none
  top_of : (r : RowStart ℚ) → (artificial_upper r ≡ None) ⊎ (artificial_upper r ≡ Some 0ℚ)
  top_of (Within v) = inr refl
  top_of (Below g) = inl refl
  top_of (Above g) = inl refl

  -- the first tableau keeps its own bounds
  keeps : KeepsBounds (bounds_of t) t
  keeps = record {
    lower = λ k l. refl;
    upper = λ k l. refl;
    entering = λ k l. lt-leb (f.cols + f.rows) k l;
    barred = λ k l. le-leb (f.cols + f.rows) k l;
    zero = λ k l h.
        let r : ℕ = k - (f.cols + f.rows) in
        let e : k ≡ f.cols + f.rows + r = omega (arith, l) in
        subst (λ k. lower_at t k ≡ Some 0ℚ) (sym e) (lower_after r (omega (arith, l, h)));
    top = λ k l h.
        let r : ℕ = k - (f.cols + f.rows) in
        let e : k ≡ f.cols + f.rows + r = omega (arith, l) in
        subst (λ o. (o ≡ None) ⊎ (o ≡ Some 0ℚ))
        (sym (ap (upper_at t) e ∙ upper_after r (omega (arith, l, h)))) (top_of (s r));
    basic = λ k l e. refl;
    fixed = λ k l h b.
        let r : ℕ = k - (f.cols + f.rows) in
        let e : k ≡ f.cols + f.rows + r = omega (arith, l) in
        let r_in : r < f.rows = omega (arith, l, h) in
        subst (λ k. upper_at t k ≡ Some 0ℚ) (sym e)
        (upper_after r r_in ∙ fixed_upper (s r) (λ z. b (ap (status_at t) e ∙ status_artificial r r_in ∙ z)));
  }

  -- with reduced costs that agree with costs, the first tableau is one of the form's equations and these costs
  tableau_of : (cost : ℕ → ℚ) → length reduced ≡ n → AgreesWith f.rows F (basic_at t) cost (reduced_at t) →
      IsTableauOf f.rows f.cols F cost (bounds_of t) t
  tableau_of cost reduced_length costs = record {
    rows = refl;
    cols = refl;
    whole = whole reduced_length;
    tableau =
        record {
          in_range = in_range;
          forth = forth;
          back = back;
          units = units;
          costs = costs;
          marked = marked;
          placed = placed;
          stands = stands;
          solves = solves;
        };
    bounds = keeps;
  }

  -- the tableau with the rows' starts and the reduced costs of phase one is one of the form's equations
  pub begun_is : (limit : Option ℕ) → priced_run limit (begun f starts) (first_costs f starts) ≡ Ok reduced →
      IsTableauOf f.rows f.cols F (cost_at (first_costs f starts)) (bounds_of t) t
  begun_is limit h =
      tableau_of (cost_at (first_costs f starts))
      (priced_length limit (begun f starts) (first_costs f starts) reduced h)
      (priced_agrees limit (begun f starts) (first_costs f starts) reduced h
      (first_few f starts all) entry_past F forth units in_range)

-- t is a start of the form f: a tableau of f's equations and of the costs of phase one, by how the rows begin, with
-- values within its bounds. It has f's bounds for structural and logical columns, and for artificials the bounds that
-- the rows' beginnings give.
pub record Started (f : Form) (t : Tableau) : Type 0 where
  pub starts : List (RowStart ℚ)
  pub tableau : IsTableauOf f.rows f.cols (form_rows f (signs_of starts)) (cost_at (first_costs f starts))
      (bounds_of t) t
  pub within : IsWithinBounds f.rows f.cols (bounds_of t) t
  pub all : length starts ≡ f.rows
  pub lower : (k : ℕ) → k < f.cols + f.rows → lower_at t k ≡ form_lower f k
  pub upper : (k : ℕ) → k < f.cols + f.rows → upper_at t k ≡ form_upper f k
  pub artificial : (r : ℕ) → r < f.rows →
      (lower_at t (f.cols + f.rows + r) ≡ Some 0ℚ)
      × (upper_at t (f.cols + f.rows + r) ≡ artificial_upper (start_at starts r))

pub start_is_tableau : (limit : Option ℕ) (f : Form) (t : Tableau) → IsProper f → start_of limit f ≡ Ok t → Started f t
unfolding start_of
start_is_tableau limit f t proper h =
    let o = then_ok (list_run f.rows (row_start limit f)) _ t h in
    let p = then_ok (priced_run limit (begun f o.0) (first_costs f o.0)) _ t o.2 in
    let z : with_reduced (begun f o.0) p.0 ≡ t = cc in
    let l : IsListOf f.rows (row_start limit f) (Within 0ℚ) o.0 =
    list_ok f.rows (row_start limit f) (Within 0ℚ) o.0 o.1 in
    let begins : (i : ℕ) → i < f.rows →
    RowBegins (form_lower f (f.cols + i)) (form_upper f (f.cols + i)) (first_sum f i) (start_at o.0 i) =
    λ i h. start_is limit f i (start_at o.0 i) (l.each i h) in
    subst (Started f) z (record {
      starts = o.0;
      tableau = begun_is f proper o.0 l.all begins p.0 limit p.1;
      within = begun_within f proper o.0 l.all begins p.0;
      all = l.all;
      lower = lower_before f proper o.0 l.all begins p.0;
      upper = upper_before f proper o.0 l.all begins p.0;
      artificial =
          λ r h. (lower_after f proper o.0 l.all begins p.0 r h, upper_after f proper o.0 l.all begins p.0 r h);
    })

pub start_begins : (limit : Option ℕ) (f : Form) (t : Tableau) → IsProper f → start_of limit f ≡ Ok t → Begins f t
start_begins limit f t proper h =
    let s : Started f t = start_is_tableau limit f t proper h in
    record { starts = s.starts; tableau = s.tableau; within = s.within }
