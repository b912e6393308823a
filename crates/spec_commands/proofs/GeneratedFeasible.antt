-- The point 0 is feasible in each generated model, and the objective has an upper limit.
--
-- `width_is`: a generated model has the number of columns that was asked for.
-- `height_is`: a generated model has the number of rows that was asked for.
-- `zero_feasible`: the point with 0 in each column is feasible in a generated model.
-- `bounded`: no generated model is unbounded.
use Rattle.std.proofs.Common.{◌≡◌, ℕ, suc, ◌+◌, ◌%◌, ◌<◌, ◌≤◌, List}
use Rattle.std.proofs.Common.{pos, sym, ap, ◌∙◌, subst, subst₂, arith}
use Rattle.std.specs.Prelude.{replicate}
use Rattle.std.proofs.lemmas.Int.{ints}
use Rattle.std.proofs.lemmas.List.{length-replicate}
use Rattle.std.proofs.lemmas.List.FromFn.{length-map-range_with_len, get_or-map-range_with_len}
use Rattle.spec_exact.specs.Fraction.{ℚ, 0ℚ, ◌*ℚ◌, ◌≤ℚ◌, whole, floor}
use Rattle.spec_exact.specs.Sums.{sum_below}
use Rattle.spec_exact.proofs.Field.{+ℚ_zero, *ℚ_zero}
use Rattle.spec_exact.proofs.Floor.{below_floor}
use Rattle.spec_exact.proofs.Order.{≤ℚ_refl, ≤ℚ_trans, *ℚ_mono, <ℚ-le, clash_ℚ}
use Rattle.spec_exact.proofs.Strict.{whole_least}
use Rattle.spec_exact.proofs.Sums.{sum_below_none, sum_below_mono}
use Rattle.spec_model.specs.Model.{Model, ExactRow, ExactColumn, no_row, no_column, width, height, row, column}
use Rattle.spec_model.specs.Model.{bounds_of, limits_of, cost, coefficient, part, activity, cost_of, value_of}
use Rattle.spec_model.specs.Truth.{IsBetween, IsFeasible, IsUnbounded}
use Rattle.spec_model.proofs.ListParts.{part_zeros}
use Rattle.spec_commands.specs.Draws.{next, draw, after}
use Rattle.spec_commands.specs.Generated.{at_column, generated_column, generated_columns}
use Rattle.spec_commands.specs.Generated.{generated_row, generated_rows, generated}

-- ---- the parts of a generated model, by their numbers

pub width_is : (seed rows columns : ℕ) → width (generated seed rows columns) ≡ columns
unfolding generated generated_columns
width_is seed rows columns =
    length-map-range_with_len (λ j. generated_column rows j (at_column rows seed j)) 0 columns

pub height_is : (seed rows columns : ℕ) → height (generated seed rows columns) ≡ rows
unfolding generated generated_rows
height_is seed rows columns =
    length-map-range_with_len (λ i. generated_row i (after i (at_column rows seed columns))) 0 rows

-- column j of a generated model is the one that is made from the seed where column j begins
column_is : (seed rows columns j : ℕ) → j < columns →
    column (generated seed rows columns) j ≡ generated_column rows j (at_column rows seed j)
unfolding generated generated_columns
column_is seed rows columns j h =
    let drawn : ℕ → ExactColumn = λ k. generated_column rows k (at_column rows seed k) in
    get_or-map-range_with_len drawn 0 columns j j no_column h (omega arith)

-- row i of a generated model is the one that is made from the seed where row i begins
row_is : (seed rows columns i : ℕ) → i < rows →
    row (generated seed rows columns) i ≡ generated_row i (after i (at_column rows seed columns))
unfolding generated generated_rows
row_is seed rows columns i h =
    let drawn : ℕ → ExactRow = λ k. generated_row k (after k (at_column rows seed columns)) in
    get_or-map-range_with_len drawn 0 rows i i no_row h (omega arith)

-- ---- the point 0

-- 0 is between the bounds of each generated column
zero_in_bounds : (rows j s : ℕ) → IsBetween (bounds_of (generated_column rows j s)) 0ℚ
unfolding generated_column
zero_in_bounds rows j s = record { lower = ≤ℚ_refl 0ℚ; upper = whole_least _ }

-- 0 is between the limits of each generated row
zero_in_limits : (i s : ℕ) → IsBetween (limits_of (generated_row i s)) 0ℚ
unfolding generated_row
zero_in_limits i s = record { lower = tt; upper = whole_least _ }

-- at the point 0 the activity of each row is 0
zeros_activity : (m : Model) (n i : ℕ) → activity m (replicate n 0ℚ) i ≡ 0ℚ
zeros_activity m n i =
    sum_below_none (width m) (λ j. coefficient m i j *ℚ part (replicate n 0ℚ) j)
    (λ j h. ap (λ v. coefficient m i j *ℚ v) (part_zeros n j) ∙ *ℚ_zero (coefficient m i j))

pub zero_feasible : (seed rows columns : ℕ) → IsFeasible (generated seed rows columns) (replicate columns 0ℚ)
zero_feasible seed rows columns =
    let m = generated seed rows columns in
    record {
      one_each = length-replicate columns 0ℚ ∙ sym (width_is seed rows columns);
      columns = λ j h.
          let inside : j < columns = subst (λ n. j < n) (width_is seed rows columns) h in
          subst₂ (λ (c : ExactColumn) (v : ℚ). IsBetween (bounds_of c) v)
          (sym (column_is seed rows columns j inside))
          (sym (part_zeros columns j))
          (zero_in_bounds rows j (at_column rows seed j));
      rows = λ i h.
          let inside : i < rows = subst (λ n. i < n) (height_is seed rows columns) h in
          subst₂ (λ (r : ExactRow) (v : ℚ). IsBetween (limits_of r) v)
          (sym (row_is seed rows columns i inside))
          (sym (zeros_activity m columns i))
          (zero_in_limits i (after i (at_column rows seed columns)));
    }

-- ---- an upper limit of the values

-- where a is at most b, the fraction a / 1 is at most the fraction b / 1
whole_mono : (a b : ℕ) → a ≤ b → whole (pos a) ≤ℚ whole (pos b)
unfolding whole
whole_mono a b h = record { at_most = omega (arith, ints) }

-- the cost of a generated column is at least 0
cost_positive : (rows j s : ℕ) → 0ℚ ≤ℚ (generated_column rows j s).cost
unfolding generated_column
cost_positive rows j s = whole_least _

-- a value between the bounds of a generated column is at most 20
part_most : (rows j s : ℕ) (v : ℚ) → IsBetween (bounds_of (generated_column rows j s)) v → v ≤ℚ whole (pos 20)
unfolding generated_column
part_most rows j s v h =
    let upper = 1 + draw (next s) % 20 in
    ≤ℚ_trans v (whole (pos upper)) (whole (pos 20)) h.upper (whole_mono upper 20 (omega arith))

-- the sum of 20 times the cost of each column; in a generated model no feasible point has a value above it
most : Model → ℚ
most m = sum_below (width m) (λ j. cost m j *ℚ whole (pos 20))

-- at a feasible point of a generated model the value is at most that with 20 for each column
value_most : (seed rows columns : ℕ) (z : List ℚ) → IsFeasible (generated seed rows columns) z →
    value_of (generated seed rows columns) z ≤ℚ most (generated seed rows columns)
unfolding generated most
value_most seed rows columns z h =
    let m = generated seed rows columns in
    let each : (j : ℕ) → j < width m → (cost m j *ℚ part z j) ≤ℚ (cost m j *ℚ whole (pos 20)) = λ j l.
    let inside : j < columns = subst (λ n. j < n) (width_is seed rows columns) l in
    let s = at_column rows seed j in
    let is = column_is seed rows columns j inside in
    let positive = subst (λ (c : ExactColumn). 0ℚ ≤ℚ c.cost) (sym is) (cost_positive rows j s) in
    let within = subst (λ (c : ExactColumn). IsBetween (bounds_of c) (part z j)) is (h.columns j l) in
    *ℚ_mono (part z j) (whole (pos 20)) (cost m j) positive (part_most rows j s (part z j) within) in
    subst (λ v. v ≤ℚ most m) (sym (+ℚ_zero (cost_of m z)))
    (sum_below_mono (width m) (λ j. cost m j *ℚ part z j) (λ j. cost m j *ℚ whole (pos 20)) each)

pub bounded : (seed rows columns : ℕ) → ¬ (IsUnbounded (generated seed rows columns))
unfolding generated
bounded seed rows columns = λ u.
    let m = generated seed rows columns in
    let past : ℚ = whole (pos (suc (floor (most m)))) in
    let better = u (pos (suc (floor (most m)))) in
    let below = value_most seed rows columns better.0 better.1 in
    let less = ≤ℚ_trans (value_of m better.0) (most m) past below (<ℚ-le (most m) past (below_floor (most m))) in
    clash_ℚ past (value_of m better.0) better.2 less
