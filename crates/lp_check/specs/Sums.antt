-- The sums of all rows, and conditions of rows and columns where their sums and reduced costs are given.
use Rattle.std.specs.Prelude.{◌≡◌, ◌<◌, ℕ, ⊤, List, length, None, Ok, cond}
use Rattle.spec_exact.specs.Fraction.{ℚ, 0ℚ, lt_ℚ}
use Rattle.spec_exact.specs.Run.{◌>>=◌}
use Rattle.spec_model.specs.Model.{Model, height, row, bounds, activity, part}
use Rattle.spec_check.specs.Run.{Run, need, lower_run, upper_run, at_least, at_most, stands_at, is_tight}
use Rattle.spec_check.specs.Run.{not_below, not_above}

-- the list has as many sums as the model has rows, each the activity of its row at z
abbrev pub AreSums : Model → List ℚ → List ℚ → Type 0
AreSums m z sums = (length sums ≡ height m) × ((i : ℕ) → i < height m → part sums i ≡ activity m z i)

-- condition 2 at row i, whose sum is s: it holds if s is within the row's limits, and else it is the reason for a no
abbrev pub row_within : Model → ℕ → ℚ → Run ⊤
row_within m i s =
    lower_run None (row m i) >>= λ l. at_least 2 None l s >>= λ _. upper_run None (row m i) >>= λ u. at_most 2 None u s

-- condition 3 at column j, whose reduced cost is d: it holds if x has j's lower bound there for d above 0, and its
-- upper bound for d below 0; else it is the reason for a no
abbrev pub column_tight : Model → List ℚ → ℕ → ℚ → Run ⊤
column_tight m x j d = need 3 (is_tight (bounds m j) d (part x j))

-- condition 4 at row i, whose sum is s: it holds if s is at the lower limit where y is above 0 there, and at the upper
-- one where y is below 0; else it is the reason for a no
abbrev pub row_tight : Model → List ℚ → ℕ → ℚ → Run ⊤
row_tight m y i s =
    cond (lt_ℚ 0ℚ (part y i)) (lower_run None (row m i) >>= λ l. need 4 (stands_at l s))
    (cond (lt_ℚ (part y i) 0ℚ) (upper_run None (row m i) >>= λ u. need 4 (stands_at u s)) (Ok tt))

-- condition 4 of a ray at row i, whose sum over the ray is s: s may not be below 0 where the row has a lower limit, nor
-- above 0 where it has an upper one
abbrev pub row_allows : Model → ℕ → ℚ → Run ⊤
row_allows m i s =
    lower_run None (row m i) >>= λ l. need 4 (not_below l s) >>= λ _.
    upper_run None (row m i) >>= λ u. need 4 (not_above u s)
