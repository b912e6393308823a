-- The ratio test at one position, whatever it is a position of.
use Rattle.std.specs.Prelude.{ℕ, Option, Some}
use Rattle.spec_exact.specs.Fraction.{ℚ}
use Rattle.spec_pivot.specs.declared.status.Way.{Way}
use Rattle.spec_simplex.specs.declared.ends.Best.{Best}
use Rattle.spec_exact.specs.Run.{Run, ◌>>=◌}
use Rattle.spec_exact.specs.Narrow.{number_limit}
use Rattle.spec_simplex.specs.Step.{gap_run, with_gap}

-- the best ratio once one more position is seen, at 127 bits: the best so far, or that of this position, given by its
-- number, its basic column, its entry in the entering column, and the basic column's bounds and value
abbrev pub best_at : Way → ℕ → ℕ → ℚ → Option ℚ → Option ℚ → ℚ → Option (Best ℚ) → Run (Option (Best ℚ))
best_at way place col entry lower upper value best =
    gap_run (Some number_limit) way entry lower upper value >>= λ gap. with_gap (Some number_limit) place col entry best
    gap
