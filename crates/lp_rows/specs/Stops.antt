-- What stops the entering column.
use Rattle.std.specs.Prelude.{ℕ, ◌<◌, Option, Some, None, IfSome}
use Rattle.spec_exact.specs.Fraction.{ℚ}
use Rattle.spec_exact.specs.Run.{Run, ◌>>=◌}
use Rattle.spec_pivot.specs.declared.status.Way.{Way}
use Rattle.spec_simplex.specs.declared.ends.Best.{Best}
use Rattle.spec_simplex.specs.Step.{gap_run, with_gap}
use Rattle.lp_rows.specs.declared.ratio.Stopper.{Stopper}

-- if there is a stop, its entry is not 0, and its position, where it has one, is one of the first n
abbrev pub IsStop : {T : Type 0} → (T → ℕ) → ℕ → Option (Stopper T) → Type 0
IsStop value n None = Unit {0}
IsStop value n (Some s) = (0 < value s.entry) × IfSome s.position (λ p. p < n)

-- the best ratio once position i is seen, without a limit; its column k has these bounds, the value v and the entry a
abbrev pub best_at : Way → ℕ → ℕ → ℚ → Option ℚ → Option ℚ → ℚ → Option (Best ℚ) → Run (Option (Best ℚ))
best_at way i k a lower upper v best = gap_run None way a lower upper v >>= λ gap. with_gap None i k a best gap
