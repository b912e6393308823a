-- Each value so far is within its bounds.
use Rattle.std.proofs.Common.{ℕ, ◌<◌}
use Rattle.spec_pivot.specs.Simplex.{IsInside}
use Rattle.spec_simplex.specs.Tableau.{Tableau, basic_at, value_at, lower_at, upper_at}
use Rattle.lp_rows.specs.Shows.{Shows}
use Rattle.lp_row_runs.proofs.fit.is_fit.Given as goal

abbrev pub invariant-loop-i : goal.invariant-loop-i
invariant-loop-i g l =
    (t : Tableau) → Shows g.T.Words.value l.tab t → (i : ℕ) → i < l.i →
    IsInside (lower_at t (basic_at t i)) (upper_at t (basic_at t i)) (value_at t (basic_at t i))
