-- Each row so far stands as its logical's status says.
use Rattle.std.proofs.Common.{ℕ, ◌<◌, ◌+◌}
use Rattle.spec_model.specs.Model.{width, part}
use Rattle.spec_simplex.specs.Eliminate.{basis_at}
use Rattle.lp_solve.specs.Standing.{RowStandsWith}
use Rattle.lp_solve.proofs.stands.rows_stand.Given as goal

abbrev pub invariant-loop-i : goal.invariant-loop-i
invariant-loop-i l =
    (i : ℕ) → i < l.i → RowStandsWith l.model l.y i (part l.sums i) (basis_at l.basis (width l.model + i))
