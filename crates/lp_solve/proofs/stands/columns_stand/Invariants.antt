-- Each column so far stands as its status says.
use Rattle.std.proofs.Common.{ℕ, ◌<◌}
use Rattle.spec_model.specs.Model.{part}
use Rattle.spec_simplex.specs.Eliminate.{basis_at}
use Rattle.lp_solve.specs.Standing.{ColumnStandsWith}
use Rattle.lp_solve.proofs.stands.columns_stand.Given as goal

abbrev pub invariant-loop-j : goal.invariant-loop-j
invariant-loop-j l =
    (j : ℕ) → j < l.j → ColumnStandsWith l.model l.x j (part l.reduced j) (basis_at l.basis j)
