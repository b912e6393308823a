-- The loop over the rows.
use Rattle.std.proofs.Common.{◌≡◌, Some, Ok}
use Rattle.spec_exact.specs.Run.{◌>>=◌, less_product, steps}
use Rattle.spec_exact.specs.Narrow.{number_limit}
use Rattle.spec_model.specs.Model.{row, coefficient}
use Rattle.spec_edit.specs.Changes.{with_rhs}
use Rattle.lp_presolve.proofs.Shifts.{Behind}
use Rattle.lp_presolve.proofs.shrinking.shift.Given as goal

-- the rows so far are moved, and the others are as they were
abbrev pub invariant-loop-i : goal.invariant-loop-i
invariant-loop-i l = record {
  run :
      steps l.i (λ i n. less_product (Some number_limit) (coefficient l.initial.model i l.j) l.value (row
      l.initial.model i).rhs
      >>= λ b. Ok (with_rhs n i b)) l.initial.model ≡ Ok l.model;
  behind : Behind l.initial.model l.i l.model;
}
