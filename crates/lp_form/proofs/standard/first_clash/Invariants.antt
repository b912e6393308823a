-- The loop over the columns.
use Rattle.std.proofs.Common.{◌≡◌, Some, Ok}
use Rattle.spec_exact.specs.Run.{steps}
use Rattle.spec_exact.specs.Narrow.{number_limit}
use Rattle.spec_simplex.specs.Form.{column_clash}
use Rattle.lp_form.proofs.standard.first_clash.Given as goal

-- none of the first j columns has bounds that clash or cannot be compared
abbrev pub invariant-loop-j : goal.invariant-loop-j
invariant-loop-j l = steps l.j (λ j _. column_clash (Some number_limit) l.model j) tt ≡ Ok tt
