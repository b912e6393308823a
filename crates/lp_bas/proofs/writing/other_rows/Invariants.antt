use Rattle.std.proofs.Common.{◌≡◌, ◌+◌, not}
use Rattle.spec_simplex.specs.Tableau.{is_basic}
use Rattle.spec_simplex.specs.Eliminate.{basis_at}
use Rattle.spec_bas.specs.Written.{chosen}
use Rattle.lp_bas.proofs.writing.other_rows.Given as goal

-- the rows found so far are those before row i whose logical columns are not basic
abbrev pub invariant-loop-i : goal.invariant-loop-i
invariant-loop-i l = l.found.items ≡ chosen l.i (λ i. not (is_basic (basis_at l.basis (l.form.cols + i))))
