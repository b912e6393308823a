use Rattle.std.proofs.Common.{◌≡◌}
use Rattle.spec_simplex.specs.Eliminate.{basis_at}
use Rattle.spec_bas.specs.Written.{chosen}
use Rattle.lp_bas.specs.Listed.{is_listed}
use Rattle.lp_bas.proofs.writing.columns.Given as goal

-- the columns found so far are those before column j that have the status that is listed
abbrev pub invariant-loop-j : goal.invariant-loop-j
invariant-loop-j l = l.found.items ≡ chosen l.j (λ j. is_listed l.which (basis_at l.basis j))
