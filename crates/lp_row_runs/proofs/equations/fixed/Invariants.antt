-- The columns so far.
use Rattle.std.proofs.Common.{◌≡◌}
use Rattle.spec_exact.specs.Run.{made}
use Rattle.spec_simplex.specs.Form.{form_lower, form_upper}
use Rattle.spec_simplex.specs.Tableau.{is_fixed}
use Rattle.lp_row_runs.proofs.equations.fixed.Given as goal

abbrev pub invariant-loop-k : goal.invariant-loop-k
invariant-loop-k l = l.list.items ≡ made l.k (λ k. is_fixed (form_lower l.form k) (form_upper l.form k))
