-- Each column so far can stand as its status says.
use Rattle.std.proofs.Common.{ℕ, ◌<◌}
use Rattle.spec_simplex.specs.Form.{form_lower, form_upper}
use Rattle.spec_simplex.specs.Eliminate.{CanStand, basis_at}
use Rattle.lp_form.proofs.fitting.all_stand.Given as goal

-- each of the first k columns has a status that it may have by its bounds
abbrev pub invariant-loop-k : goal.invariant-loop-k
invariant-loop-k l =
    (k : ℕ) → k < l.k → CanStand (basis_at l.basis k) (form_lower l.form k) (form_upper l.form k)
