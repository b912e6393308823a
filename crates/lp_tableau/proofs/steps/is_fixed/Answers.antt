-- By the test of equality.
use Rattle.std.proofs.Common.{◌∙◌, sym, ap₂}
use Rattle.spec_simplex.specs.Tableau.{is_fixed}
use Rattle.lp_tableau.proofs.steps.is_fixed.Goals as goal

pub returns-in-Some-Some : goal.returns-in-Some-Some
returns-in-Some-Some c = c.are_same.ensures.test ∙ sym (ap₂ is_fixed c.in-Some-Some.is-0 c.in-Some-Some.is-1)
