-- By the test of equality.
use Rattle.std.proofs.Common.{◌∙◌, ap₂}
use Rattle.spec_exact.specs.Fraction.{eq_ℚ}
use Rattle.lp_tableau.proofs.tableau.Tableau.is_at_zero.Goals as goal

pub returns : goal.returns
returns c = c.are_same.ensures.test ∙ ap₂ eq_ℚ c.value_or_zero.ensures c.zero.ensures
