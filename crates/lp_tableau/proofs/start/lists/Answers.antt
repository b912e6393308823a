-- The lists are those of the start.
use Rattle.std.proofs.Common.{ap, ◌∙◌, replicate}
use Rattle.spec_exact.specs.Fraction.{0ℚ}
use Rattle.lp_tableau.proofs.start.lists.Goals as goal

pub returns : goal.returns
returns c = record {
  value = c.in_ok-values.ensures;
  reduced = c.in_ok-zeros.ensures ∙ ap (λ n. replicate n 0ℚ) c.width.ensures.value;
  status = c.in_ok-statuses.ensures;
  lower = c.in_ok-lowers.ensures;
  upper = c.in_ok-uppers.ensures;
}
