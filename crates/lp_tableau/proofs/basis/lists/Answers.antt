-- As many bounds as statuses, and each value stands where its status has it.
use Rattle.std.proofs.Common.{ap, ◌∙◌, replicate}
use Rattle.spec_exact.specs.Fraction.{0ℚ}
use Rattle.lp_tableau.proofs.Based.{lowers_beside, uppers_beside, values_are}
use Rattle.lp_tableau.proofs.basis.lists.Goals as goal

pub values-requires-clause-lower : goal.values-requires-clause-lower
values-requires-clause-lower c =
    lowers_beside c.args.form.now c.args.basis.now c.requires.kept c.requires.statuses _ _
    (c.deref-2.ensures.value ∙ c.in_ok-lower.ensures) (c.deref.ensures.value ∙ c.in_ok-status.ensures)

pub values-requires-clause-upper : goal.values-requires-clause-upper
values-requires-clause-upper c =
    uppers_beside c.args.form.now c.args.basis.now c.requires.kept c.requires.statuses _ _
    (c.deref-3.ensures.value ∙ c.in_ok-upper.ensures) (c.deref.ensures.value ∙ c.in_ok-status.ensures)

pub returns : goal.returns
returns c = record {
  value =
      values_are c.args.form.now c.args.basis.now c.requires.kept c.requires.statuses _ _ _ _
      (c.deref.ensures.value ∙ c.in_ok-status.ensures) (c.deref-2.ensures.value ∙ c.in_ok-lower.ensures)
      (c.deref-3.ensures.value ∙ c.in_ok-upper.ensures) c.in_ok-values.ensures;
  reduced = c.in_ok-zeros.ensures ∙ ap (λ n. replicate n 0ℚ) c.width.ensures.value;
  status = c.in_ok-status.ensures;
  lower = c.in_ok-lower.ensures;
  upper = c.in_ok-upper.ensures;
}
