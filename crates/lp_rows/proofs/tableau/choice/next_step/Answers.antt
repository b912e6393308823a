use Rattle.std.proofs.Common.{◌∙◌, refl, Some, None}
use Rattle.spec_simplex.specs.declared.ends.Choice.TheVariants.{End}
use Rattle.spec_simplex.specs.declared.ends.PrimalEnd.TheVariants.{Optimal}
use Rattle.lp_rows.proofs.RatioAtPosition.{by_some, choice_is, priced_is}
use Rattle.lp_rows.proofs.tableau.choice.next_step.Goals as goal

pub returns-in-Some-clause-chosen : goal.returns-in-Some-clause-chosen
returns-in-Some-clause-chosen g c t reached shows =
    by_some c.step_in.result _ _
    (λ s h. (
      h.0,
      choice_is t (Some c.in-Some.e) (c.in-Some.ensures.value t
          (priced_is g.T.Words.value c.args.tab.now t _ _ reached shows c.requires c.deref.ensures.value
          c.deref-2.ensures.value))
          ∙ h.1,
      h.2,
    )) (c.step_in.ensures.chosen t shows)

pub returns-in-None-clause-chosen : goal.returns-in-None-clause-chosen
returns-in-None-clause-chosen g c t reached shows = (
  End Optimal,
  choice_is t None (c.in-None.ensures.value t
      (priced_is g.T.Words.value c.args.tab.now t _ _ reached shows c.requires c.deref.ensures.value
      c.deref-2.ensures.value)),
  refl,
)
