use Rattle.std.proofs.Common.{ap, ◌∙◌, arith}
use Rattle.spec_simplex.specs.Tableau.{is_basic}
use Rattle.lp_form.proofs.WordLists.{count_step}
use Rattle.lp_form.proofs.formed.count_basic.Goals as goal
use Rattle.lp_form.proofs.formed.count_basic.Goals.{then-is_basic, else-is_basic}

pub loop-c-preserved : goal.loop-c-preserved
loop-c-preserved c =
    let step =
    count_step c.args.words.now c.loop-c.c c.loop-c.count (omega (arith, c.requires.columns)) c.loop-c.invariant.1
    (c.is_basic.ensures ∙ ap is_basic c.status_at.ensures) in
    elim c.if-is_basic.branch [
      | then-is_basic w ↦ (omega (arith, w.count-is, c.loop-c.invariant.0), w.count-is ∙ step.0 w.if-is_basic.true)
      | else-is_basic w ↦ (omega (arith, w.count-is, c.loop-c.invariant.0), w.count-is ∙ step.1 w.if-is_basic.false)
    ]
