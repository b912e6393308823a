use Rattle.std.proofs.Common.{[], ◌∷◌, ◌++◌, refl, sym, ap, ap₂, ◌∙◌}
use Rattle.spec_commands.specs.Draws.{next}
use Rattle.spec_commands.specs.Generated.{generated_row}
use Rattle.spec_commands.proofs.GeneratedSteps.{generated_rows_more, after_more, generated_rows_first}
use Rattle.lp_text_commands.proofs.generator.parts.rows.Goals as goal

pub loop-i-init : goal.loop-i-init
loop-i-init c = record {
  rows = c.new-rows.ensures.items ∙ sym (generated_rows_first c.args.draws.now);
  state = refl;
}

pub loop-i-preserved : goal.loop-i-preserved
loop-i-preserved c =
    let more = generated_rows_more c.args.draws.now c.loop-i.i in
    let on = after_more c.loop-i.i c.args.draws.now in
    let this = c.in_ok-row.ensures.row ∙ ap (generated_row c.loop-i.i) c.loop-i.invariant.state in
    record {
      rows =
          c.in_ok-push.ensures.items
          ∙ ap₂ (λ rs x. rs ++ x ∷ []) c.loop-i.invariant.rows this
          ∙ sym more;
      state = c.in_ok-row.ensures.state ∙ ap next c.loop-i.invariant.state ∙ sym on;
    }
