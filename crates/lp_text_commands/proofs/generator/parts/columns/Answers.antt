use Rattle.std.proofs.Common.{[], ◌∷◌, ◌++◌, sym, ap, ap₂, ◌∙◌}
use Rattle.spec_commands.specs.Draws.{after}
use Rattle.spec_commands.specs.Generated.{at_row, generated_column}
use Rattle.spec_commands.proofs.GeneratedSteps.{generated_columns_more, at_column_more, generated_columns_first, at_column_first}
use Rattle.lp_text_commands.proofs.generator.parts.columns.Goals as goal

pub loop-j-init : goal.loop-j-init
loop-j-init c = record {
  columns = c.new-columns.ensures.items ∙ sym (generated_columns_first c.args.draws.now c.args.rows);
  state = sym (at_column_first c.args.rows c.args.draws.now);
}

pub loop-j-preserved : goal.loop-j-preserved
loop-j-preserved c =
    let more = generated_columns_more c.args.draws.now c.args.rows c.loop-j.j in
    let on = at_column_more c.args.rows c.args.draws.now c.loop-j.j in
    let drawn = generated_column c.args.rows c.loop-j.j in
    let this = c.in_ok-column.ensures.column ∙ ap drawn c.loop-j.invariant.state in
    record {
      columns =
          c.in_ok-push.ensures.items
          ∙ ap₂ (λ cs x. cs ++ x ∷ []) c.loop-j.invariant.columns this
          ∙ sym more;
      state = c.in_ok-column.ensures.state ∙ ap (λ s. at_row (after 2 s) c.args.rows) c.loop-j.invariant.state ∙ sym on;
    }
