use Rattle.std.proofs.Common.{◌≡◌, ◌≢◌, ◌%◌, [], ◌∷◌, ◌++◌, sym, ap, ap₂, ◌∙◌}
use Rattle.spec_commands.specs.Draws.{next, draw}
use Rattle.spec_commands.specs.Generated.{number_from, at_row}
use Rattle.spec_commands.proofs.GeneratedSteps.{entries_some, at_row_some, entries_none, at_row_none, entries_first, at_row_first}
use Rattle.lp_text_commands.proofs.generator.parts.entries.Goals as goal
use Rattle.lp_text_commands.proofs.generator.parts.entries.Goals.{then-draw-eq0+in_ok-push, else-draw-eq0}

pub loop-row-init : goal.loop-row-init
loop-row-init c = record {
  entries = c.new-entries.ensures ∙ sym (entries_first c.args.draws.now);
  state = sym (at_row_first c.args.draws.now);
}

pub loop-row-preserved : goal.loop-row-preserved
loop-row-preserved c =
    let s = c.args.draws.now in
    let n = c.loop-row.row in
    let on : c.draw.new.self ≡ next (at_row s n) = c.draw.ensures.state ∙ ap next c.loop-row.invariant.state in
    let drawn : c.draw.result ≡ draw (at_row s n) = c.draw.ensures.value ∙ ap draw c.loop-row.invariant.state in
    elim c.if-draw-eq0.branch [
      | then-draw-eq0+in_ok-push w ↦
          let divides : draw (at_row s n) % 3 ≡ 0 = ap (λ r. r % 3) (sym drawn) ∙ w.if-draw-eq0.true in
          let number = w.number_from.ensures.value ∙ ap (number_from 1 9) on in
          record {
            entries =
                w.entries-is ∙ w.in_ok-push.ensures.ok
                ∙ ap₂ (λ es q. es ++ (n, q) ∷ []) c.loop-row.invariant.entries number
                ∙ sym (entries_some s n divides);
            state = w.draws-is ∙ w.number_from.ensures.state ∙ ap next on ∙ sym (at_row_some s n divides);
          }
      | else-draw-eq0 w ↦
          let none : draw (at_row s n) % 3 ≢ 0 = λ e. w.if-draw-eq0.false (ap (λ r. r % 3) drawn ∙ e) in
          record {
            entries = w.entries-is ∙ c.loop-row.invariant.entries ∙ sym (entries_none s n none);
            state = w.draws-is ∙ on ∙ sym (at_row_none s n none);
          }
    ]
