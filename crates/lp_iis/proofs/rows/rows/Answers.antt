-- A row that stays, or one that does not.
use Rattle.std.proofs.Common.{◌++◌, ◌∷◌, [], Vec, Global, sym, ap, ◌∙◌, subst}
use Rattle.std.specs.Prelude.{All}
use Rattle.std.proofs.lemmas.List.Elements.{All-push}
use Rattle.spec_model.specs.Model.{ExactRow}
use Rattle.spec_model.specs.Kept.{IsNarrowRow}
use Rattle.spec_iis.specs.Only.{stays, only_row_at}
use Rattle.lp_iis.proofs.OneMore.{picked_more, picked_same}
use Rattle.lp_iis.proofs.rows.rows.Goals as goal
use Rattle.lp_iis.proofs.rows.rows.Goals.{then-stays+in_ok-row_at+in_ok-push, else-stays}

pub loop-i-preserved : goal.loop-i-preserved
loop-i-preserved c =
    elim c.if-stays.branch [
      | then-stays+in_ok-row_at+in_ok-push w ↦
          let items = ap (λ (v : Vec ExactRow Global). v.items) w.rows-is ∙ w.in_ok-push.ensures.items in
          record {
            items =
                items ∙ ap (λ r. c.loop-i.rows.items ++ r ∷ []) w.in_ok-row_at.ensures.value
                ∙ picked_more (stays c.args.sides.now) (only_row_at c.args.model.now c.args.sides.now) c.loop-i.i _
                c.loop-i.invariant.items (sym c.stays.ensures ∙ w.if-stays.true);
            narrow =
                subst (All IsNarrowRow) (sym items)
                (All-push IsNarrowRow c.loop-i.rows.items _ c.loop-i.invariant.narrow w.in_ok-row_at.ensures.narrow);
          }
      | else-stays w ↦
          let items = ap (λ (v : Vec ExactRow Global). v.items) w.rows-is in
          record {
            items =
                items
                ∙ picked_same (stays c.args.sides.now) (only_row_at c.args.model.now c.args.sides.now) c.loop-i.i _
                c.loop-i.invariant.items (sym c.stays.ensures ∙ w.if-stays.false);
            narrow = subst (All IsNarrowRow) (sym items) c.loop-i.invariant.narrow;
          }
    ]
