-- One column more.
use Rattle.std.proofs.Common.{◌<◌, length, sym, subst, ◌∙◌, arith}
use Rattle.std.specs.Prelude.{All}
use Rattle.std.proofs.lemmas.List.Elements.{All-push}
use Rattle.spec_model.specs.Model.{height}
use Rattle.spec_model.specs.Kept.{AreEntries}
use Rattle.lp_form.proofs.MadeForms.{column_more}
use Rattle.lp_form.proofs.standard.entries.Goals as goal

pub loop-j-preserved : goal.loop-j-preserved
loop-j-preserved c =
    let m = c.args.model.now in
    let i = c.loop-j.invariant in
    let l : c.loop-j.j < length m.columns = omega (arith, c.loop-j-test.true, c.cols-j-end.ensures.value) in
    let e = c.from_vec.ensures ∙ c.in_ok-column.ensures.items in
    record {
      items =
          column_more (λ c. c.entries) m.columns _ _ _ _ c.in_ok-push.ensures.ok i.items
          (e ∙ c.entries.ensures.value) l;
      kept =
          subst (All (AreEntries (height m))) (sym c.in_ok-push.ensures.ok)
          (All-push (AreEntries (height m)) _ _ i.kept (subst (AreEntries (height m)) (sym e) c.entries.ensures.kept));
    }
