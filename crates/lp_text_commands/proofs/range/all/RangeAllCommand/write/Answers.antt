-- The ranges behind the answer, or nothing.
use Rattle.std.proofs.Common.{◌++◌, [], append-nil, ap, sym, subst, ◌∙◌}
use Rattle.std.proofs.lemmas.Result.{on_ok_weaker}
use Rattle.lp_text_commands.specs.RangeEnds.{IsRangingOf}
use Rattle.lp_text_commands.proofs.SideLines.{one_on}
use Rattle.lp_text_commands.proofs.Ranging.{answered, behind, none_behind, with_ranges}
use Rattle.lp_text_commands.proofs.range.all.RangeAllCommand.write.Goals as goal

pub returns-in-Some : goal.returns-in-Some
returns-in-Some c =
    let m = c.args.model.now in
    let end = c.args.ranged.now.end in
    let b = behind m end _ (subst (IsRangingOf m end) c.in-Some.is c.requires.made.ranging) in
    on_ok_weaker c.print_all.result
    (λ printed. one_on c.args.to.now _ _ (answered end) _ _ c.in_ok-print_answer.ensures
    (printed b.form b.basis b.from) (with_ranges m end _ b.all))
    c.print_all.ensures

pub returns-in-None : goal.returns-in-None
returns-in-None c =
    let m = c.args.model.now in
    let end = c.args.ranged.now.end in
    let none = none_behind m end (subst (IsRangingOf m end) c.in-None.is c.requires.made.ranging) in
    c.in_ok-print_answer.ensures
    ∙ ap (λ bs. c.args.to.now ++ bs) (sym (with_ranges m end [] none.1 ∙ append-nil (answered end)))
