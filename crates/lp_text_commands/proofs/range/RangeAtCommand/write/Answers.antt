-- The range behind the answer, or nothing.
use Rattle.std.proofs.Common.{◌++◌, [], append-nil, ap, sym, subst, ◌∙◌}
use Rattle.std.proofs.lemmas.Result.{on_ok_weaker}
use Rattle.spec_commands.specs.RangeOut.{ranged_text}
use Rattle.lp_text_commands.specs.RangeEnds.{IsRangingOf}
use Rattle.lp_text_commands.proofs.SideLines.{one_on}
use Rattle.lp_text_commands.proofs.Ranging.{answered, behind, none_behind, with_range}
use Rattle.lp_text_commands.proofs.range.RangeAtCommand.write.Goals as goal

pub returns-in-Some : goal.returns-in-Some
returns-in-Some c =
    let m = c.args.model.now in
    let number = c.args.self.now in
    let end = c.args.ranged.now.end in
    let b = behind m end _ (subst (IsRangingOf m end) c.in-Some.is c.requires.made.ranging) in
    on_ok_weaker c.print_range.result
    (λ printed. one_on c.args.to.now _ _ (answered end) _ _ c.in_ok-print_answer.ensures
    (printed ∙ ap (λ o. c.print_answer.new.to ++ ranged_text o) (sym (c.range_of-range.ensures b.form b.basis b.from)))
    (with_range number.moved m number.at end _ (b.one number.moved number.at)))
    c.print_range.ensures

pub returns-in-None : goal.returns-in-None
returns-in-None c =
    let m = c.args.model.now in
    let number = c.args.self.now in
    let end = c.args.ranged.now.end in
    let none = none_behind m end (subst (IsRangingOf m end) c.in-None.is c.requires.made.ranging) in
    c.in_ok-print_answer.ensures
    ∙ ap (λ bs. c.args.to.now ++ bs)
    (sym (with_range number.moved m number.at end [] (none.0 number.moved number.at) ∙ append-nil (answered end)))
