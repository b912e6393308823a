-- All columns, and then all rows.
use Rattle.std.proofs.Common.{refl, ap, ◌∙◌, ◌++◌}
use Rattle.std.proofs.lemmas.Result.{on_ok_weaker}
use Rattle.spec_program.specs.declared.command_line.Moved.TheVariants.{Cost, RightSide}
use Rattle.spec_commands.specs.RangesOut.{number_lines}
use Rattle.lp_text_commands.proofs.SideLines.{one_on}
use Rattle.lp_text_commands.proofs.range.all.print_all.Goals as goal

pub returns : goal.returns
returns c =
    on_ok_weaker c.print_numbers-2.result
    (λ printed. λ f basis from.
    one_on c.args.to.now _ _ _ _ _
    (c.in_ok-print_numbers.ensures f basis from
    ∙ ap (λ n. c.args.to.now ++ number_lines Cost c.args.model.now f basis n) c.cols.ensures.value)
    (printed f basis from
    ∙ ap (λ n. c.print_numbers.new.to ++ number_lines RightSide c.args.model.now f basis n) c.rows.ensures.value)
    refl)
    c.print_numbers-2.ensures
