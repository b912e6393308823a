-- The words, and the range behind them.
use Rattle.std.proofs.Common.{◌++◌, ap, sym, ◌∙◌}
use Rattle.std.proofs.lemmas.Result.{on_ok_weaker}
use Rattle.spec_commands.specs.RangeOut.{ranged_text}
use Rattle.lp_text_commands.proofs.SideLines.{one_on}
use Rattle.lp_text_commands.proofs.Ranging.{line_of}
use Rattle.lp_text_commands.proofs.range.all.print_number.Goals as goal

pub returns : goal.returns
returns c =
    on_ok_weaker c.print_range.result
    (λ printed. λ f basis from.
    one_on c.args.to.now _ _ _ _ _ c.in_ok-print_words.ensures
    (printed ∙ ap (λ o. c.print_words.new.to ++ ranged_text o) (sym (c.range_of.ensures f basis from)))
    (line_of c.args.moved c.args.model.now f basis c.args.at))
    c.print_range.ensures
