-- One line more.
use Rattle.std.proofs.Common.{append-nil, sym, arith}
use Rattle.lp_text_commands.proofs.SideLines.{one_on}
use Rattle.lp_text_commands.proofs.Ranging.{lines_more}
use Rattle.lp_text_commands.proofs.range.all.print_numbers.Goals as goal

pub loop-at-init : goal.loop-at-init
loop-at-init c = λ f basis from. sym (append-nil c.args.to.now)

pub print_number-requires-clause-inside : goal.print_number-requires-clause-inside
print_number-requires-clause-inside c = omega (arith, c.loop-at-test.true, c.requires.inside)

pub loop-at-preserved : goal.loop-at-preserved
loop-at-preserved c = λ f basis from.
    one_on c.args.to.now _ _ _ _ _ (c.loop-at.invariant f basis from) (c.in_ok-print_number.ensures f basis from)
    (lines_more c.args.moved c.args.model.now f basis c.loop-at.at)
