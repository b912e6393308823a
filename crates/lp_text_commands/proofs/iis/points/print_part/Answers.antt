-- A line, unless the part is 0.
use Rattle.std.proofs.Common.{◌++◌, ap, ◌∙◌}
use Rattle.std.proofs.lemmas.Result.{on_ok_weaker}
use Rattle.spec_exact.specs.Fraction.{0ℚ}
use Rattle.spec_exact.proofs.Same.{same_is}
use Rattle.lp_text_commands.proofs.SideLines.{no_part, some_part}
use Rattle.lp_text_commands.proofs.iis.points.print_part.Goals as goal

pub returns-then-is_zero : goal.returns-then-is_zero
returns-then-is_zero c =
    no_part c.args.name.now c.args.value _ c.is_zero.result
    (same_is c.args.value 0ℚ c.is_zero.result c.is_zero.ensures) c.if-is_zero.true

pub returns : goal.returns
returns c =
    on_ok_weaker c.print_text.result
    (λ printed. printed
    ∙ ap (λ text. c.args.to.now ++ text)
    (some_part c.args.name.now c.args.value c.is_zero.result
    (same_is c.args.value 0ℚ c.is_zero.result c.is_zero.ensures) c.if-is_zero.false))
    c.print_text.ensures
