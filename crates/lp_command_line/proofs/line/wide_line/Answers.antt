-- No options, no form, and a form with numbers of one kind or the other.
use Rattle.std.proofs.Common.{Some, None, sym, ap, ◌∙◌, map}
use Rattle.std.specs.Prelude.{string_bytes, option_map}
use Rattle.spec_program.specs.declared.command_line.CommandLine.TheVariants.{Read}
use Rattle.spec_program.specs.Spelled.{spelled_text, told}
use Rattle.lp_command_line.proofs.Asking.{wide-refused, asks-wide}
use Rattle.lp_command_line.proofs.line.wide_line.Goals as goal

pub returns-then-not-are_options : goal.returns-then-not-are_options
returns-then-not-are_options c =
    sym (wide-refused (map string_bytes c.args.words.now) (spelled_text c.args.narrow) (spelled_text c.args.wide)
    (sym c.are_options.ensures ∙ c.if-not-are_options.true))

pub returns-in_err-style : goal.returns-in_err-style
returns-in_err-style c =
    ap told c.from_residual.ensures
    ∙ sym (asks-wide (map string_bytes c.args.words.now) (spelled_text c.args.narrow) (spelled_text c.args.wide) None
    (sym c.are_options.ensures ∙ c.if-not-are_options.false) (sym c.in_err-style.ensures))

pub returns : goal.returns
returns c =
    ap (λ command. option_map (Read command) (Some c.in_ok-style.style)) c.command_by_width-command.ensures
    ∙ sym (asks-wide (map string_bytes c.args.words.now) (spelled_text c.args.narrow) (spelled_text c.args.wide) (Some c.in_ok-style.style)
    (sym c.are_options.ensures ∙ c.if-not-are_options.false) (sym c.in_ok-style.ensures))
