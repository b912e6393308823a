-- No options, no form, and a form.
use Rattle.std.proofs.Common.{Some, None, sym, ap, ◌∙◌, map}
use Rattle.std.specs.Prelude.{string_bytes}
use Rattle.spec_program.specs.Spelled.{spelled_text, told}
use Rattle.lp_command_line.proofs.Asking.{text-refused, asks-text}
use Rattle.lp_command_line.proofs.line.text_line.Goals as goal

pub returns-then-not-are_options : goal.returns-then-not-are_options
returns-then-not-are_options c =
    sym (text-refused (map string_bytes c.args.words.now) (spelled_text c.args.command)
    (sym c.are_options.ensures ∙ c.if-not-are_options.true))

pub returns-in_err-style : goal.returns-in_err-style
returns-in_err-style c =
    ap told c.from_residual.ensures
    ∙ sym (asks-text (map string_bytes c.args.words.now) (spelled_text c.args.command) None
    (sym c.are_options.ensures ∙ c.if-not-are_options.false) (sym c.in_err-style.ensures))

pub returns : goal.returns
returns c =
    sym (asks-text (map string_bytes c.args.words.now) (spelled_text c.args.command) (Some c.in_ok-style.style)
    (sym c.are_options.ensures ∙ c.if-not-are_options.false) (sym c.in_ok-style.ensures))
