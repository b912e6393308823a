-- By the row of the command that the word names.
use Rattle.std.proofs.Common.{Some, None, sym, ap, ◌∙◌, map}
use Rattle.std.specs.Prelude.{string_bytes}
use Rattle.spec_program.specs.Spelled.{told}
use Rattle.lp_command_line.specs.declared.line.Command.TheVariants.{Run, Read, ByWidth, Range, Generate, Serve}
use Rattle.lp_command_line.proofs.Asking.{asks-command, no-words}
use Rattle.lp_command_line.proofs.OptionLemmas.{first-word}
use Rattle.lp_command_line.proofs.line.command_line_of.Goals as goal

pub returns-in_default : goal.returns-in_default
returns-in_default c = sym (no-words string_bytes c.args.words.now c.in_default.len_below)

pub returns-in_err-look_up : goal.returns-in_err-look_up
returns-in_err-look_up c =
    ap told c.from_residual.ensures
    ∙ sym (asks-command (map string_bytes c.args.words.now) _ c.as_bytes.result.now None
    (first-word string_bytes c.args.words.now c.word-item.result c.as_bytes.result.now c.in-len1-up.len_at_least
    c.word-item.is c.as_bytes.ensures.value)
    (sym c.in_err-look_up.ensures))

pub returns-in-Run : goal.returns-in-Run
returns-in-Run c =
    c.run_line.ensures
    ∙ sym (asks-command (map string_bytes c.args.words.now) _ c.as_bytes.result.now (Some Run)
    (first-word string_bytes c.args.words.now c.word-item.result c.as_bytes.result.now c.in-len1-up.len_at_least
    c.word-item.is c.as_bytes.ensures.value)
    (sym c.in_ok-look_up.ensures ∙ ap Some c.in-Run.is))

pub returns-in-Read : goal.returns-in-Read
returns-in-Read c =
    c.text_line.ensures
    ∙ sym (asks-command (map string_bytes c.args.words.now) _ c.as_bytes.result.now (Some (Read c.in-Read.command))
    (first-word string_bytes c.args.words.now c.word-item.result c.as_bytes.result.now c.in-len1-up.len_at_least
    c.word-item.is c.as_bytes.ensures.value)
    (sym c.in_ok-look_up.ensures ∙ ap Some c.in-Read.is))

pub returns-in-ByWidth : goal.returns-in-ByWidth
returns-in-ByWidth c =
    c.wide_line.ensures
    ∙ sym (asks-command (map string_bytes c.args.words.now) _ c.as_bytes.result.now
    (Some (ByWidth c.in-ByWidth.narrow c.in-ByWidth.wide))
    (first-word string_bytes c.args.words.now c.word-item.result c.as_bytes.result.now c.in-len1-up.len_at_least
    c.word-item.is c.as_bytes.ensures.value)
    (sym c.in_ok-look_up.ensures ∙ ap Some c.in-ByWidth.is))

pub returns-in-Range : goal.returns-in-Range
returns-in-Range c =
    c.range_line.ensures
    ∙ sym (asks-command (map string_bytes c.args.words.now) _ c.as_bytes.result.now (Some Range)
    (first-word string_bytes c.args.words.now c.word-item.result c.as_bytes.result.now c.in-len1-up.len_at_least
    c.word-item.is c.as_bytes.ensures.value)
    (sym c.in_ok-look_up.ensures ∙ ap Some c.in-Range.is))

pub returns-in-Generate : goal.returns-in-Generate
returns-in-Generate c =
    c.generate_line.ensures
    ∙ sym (asks-command (map string_bytes c.args.words.now) _ c.as_bytes.result.now (Some Generate)
    (first-word string_bytes c.args.words.now c.word-item.result c.as_bytes.result.now c.in-len1-up.len_at_least
    c.word-item.is c.as_bytes.ensures.value)
    (sym c.in_ok-look_up.ensures ∙ ap Some c.in-Generate.is))

pub returns-in-Serve : goal.returns-in-Serve
returns-in-Serve c =
    c.serve_line.ensures
    ∙ sym (asks-command (map string_bytes c.args.words.now) _ c.as_bytes.result.now (Some Serve)
    (first-word string_bytes c.args.words.now c.word-item.result c.as_bytes.result.now c.in-len1-up.len_at_least
    c.word-item.is c.as_bytes.ensures.value)
    (sym c.in_ok-look_up.ensures ∙ ap Some c.in-Serve.is))
