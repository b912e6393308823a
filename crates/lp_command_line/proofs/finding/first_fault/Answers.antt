-- By the command that the first word names.
use Rattle.std.proofs.Common.{Some, None, sym, ap, ◌∙◌, map, take, drop, length, ◌-◌}
use Rattle.std.specs.Prelude.{string_bytes}
use Rattle.lp_command_line.proofs.Faultless.{no-word, by-word, fault_of}
use Rattle.lp_command_line.proofs.OptionLemmas.{first-word}
use Rattle.lp_command_line.proofs.finding.first_fault.Goals as goal

pub returns-in_default : goal.returns-in_default
returns-in_default c = sym (no-word string_bytes c.args.words.now c.in_default.len_below)

pub returns-in-None : goal.returns-in-None
returns-in-None c =
    sym (by-word (map string_bytes c.args.words.now) _ c.as_bytes-word.result.now None
    (first-word string_bytes c.args.words.now c.word-item.result c.as_bytes-word.result.now c.in-len1-up.len_at_least
    c.word-item.is c.as_bytes-word.ensures.value)
    (sym c.in-None.ensures))

pub returns-in-Some-Run : goal.returns-in-Some-Run
returns-in-Some-Run c =
    let behind = map string_bytes (take (length c.args.words.now - 1) (drop 1 c.args.words.now)) in
    c.run_fault.ensures
    ∙ sym (by-word (map string_bytes c.args.words.now) behind c.as_bytes-word.result.now (Some c.in-Some-Run.field-0)
    (first-word string_bytes c.args.words.now c.word-item.result c.as_bytes-word.result.now c.in-len1-up.len_at_least
    c.word-item.is c.as_bytes-word.ensures.value)
    (sym c.in-Some-Run.ensures)
    ∙ ap (λ command. fault_of command behind) c.in-Some-Run.field-0-is)

pub returns-in-Some-Read : goal.returns-in-Some-Read
returns-in-Some-Read c =
    let behind = map string_bytes (take (length c.args.words.now - 1) (drop 1 c.args.words.now)) in
    c.text_fault.ensures
    ∙ sym (by-word (map string_bytes c.args.words.now) behind c.as_bytes-word.result.now (Some c.in-Some-Read.field-0)
    (first-word string_bytes c.args.words.now c.word-item.result c.as_bytes-word.result.now c.in-len1-up.len_at_least
    c.word-item.is c.as_bytes-word.ensures.value)
    (sym c.in-Some-Read.ensures)
    ∙ ap (λ command. fault_of command behind) c.in-Some-Read.field-0-is)

pub returns-in-Some-ByWidth : goal.returns-in-Some-ByWidth
returns-in-Some-ByWidth c =
    let behind = map string_bytes (take (length c.args.words.now - 1) (drop 1 c.args.words.now)) in
    c.wide_fault.ensures
    ∙ sym (by-word (map string_bytes c.args.words.now) behind c.as_bytes-word.result.now (Some c.in-Some-ByWidth.field-0)
    (first-word string_bytes c.args.words.now c.word-item.result c.as_bytes-word.result.now c.in-len1-up.len_at_least
    c.word-item.is c.as_bytes-word.ensures.value)
    (sym c.in-Some-ByWidth.ensures)
    ∙ ap (λ command. fault_of command behind) c.in-Some-ByWidth.field-0-is)

pub returns-in-Some-Range : goal.returns-in-Some-Range
returns-in-Some-Range c =
    let behind = map string_bytes (take (length c.args.words.now - 1) (drop 1 c.args.words.now)) in
    c.range_fault.ensures
    ∙ sym (by-word (map string_bytes c.args.words.now) behind c.as_bytes-word.result.now (Some c.in-Some-Range.field-0)
    (first-word string_bytes c.args.words.now c.word-item.result c.as_bytes-word.result.now c.in-len1-up.len_at_least
    c.word-item.is c.as_bytes-word.ensures.value)
    (sym c.in-Some-Range.ensures)
    ∙ ap (λ command. fault_of command behind) c.in-Some-Range.field-0-is)

pub returns-in-Some-Generate : goal.returns-in-Some-Generate
returns-in-Some-Generate c =
    let behind = map string_bytes (take (length c.args.words.now - 1) (drop 1 c.args.words.now)) in
    c.generate_fault.ensures
    ∙ sym (by-word (map string_bytes c.args.words.now) behind c.as_bytes-word.result.now (Some c.in-Some-Generate.field-0)
    (first-word string_bytes c.args.words.now c.word-item.result c.as_bytes-word.result.now c.in-len1-up.len_at_least
    c.word-item.is c.as_bytes-word.ensures.value)
    (sym c.in-Some-Generate.ensures)
    ∙ ap (λ command. fault_of command behind) c.in-Some-Generate.field-0-is)

pub returns-in-Some-Serve : goal.returns-in-Some-Serve
returns-in-Some-Serve c =
    let behind = map string_bytes (take (length c.args.words.now - 1) (drop 1 c.args.words.now)) in
    c.serve_fault.ensures
    ∙ sym (by-word (map string_bytes c.args.words.now) behind c.as_bytes-word.result.now (Some c.in-Some-Serve.field-0)
    (first-word string_bytes c.args.words.now c.word-item.result c.as_bytes-word.result.now c.in-len1-up.len_at_least
    c.word-item.is c.as_bytes-word.ensures.value)
    (sym c.in-Some-Serve.ensures)
    ∙ ap (λ command. fault_of command behind) c.in-Some-Serve.field-0-is)
