-- No word, the word for all numbers, and another one.
use Rattle.std.proofs.Common.{sym, ◌∙◌, map, take, drop, length, ◌-◌}
use Rattle.std.specs.Prelude.{string_bytes}
use Rattle.lp_command_line.proofs.Asking.{few-range, asks-all, asks-one}
use Rattle.lp_command_line.proofs.OptionLemmas.{first-word}
use Rattle.lp_command_line.proofs.line.range_line.Goals as goal

pub returns-in_default : goal.returns-in_default
returns-in_default c = sym (few-range string_bytes c.args.words.now c.in_default.len_below)

pub returns-then-is_all : goal.returns-then-is_all
returns-then-is_all c =
    c.text_line.ensures
    ∙ sym (asks-all c.as_bytes.result.now
    (map string_bytes (take (length c.args.words.now - 1) (drop 1 c.args.words.now)))
    (map string_bytes c.args.words.now)
    (first-word string_bytes c.args.words.now c.what-item.result c.as_bytes.result.now c.in-len1-up.len_at_least
    c.what-item.is c.as_bytes.ensures.value)
    (sym c.is_all.ensures ∙ c.if-is_all.true))

pub returns : goal.returns
returns c =
    c.number_line.ensures
    ∙ sym (asks-one c.as_bytes.result.now
    (map string_bytes (take (length c.args.words.now - 1) (drop 1 c.args.words.now)))
    (map string_bytes c.args.words.now)
    (first-word string_bytes c.args.words.now c.what-item.result c.as_bytes.result.now c.in-len1-up.len_at_least
    c.what-item.is c.as_bytes.ensures.value)
    (sym c.is_all.ensures ∙ c.if-is_all.false))
