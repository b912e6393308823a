-- Behind the word for all numbers, or of all words.
use Rattle.std.proofs.Common.{sym, ◌∙◌, map, take, drop, length, ◌-◌}
use Rattle.std.specs.Prelude.{string_bytes}
use Rattle.lp_command_line.proofs.OptionLemmas.{first-word}
use Rattle.lp_command_line.proofs.Faultless.{all_fault, one_fault}
use Rattle.lp_command_line.proofs.finding.range_fault.Goals as goal

pub returns-then-is_all : goal.returns-then-is_all
returns-then-is_all c =
    c.text_fault.ensures
    ∙ sym (all_fault c.as_bytes.result.now
    (map string_bytes (take (length c.args.words.now - 1) (drop 1 c.args.words.now)))
    (map string_bytes c.args.words.now)
    (first-word string_bytes c.args.words.now c.what-item.result c.as_bytes.result.now c.in-len1-up.len_at_least
    c.what-item.is c.as_bytes.ensures.value)
    (sym c.is_all.ensures ∙ c.if-is_all.true))

pub returns : goal.returns
returns c =
    c.number_fault.ensures
    ∙ sym (one_fault c.as_bytes.result.now
    (map string_bytes (take (length c.args.words.now - 1) (drop 1 c.args.words.now)))
    (map string_bytes c.args.words.now)
    (first-word string_bytes c.args.words.now c.what-item.result c.as_bytes.result.now c.in-len1-up.len_at_least
    c.what-item.is c.as_bytes.ensures.value)
    (sym c.is_all.ensures ∙ c.if-is_all.false))
