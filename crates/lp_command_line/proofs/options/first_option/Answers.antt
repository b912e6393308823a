-- No word, a switch, a lone word that is none, and an option with its value.
use Rattle.std.proofs.Common.{sym, ap, ◌∙◌, ◌∷◌, map, take, drop, length, ◌-◌}
use Rattle.std.specs.Prelude.{string_bytes}
use Rattle.lp_command_line.specs.Words.{bytes_of}
use Rattle.lp_command_line.proofs.OptionLemmas.{any-bytes, cut-none, cut-switch, cut-short, cut-value, first-word}
use Rattle.lp_command_line.proofs.options.first_option.Goals as goal

pub returns-in_default-clause-cut : goal.returns-in_default-clause-cut
returns-in_default-clause-cut c =
    cut-none (bytes_of c.args.switches.now) string_bytes c.args.words.now c.in_default.len_below

pub returns-then-is_one_of-clause-cut : goal.returns-then-is_one_of-clause-cut
returns-then-is_one_of-clause-cut c =
    cut-switch (bytes_of c.args.switches.now) (map string_bytes c.args.words.now) c.as_bytes-option.result.now
    (map string_bytes (take (length c.args.words.now - 1) (drop 1 c.args.words.now)))
    (first-word string_bytes c.args.words.now c.option-item.result c.as_bytes-option.result.now
    c.in-len1-up.len_at_least c.option-item.is c.as_bytes-option.ensures.value)
    (sym (any-bytes c.as_bytes-option.result.now c.args.switches.now) ∙ sym c.is_one_of.ensures ∙ c.if-is_one_of.true)

pub returns-in_default-behind-clause-cut : goal.returns-in_default-behind-clause-cut
returns-in_default-behind-clause-cut c =
    cut-short (bytes_of c.args.switches.now) string_bytes (map string_bytes c.args.words.now)
    c.as_bytes-option.result.now (take (length c.args.words.now - 1) (drop 1 c.args.words.now))
    (first-word string_bytes c.args.words.now c.option-item.result c.as_bytes-option.result.now
    c.in-len1-up.len_at_least c.option-item.is c.as_bytes-option.ensures.value)
    c.in_default-behind.len_below
    (sym (any-bytes c.as_bytes-option.result.now c.args.switches.now) ∙ sym c.is_one_of.ensures ∙ c.if-is_one_of.false)

pub returns-clause-cut : goal.returns-clause-cut
returns-clause-cut c =
    let behind = take (length c.args.words.now - 1) (drop 1 c.args.words.now) in
    cut-value (bytes_of c.args.switches.now) (map string_bytes c.args.words.now) c.as_bytes-option.result.now
    c.as_bytes.result.now (map string_bytes (take (length behind - 1) (drop 1 behind)))
    (first-word string_bytes c.args.words.now c.option-item.result c.as_bytes-option.result.now
    c.in-len1-up.len_at_least c.option-item.is c.as_bytes-option.ensures.value
    ∙ ap (λ words. c.as_bytes-option.result.now ∷ words)
    (first-word string_bytes behind c.value-item.result c.as_bytes.result.now c.in-len1-up-behind.len_at_least
    c.value-item.is c.as_bytes.ensures.value))
    (sym (any-bytes c.as_bytes-option.result.now c.args.switches.now) ∙ sym c.is_one_of.ensures ∙ c.if-is_one_of.false)
