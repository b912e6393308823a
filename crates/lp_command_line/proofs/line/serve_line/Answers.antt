-- No words, an address or options that are none, and a server.
use Rattle.std.proofs.Common.{sym, ◌∙◌, map, take, drop, length, ◌-◌}
use Rattle.std.specs.Prelude.{string_bytes}
use Rattle.lp_command_line.proofs.Asking.{few-serve, no-address, serve-refused, asks-serve}
use Rattle.lp_command_line.proofs.OptionLemmas.{first-word}
use Rattle.lp_command_line.proofs.line.serve_line.Goals as goal

pub returns-in_default : goal.returns-in_default
returns-in_default c = sym (few-serve string_bytes c.args.words.now c.in_default.len_below)

pub returns-then-not-is_plain : goal.returns-then-not-is_plain
returns-then-not-is_plain c =
    let options = map string_bytes (take (length c.args.words.now - 1) (drop 1 c.args.words.now)) in
    let cut =
    first-word string_bytes c.args.words.now c.address-item.result c.as_bytes.result.now c.in-len1-up.len_at_least
    c.address-item.is c.as_bytes.ensures.value
    in
    elim c.then-not-is_plain.branch [
      | goal.then-not-is_plain-via-then-not-is_plain w ↦
          sym (no-address c.as_bytes.result.now options (map string_bytes c.args.words.now) cut
          (sym c.is_plain.ensures ∙ w.if-not-is_plain.true))
      | goal.then-not-is_plain-via-else-not-is_plain+then-not-are_options w ↦
          sym (serve-refused c.as_bytes.result.now options (map string_bytes c.args.words.now) cut
          (sym w.are_options.ensures ∙ w.if-not-are_options.true))
    ]

pub returns : goal.returns
returns c =
    c.serve_with.ensures
    ∙ sym (asks-serve c.as_bytes.result.now
    (map string_bytes (take (length c.args.words.now - 1) (drop 1 c.args.words.now)))
    (map string_bytes c.args.words.now)
    (first-word string_bytes c.args.words.now c.address-item.result c.as_bytes.result.now c.in-len1-up.len_at_least
    c.address-item.is c.as_bytes.ensures.value)
    (sym c.is_plain.ensures ∙ c.if-not-is_plain.false)
    (sym c.are_options.ensures ∙ c.if-not-are_options.false))
