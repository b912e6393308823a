-- Too few words, a name or options that are none, no such number, and a range.
use Rattle.std.proofs.Common.{Some, None, refl, sym, ap, ◌∙◌, map, take, drop, length, ◌-◌}
use Rattle.std.specs.Prelude.{string_bytes}
use Rattle.spec_program.specs.Spelled.{told}
use Rattle.lp_command_line.proofs.Asking.{few-number, first-two, no-name, number-refused, asks-number}
use Rattle.lp_command_line.proofs.line.number_line.Goals as goal

pub returns-in_default : goal.returns-in_default
returns-in_default c = sym (few-number string_bytes c.args.words.now c.in_default.len_below)

pub returns-then-not-is_plain : goal.returns-then-not-is_plain
returns-then-not-is_plain c =
    let options = map string_bytes (take (length c.args.words.now - 2) (drop 2 c.args.words.now)) in
    let what = string_bytes c.what-item.result in
    let cut =
    first-two string_bytes c.args.words.now c.what-item.result c.name-item.result what c.as_bytes-name.result.now
    c.in-len2-up.len_at_least c.what-item.is c.name-item.is refl c.as_bytes-name.ensures.value
    in
    elim c.then-not-is_plain.branch [
      | goal.then-not-is_plain-via-then-not-is_plain w ↦
          sym (no-name what c.as_bytes-name.result.now options (map string_bytes c.args.words.now) cut
          (sym c.is_plain.ensures ∙ w.if-not-is_plain.true))
      | goal.then-not-is_plain-via-else-not-is_plain+then-not-are_options w ↦
          sym (number-refused what c.as_bytes-name.result.now options (map string_bytes c.args.words.now) cut
          (sym w.are_options.ensures ∙ w.if-not-are_options.true))
    ]

pub returns-in_err-moved : goal.returns-in_err-moved
returns-in_err-moved c =
    ap told c.from_residual.ensures
    ∙ sym (asks-number c.as_bytes.result.now c.as_bytes-name.result.now
    (map string_bytes (take (length c.args.words.now - 2) (drop 2 c.args.words.now)))
    (map string_bytes c.args.words.now)
    (first-two string_bytes c.args.words.now c.what-item.result c.name-item.result c.as_bytes.result.now
    c.as_bytes-name.result.now c.in-len2-up.len_at_least c.what-item.is c.name-item.is c.as_bytes.ensures.value
    c.as_bytes-name.ensures.value)
    None
    (sym c.is_plain.ensures ∙ c.if-not-is_plain.false)
    (sym c.are_options.ensures ∙ c.if-not-are_options.false)
    (sym c.in_err-moved.ensures))

pub returns : goal.returns
returns c =
    c.range_with.ensures
    ∙ sym (asks-number c.as_bytes.result.now c.as_bytes-name.result.now
    (map string_bytes (take (length c.args.words.now - 2) (drop 2 c.args.words.now)))
    (map string_bytes c.args.words.now)
    (first-two string_bytes c.args.words.now c.what-item.result c.name-item.result c.as_bytes.result.now
    c.as_bytes-name.result.now c.in-len2-up.len_at_least c.what-item.is c.name-item.is c.as_bytes.ensures.value
    c.as_bytes-name.ensures.value)
    (Some c.in_ok-moved.moved)
    (sym c.is_plain.ensures ∙ c.if-not-is_plain.false)
    (sym c.are_options.ensures ∙ c.if-not-are_options.false)
    (sym c.in_ok-moved.ensures))
