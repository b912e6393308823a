-- Too few words, words behind the three, and three.
use Rattle.std.proofs.Common.{refl, sym, ◌∙◌, map, take, drop, length, ◌-◌}
use Rattle.std.specs.Prelude.{string_bytes}
use Rattle.spec_program.specs.CommandLine.{row_count_of, column_count_of}
use Rattle.lp_command_line.proofs.Asking.{few-generate, many-generate, three-words, asks-generate}
use Rattle.lp_command_line.proofs.PlainFaults.{first-words}
use Rattle.lp_command_line.proofs.line.generate_line.Goals as goal

pub returns-in_default : goal.returns-in_default
returns-in_default c = sym (few-generate string_bytes c.args.words.now c.in_default.len_below)

pub returns-then-not-is_empty : goal.returns-then-not-is_empty
returns-then-not-is_empty c =
    let seed = string_bytes c.seed-item.result in
    let rows = string_bytes c.rows-item.result in
    let columns = string_bytes c.columns-item.result in
    sym (many-generate string_bytes (take (length c.args.words.now - 3) (drop 3 c.args.words.now)) seed rows columns
    (map string_bytes c.args.words.now)
    (first-words string_bytes c.args.words.now c.seed-item.result c.rows-item.result c.columns-item.result seed rows
    columns c.in-len3-up.len_at_least c.seed-item.is c.rows-item.is c.columns-item.is refl refl refl)
    (sym c.is_empty.ensures ∙ c.if-not-is_empty.true))

pub returns : goal.returns
unfolding row_count_of column_count_of
returns c =
    c.generate_by.ensures
    ∙ sym (asks-generate (map string_bytes c.args.words.now) c.as_bytes.result.now c.as_bytes-2.result.now
    c.as_bytes-3.result.now c.seed_of-seed.result c.number_to-rows.result c.number_to-columns.result
    (three-words string_bytes (take (length c.args.words.now - 3) (drop 3 c.args.words.now)) c.as_bytes.result.now
    c.as_bytes-2.result.now c.as_bytes-3.result.now (map string_bytes c.args.words.now)
    (first-words string_bytes c.args.words.now c.seed-item.result c.rows-item.result c.columns-item.result
    c.as_bytes.result.now c.as_bytes-2.result.now c.as_bytes-3.result.now c.in-len3-up.len_at_least c.seed-item.is
    c.rows-item.is c.columns-item.is c.as_bytes.ensures.value c.as_bytes-2.ensures.value c.as_bytes-3.ensures.value)
    (sym c.is_empty.ensures ∙ c.if-not-is_empty.false))
    (sym c.seed_of-seed.ensures) (sym c.number_to-rows.ensures) (sym c.number_to-columns.ensures))
