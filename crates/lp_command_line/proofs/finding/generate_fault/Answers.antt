-- The three numbers, and what stands behind them.
use Rattle.std.proofs.Common.{sym, ap, ◌∙◌}
use Rattle.std.specs.Prelude.{string_bytes, is_some}
use Rattle.spec_program.specs.CommandLine.{row_count_of, column_count_of}
use Rattle.lp_command_line.specs.declared.fault.Plain.TheVariants.{Seed, Rows, Columns}
use Rattle.lp_command_line.specs.WordFaults.{plain_fault, generate_fault}
use Rattle.lp_command_line.proofs.OptionFaults.{told-by}
use Rattle.lp_command_line.proofs.PlainFaults.{first-words}
use Rattle.lp_command_line.proofs.finding.generate_fault.Goals as goal

pub returns : goal.returns
unfolding row_count_of column_count_of
returns c =
    let cut =
    first-words string_bytes c.args.words.now c.seed-item.result c.rows-item.result c.columns-item.result
    c.as_bytes-seed.result.now c.as_bytes-rows.result.now c.as_bytes-columns.result.now c.in-len3-up.len_at_least
    c.seed-item.is c.rows-item.is c.columns-item.is c.as_bytes-seed.ensures.value c.as_bytes-rows.ensures.value
    c.as_bytes-columns.ensures.value
    in
    let seed = c.plain_fault-seed.ensures
    ∙ ap (plain_fault Seed c.as_bytes-seed.result.now) (c.is_some.ensures ∙ ap is_some c.seed_of.ensures) in
    let rows = c.plain_fault-rows.ensures
    ∙ ap (plain_fault Rows c.as_bytes-rows.result.now) (c.is_some-2.ensures ∙ ap is_some c.number_to.ensures) in
    let columns = c.plain_fault-columns.ensures
    ∙ ap (plain_fault Columns c.as_bytes-columns.result.now) (c.is_some-3.ensures ∙ ap is_some c.number_to-2.ensures)
    in
    let both = told-by c.or.result c.plain_fault-seed.result c.plain_fault-rows.result _ _ c.or.ensures seed rows in
    let three = told-by c.or-2.result c.or.result c.plain_fault-columns.result _ _ c.or-2.ensures both columns in
    told-by c.or-3.result c.or-2.result c.option_fault.result _ _ c.or-3.ensures three c.option_fault.ensures
    ∙ sym (ap generate_fault cut)
