-- Which number, the name, and what stands behind them.
use Rattle.std.proofs.Common.{sym, ap, ◌∙◌}
use Rattle.std.specs.Prelude.{string_bytes, is_some}
use Rattle.lp_command_line.specs.declared.fault.Plain.TheVariants.{Number, Name}
use Rattle.lp_command_line.specs.WordFaults.{plain_fault, number_fault}
use Rattle.lp_command_line.proofs.Asking.{first-two}
use Rattle.lp_command_line.proofs.OptionFaults.{told-by}
use Rattle.lp_command_line.proofs.finding.number_fault.Goals as goal

pub returns : goal.returns
returns c =
    let cut =
    first-two string_bytes c.args.words.now c.what-item.result c.name-item.result c.as_bytes-what.result.now
    c.as_bytes-name.result.now c.in-len2-up.len_at_least c.what-item.is c.name-item.is c.as_bytes-what.ensures.value
    c.as_bytes-name.ensures.value
    in
    let what = c.plain_fault.ensures
    ∙ ap (plain_fault Number c.as_bytes-what.result.now) (c.is_some.ensures ∙ ap is_some c.moved_of.ensures) in
    let name = c.plain_fault-2.ensures ∙ ap (plain_fault Name c.as_bytes-name.result.now) c.is_plain.ensures in
    let both = told-by c.or.result c.plain_fault.result c.plain_fault-2.result _ _ c.or.ensures what name in
    told-by c.or-2.result c.or.result c.text_fault.result _ _ c.or-2.ensures both c.text_fault.ensures
    ∙ sym (ap number_fault cut)
