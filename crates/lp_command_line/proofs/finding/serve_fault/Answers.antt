-- The address, the options' names, and their values.
use Rattle.std.proofs.Common.{sym, ap, ◌∙◌}
use Rattle.std.specs.Prelude.{string_bytes}
use Rattle.lp_command_line.specs.declared.fault.Plain.TheVariants.{Address}
use Rattle.lp_command_line.specs.WordFaults.{plain_fault, serve_fault}
use Rattle.lp_command_line.proofs.OptionLemmas.{first-word}
use Rattle.lp_command_line.proofs.OptionFaults.{told-by}
use Rattle.lp_command_line.proofs.finding.serve_fault.Goals as goal

pub returns : goal.returns
returns c =
    let cut =
    first-word string_bytes c.args.words.now c.address-item.result c.as_bytes-address.result.now
    c.in-len1-up.len_at_least c.address-item.is c.as_bytes-address.ensures.value
    in
    let address =
    c.plain_fault.ensures ∙ ap (plain_fault Address c.as_bytes-address.result.now) c.is_plain.ensures
    in
    let named = told-by c.or.result c.plain_fault.result c.option_fault.result _ _ c.or.ensures address c.option_fault.ensures in
    let workers = told-by c.or-2.result c.or.result c.workers_fault.result _ _ c.or-2.ensures named c.workers_fault.ensures in
    let links = told-by c.or-3.result c.or-2.result c.links_fault.result _ _ c.or-3.ensures workers c.links_fault.ensures in
    told-by c.or-4.result c.or-3.result c.places_fault.result _ _ c.or-4.ensures links c.places_fault.ensures
    ∙ sym (ap serve_fault cut)
