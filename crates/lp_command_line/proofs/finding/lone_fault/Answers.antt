-- One word, which is one of the options or not.
use Rattle.std.proofs.Common.{true, false}
use Rattle.std.specs.Prelude.{string_bytes}
use Rattle.lp_command_line.specs.Words.{bytes_of}
use Rattle.lp_command_line.proofs.OptionFaults.{one-left}
use Rattle.lp_command_line.proofs.finding.lone_fault.Goals as goal

pub returns-then-is_one_of : goal.returns-then-is_one_of
returns-then-is_one_of c =
    one-left c.args.names.now (bytes_of c.args.switches.now) string_bytes c.args.words.now c.option-item.result c.as_bytes-option.result.now c.is_one_of.result
    true c.in-len1-up.len_at_least c.requires c.option-item.is c.as_bytes-option.ensures.value c.is_one_of.ensures
    c.if-is_one_of.true

pub returns-else-is_one_of : goal.returns-else-is_one_of
returns-else-is_one_of c =
    one-left c.args.names.now (bytes_of c.args.switches.now) string_bytes c.args.words.now c.option-item.result c.as_bytes-option.result.now c.is_one_of.result
    false c.in-len1-up.len_at_least c.requires c.option-item.is c.as_bytes-option.ensures.value c.is_one_of.ensures
    c.if-is_one_of.false
