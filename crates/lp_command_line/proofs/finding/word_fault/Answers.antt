-- There is a fault exactly where the words are no command line.
use Rattle.std.proofs.Common.{map}
use Rattle.std.specs.Prelude.{string_bytes}
use Rattle.lp_command_line.proofs.Faultless.{no-told_fault}
use Rattle.lp_command_line.proofs.finding.word_fault.Goals as goal

pub returns-clause-none : goal.returns-clause-none
returns-clause-none c = no-told_fault (map string_bytes c.args.words.now) c.first_fault.result c.first_fault.ensures
