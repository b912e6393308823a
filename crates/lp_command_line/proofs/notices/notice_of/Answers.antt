-- What asks for a notice is no command line.
use Rattle.std.proofs.Common.{map}
use Rattle.std.specs.Prelude.{string_bytes}
use Rattle.lp_command_line.proofs.Noticed.{no-command-by}
use Rattle.lp_command_line.proofs.notices.notice_of.Goals as goal

pub returns-clause-none : goal.returns-clause-none
returns-clause-none c = no-command-by (map string_bytes c.args.words.now) c.asked_by.result c.asked_by.ensures
