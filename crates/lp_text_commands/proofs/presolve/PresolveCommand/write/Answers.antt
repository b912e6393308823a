-- What is known of the end.
use Rattle.lp_text_commands.proofs.presolve.PresolveCommand.write.Goals as goal

pub print_end-requires : goal.print_end-requires
print_end-requires c = c.requires.made.may_answer
