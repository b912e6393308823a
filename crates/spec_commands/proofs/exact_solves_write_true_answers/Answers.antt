use Rattle.spec_commands.proofs.WideWritten.{out_true}
use Rattle.spec_commands.proofs.exact_solves_write_true_answers.Goals as goal

pub returns : goal.returns
returns c = out_true
