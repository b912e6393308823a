use Rattle.spec_commands.proofs.WideWritten.{based_true}
use Rattle.spec_commands.proofs.exact_solves_from_bases_write_true_answers.Goals as goal

pub returns : goal.returns
returns c = based_true
