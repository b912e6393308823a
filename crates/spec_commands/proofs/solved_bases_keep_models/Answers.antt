-- A solve to which nothing is handed ends as the cold one without a limit.
use Rattle.spec_commands.proofs.OptimalBasis.{solved_keeps}
use Rattle.spec_commands.proofs.solved_bases_keep_models.Goals as goal

pub returns : goal.returns
returns c = solved_keeps
