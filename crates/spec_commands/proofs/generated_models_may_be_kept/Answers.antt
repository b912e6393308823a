use Rattle.spec_commands.proofs.GeneratedKept.{generated-kept}
use Rattle.spec_commands.proofs.generated_models_may_be_kept.Goals as goal

pub returns : goal.returns
returns c = generated-kept
