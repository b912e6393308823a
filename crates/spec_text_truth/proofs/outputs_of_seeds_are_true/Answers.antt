use Rattle.spec_text_truth.proofs.TrueSeeds.{seed_true}
use Rattle.spec_text_truth.proofs.outputs_of_seeds_are_true.Goals as goal

pub returns : goal.returns
returns c = seed_true
