use Rattle.spec_truth.proofs.LoadedLines.{loaded_from, loaded_from_ended, loaded_from_whole}
use Rattle.spec_truth.proofs.loaded_models_are_spelled.Goals as goal

pub returns : goal.returns
returns c = record { lines = loaded_from; ended = loaded_from_ended; whole = loaded_from_whole }
