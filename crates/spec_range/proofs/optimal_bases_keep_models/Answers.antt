use Rattle.spec_range.proofs.ColdBases.{cold_keeps}
use Rattle.spec_range.proofs.EndBases.{bases_keep}
use Rattle.spec_range.proofs.optimal_bases_keep_models.Goals as goal

pub returns : goal.returns
returns c = record { answer = cold_keeps; phases = bases_keep }
