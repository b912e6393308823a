use Rattle.spec_mps.proofs.GreaterLimits.{spelled_more}
use Rattle.spec_mps.proofs.greater_limits_read_the_same.Goals as goal

pub returns : goal.returns
returns c = λ few many style lines m most h. spelled_more few many most style lines m h
