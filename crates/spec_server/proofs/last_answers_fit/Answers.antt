use Rattle.spec_server.proofs.LastFits.{step_fits}
use Rattle.spec_server.proofs.last_answers_fit.Goals as goal

pub returns : goal.returns
returns c = record { opening = tt; steps = step_fits }
