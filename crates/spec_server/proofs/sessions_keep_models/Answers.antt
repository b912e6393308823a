use Rattle.spec_server.proofs.Sessions.{step_keeps}
use Rattle.spec_server.proofs.sessions_keep_models.Goals as goal

pub returns : goal.returns
returns c = record { opening = tt; steps = step_keeps }
