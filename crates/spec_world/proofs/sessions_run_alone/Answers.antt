use Rattle.spec_world.proofs.Worlds.{worlds_sound}
use Rattle.spec_world.proofs.sessions_run_alone.Goals as goal

pub returns : goal.returns
returns c = worlds_sound
