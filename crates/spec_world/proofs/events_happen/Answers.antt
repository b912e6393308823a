use Rattle.spec_world.proofs.Happening.{events_happen}
use Rattle.spec_world.proofs.events_happen.Goals as goal

pub returns : goal.returns
returns c = events_happen
