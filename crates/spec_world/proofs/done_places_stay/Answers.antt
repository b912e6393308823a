use Rattle.spec_world.proofs.Events.{done_stays}
use Rattle.spec_world.proofs.done_places_stay.Goals as goal

pub returns : goal.returns
returns c = done_stays
