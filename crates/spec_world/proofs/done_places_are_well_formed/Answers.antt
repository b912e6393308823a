use Rattle.spec_world.proofs.FormedWorlds.{done_are_formed}
use Rattle.spec_world.proofs.done_places_are_well_formed.Goals as goal

pub returns : goal.returns
returns c = done_are_formed
