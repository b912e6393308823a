use Rattle.spec_world.proofs.Events.{not_where_disabled, end_fits}
use Rattle.spec_world.proofs.events_are_told.Goals as goal

pub returns : goal.returns
returns c = record { not = not_where_disabled; ends = end_fits }
