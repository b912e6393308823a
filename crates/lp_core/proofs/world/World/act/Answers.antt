use Rattle.std.proofs.Common.{refl, rules}
use Rattle.lp_core.proofs.WorldActs.{act_steps}
use Rattle.lp_core.proofs.world.World.act.Goals as goal

pub returns-clause-fits : goal.returns-clause-fits
returns-clause-fits c =
    act_steps c.self.inside.seats.items c.self.inside.places.items c.self.inside.limit c.args.event.session
    (search rules) (search rules) c.index_mut-seat.result.now c.index_mut-seat.ensures.value
    _ _ _ _ _ _ c.self.view_is refl c.act.ensures.fits
