-- What sessions hold follows a world of the definitions, event by event.
--
-- `follows_first`: the code's state of the opening world follows the empty list of events.
-- `follows_on`: what follows some events follows one event more after a step of that event.
use Rattle.std.proofs.Common.{◌≡◌, List, [], ◌∷◌, ◌++◌, length, refl, sym, ap, ◌∙◌, subst}
use Rattle.spec_world.specs.World.{ExactEvent, ExactEnd, WorldRun, opening_world}
use Rattle.spec_world.specs.World.{Server}
use Rattle.spec_world.proofs.Worlds.{worlds_sound}
use Rattle.spec_world.proofs.Held.{run_append}
use Rattle.lp_core.specs.Core.{Core, server_of, Shows, StepFits, Follows}

pub follows_first : (core : Core) → Shows core opening_world → Follows core []
follows_first core shows =
    record {
      w = opening_world;
      run = refl;
      shows = shows;
      is_sound =
          worlds_sound (server_of core) [] opening_world refl;
    }

pub follows_on : (old new : Core) (event : ExactEvent) (end : ExactEnd) → StepFits old event end new →
    (length new.held ≡ length old.held) × (new.limit ≡ old.limit) →
    (events : List ExactEvent) → Follows old events → Follows new (events ++ event ∷ [])
follows_on old new event end step size events f =
    let r = step f.w f.shows in
    let server : Server = server_of old in
    let run : WorldRun server opening_world (events ++ event ∷ []) r.0 =
    run_append server opening_world f.w r.0 events (event ∷ []) f.run (end, r.0, r.1, refl) in
    let same : server ≡ server_of new =
    ap (λ n. record { sessions = n; places = old.limit }) (sym size.0)
    ∙ ap (λ n. record { sessions = length new.held; places = n }) (sym size.1) in
    let moved : WorldRun (server_of new) opening_world (events ++ event ∷ []) r.0 =
    subst (λ s. WorldRun s opening_world (events ++ event ∷ []) r.0) same run in
    record {
      w = r.0;
      run = moved;
      shows = r.2;
      is_sound =
          worlds_sound (server_of new) (events ++ event ∷ []) r.0 moved;
    }
