-- Two worlds in which the same was asked of a session.
use Rattle.std.proofs.Common.{◌≡◌, ℕ, List, map}
use Rattle.spec_server.specs.Exchanges.{Exchange}
use Rattle.spec_truth.specs.Agree.{HasMemory, RepliesAgree}
use Rattle.spec_truth.proofs.Agreement.{runs_agree}
use Rattle.spec_world.specs.World.{Server, ExactEvent, World, opening_world, WorldRun}
use Rattle.spec_world.proofs.Worlds.{worlds_sound}

-- in two worlds in which a session has ended the same requests, and memory did not run out for it, its answers agree
pub worlds_agree : (server server' : Server) (events events' : List ExactEvent) (world world' : World) (session : ℕ) →
    WorldRun server opening_world events world → WorldRun server' opening_world events' world' →
    map (λ (x : Exchange). x.ask) (world.sessions session).finished
    ≡ map (λ (x : Exchange). x.ask) (world'.sessions session).finished →
    HasMemory (world.sessions session).finished → HasMemory (world'.sessions session).finished →
    RepliesAgree (world.sessions session).finished (world'.sessions session).finished
worlds_agree server server' events events' world world' session run run' =
    let s = worlds_sound server events world run in
    let t = worlds_sound server' events' world' run' in
    runs_agree server.places server'.places (world.sessions session).finished (world'.sessions session).finished
    (world.sessions session).state (world'.sessions session).state (s.alone session) (t.alone session)
