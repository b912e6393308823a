-- What one worker may reply is what a world replies in which the events of each ask stand together.
use Rattle.std.proofs.Common.{◌≡◌, ℕ, Bool, true, false, List, [], ◌∷◌, ◌++◌, map, refl, sym, ap, subst, nat_eq}
use Rattle.std.proofs.Common.{eqb-true}
use Rattle.std.proofs.lemmas.Bool.{eqb-false}
use Rattle.spec_board.specs.Places.{ExactPlace, Plays, logged}
use Rattle.spec_server.specs.Machine.{State}
use Rattle.spec_server.specs.Exchanges.{Exchange, AloneRun, of_session, log_of, RunFits}
use Rattle.spec_serve.proofs.LeftPlaces.{Plays-split}
use Rattle.spec_serve.proofs.OwnPart.{own_part, other_part}
use Rattle.spec_world.specs.declared.event.Act.TheVariants as act
use Rattle.spec_world.specs.World.{Server, Idle, Session, World, opening_world, ended}
use Rattle.spec_world.specs.Together.{by_session, AskRuns, Together, HaveSessions}
use Rattle.spec_world.proofs.Held.{holding, holds_own, holds_other}
use Rattle.spec_world.proofs.Running.{RunsTo, step_runs}

-- there is a world after the request of exchange x has run from `old` to its end: its session is idle in this state
-- with x as one exchange more, the others stay, and the places are `last`
record AskEnds (server : Server) (old : World) (x : Exchange) (state : State) (last : List ExactPlace) : Type 0 where
  new : World
  runs : AskRuns server old x new
  own : new.sessions x.session ≡ record {
    state = state;
    stage = Idle;
    finished =
        (old.sessions x.session).finished ++ x ∷ [];
  }
  others : (other : ℕ) → (x.session ≡ other → ⊥) → new.sessions other ≡ old.sessions other
  places : new.places ≡ last

-- what one worker does for a request may happen in a world as the acts of the request's session
ask_ends : (server : Server) (old : World) (x : Exchange) (state : State) (last : List ExactPlace) →
    RunsTo server old x.session x.ask x.reads x.reply state last → AskEnds server old x state last
ask_ends server old x state last r =
    let after : Session = ended x.session (old.sessions x.session) x.ask x.reads x.reply state in
    let new : World = holding old x.session after last (map (by_session x.session) (act.Ask x.ask ∷ r.acts)) in
    let own : new.sessions x.session ≡ after = holds_own old x.session after in
    record {
      new = new;
      runs = record {
        acts = r.acts;
        run = r.run;
        finished = ap (λ (s : Session). s.finished) own;
        is_idle =
            ap (λ (s : Session). s.stage) own;
      };
      own = own;
      others = λ other apart. holds_other old x.session after other apart;
      places = refl;
    }

-- each session is idle and may run on alone with its own of these exchanges, and the places answer their reads in order
-- and come to `last`
record IsReady (server : Server) (old : World) (xs : List Exchange) (last : List ExactPlace) : Type 0 where
  idle : (session : ℕ) → (old.sessions session).stage ≡ Idle
  alone : (session : ℕ) →
      (end : State) × AloneRun server.places (old.sessions session).state (of_session session xs) end
  played : Plays server.places old.places (log_of xs) last

module _ (server : Server) (old : World) (x : Exchange) (xs : List Exchange) (last middle : List ExactPlace)
    (state end : State) (ready : IsReady server old (x ∷ xs) last)
    (e : AskEnds server old x state middle) (rest : AloneRun server.places state (of_session x.session xs) end)
    (plays : Plays server.places middle (log_of xs) last) where
  -- what holds of the asked session as it is left, and of each other one as it was, holds of each session
  each : (P : ℕ → Session → Type 0) →
      P x.session (record { state = state; stage = Idle; finished = (old.sessions x.session).finished ++ x ∷ [] }) →
      ((other : ℕ) → (x.session ≡ other → ⊥) → P other (old.sessions other)) → (session : ℕ) →
      P session (e.new.sessions session)
  each P own others session = by (nat_eq x.session session) refl
    where
      by : (b : Bool) → nat_eq x.session session ≡ b → P session (e.new.sessions session)
      by true h = subst (λ i. P i (e.new.sessions i)) (eqb-true x.session session h)
          (subst (P x.session) (sym e.own) own)
      by false h = let apart = eqb-false x.session session h in
          subst (P session) (sym (e.others session apart)) (others session apart)

  -- after one request the world is ready for the other exchanges
  ready_on : IsReady server e.new xs last
  ready_on = record {
    idle = each (λ i s. s.stage ≡ Idle) refl (λ other apart. ready.idle other);
    alone = each (λ i s. (end : State) × AloneRun server.places s.state (of_session i xs) end) (end, rest)
        (λ other apart. let r = ready.alone other in
        (r.0, other_part server.places (old.sessions other).state x xs other r.0 apart r.1));
    played = subst (λ ps. Plays server.places ps (log_of xs) last) (sym e.places) plays;
  }

-- exchanges that one worker may have had from a world of idle sessions on may happen one after the other
together_from : (server : Server) (old : World) (xs : List Exchange) (last : List ExactPlace) →
    IsReady server old xs last → HaveSessions server xs → (new : World) × Together server old xs new
together_from server old [] last ready there = (old, refl)
together_from server old (x ∷ xs) last ready there =
    let own = ready.alone x.session in
    let run = own_part server.places (old.sessions x.session).state x xs own.0 own.1 in
    let p = Plays-split server.places old.places last (logged x.session x.reads) (log_of xs) ready.played in
    let e : AskEnds server old x run.0 p.0 =
    ask_ends server old x run.0 p.0
    (step_runs server old x.session there.0 (ready.idle x.session) p.0 x.ask x.reads x.reply run.0 run.1 p.1) in
    let more = together_from server e.new xs last
    (ready_on server old x xs last p.0 run.0 own.0 ready e run.2 p.2) there.1 in
    (more.0, (e.new, e.runs, more.1))

-- exchanges that one worker may have had are those of a world in which requests run one after the other
pub one_together : (server : Server) (xs : List Exchange) → RunFits server.places xs → HaveSessions server xs →
    (world : World) × Together server opening_world xs world
one_together server xs fits there =
    together_from server opening_world xs fits.last
    (record { idle = λ session. refl; alone = fits.alone; played = fits.played }) there
