-- What one event does in a world that events have led to.
--
-- `step_reads`: where a world is good, an event adds at most one read, which the places answer as they are then.
-- `reads_now`: in a run from the opening, an event adds at most one read, which the places answer as they are then.
-- `done_stays`: a place that is done stays so, with its words, whatever events follow.
-- `end_fits`: in a run from the opening, an event that is taken ends with the reply of the request that it ends, or
--   quietly where it ends none; one that is not taken changes nothing.
-- `not_where_disabled`: an event ends with `Not` exactly where it is not enabled.
use Rattle.std.proofs.Common.{◌≡◌, ℕ, Bool, true, false, List, [], ◌∷◌, ◌++◌, Option, Some, None, refl, sym, ap}
use Rattle.std.proofs.Common.{◌∙◌, subst, nat_eq, eqb-true, ◌↔◌, arith}
use Rattle.std.proofs.lemmas.Bool.{eqb-false}
use Rattle.std.proofs.lemmas.List.{append-nil}
use Rattle.spec_board.specs.declared.place.Place.TheVariants as place
use Rattle.spec_board.specs.Places.{place_at, Plays, logged}
use Rattle.spec_server.specs.Machine.{ExactReply}
use Rattle.spec_serve.proofs.LeftPlaces.{plays_keep_done}
use Rattle.spec_world.specs.declared.event.StepEnd.TheVariants.{Not}
use Rattle.spec_world.specs.World.{Server, ExactEvent, ExactEnd, Session, World, opening_world, is_enabled, end_of}
use Rattle.spec_world.specs.World.{Takes, StepBy, WorldStep, WorldRun}
use Rattle.spec_world.specs.Sound.{reads_of, ReadsNow, EndFits}
use Rattle.spec_world.proofs.OneAct.{Grows}
use Rattle.spec_world.proofs.Worlds.{IsGood, opening_good, taken, step_good, run_good}

-- ---- reads

-- an act that is taken in a good world adds at most one read, which the places answer as they are then
takes_reads : (server : Server) (old : World) (event : ExactEvent) (end : ExactEnd) (new : World) →
    IsGood server old → Takes server old event end new → ReadsNow server old event new
takes_reads server old event end new good t =
    let m = taken server old event end new good t in
    record {
      made = t.left.reads;
      few = m.few;
      reads = ap reads_of t.own ∙ m.reads;
      answered = subst (Plays server.places old.places (logged event.session t.left.reads)) (sym t.places) m.answered;
      others = t.others;
    }

-- an event in a good world, enabled or not, adds at most one read, which the places answer as they are then
reads_by : (enabled : Bool) (server : Server) (old : World) (event : ExactEvent) (end : ExactEnd) (new : World) →
    IsGood server old → StepBy enabled server old event end new → ReadsNow server old event new
reads_by true server old event end new good t = takes_reads server old event end new good t
reads_by false server old event end new good h = record {
  made = [];
  few = omega arith;
  reads = ap (λ (w : World). reads_of (w.sessions event.session)) h.1
      ∙ sym (append-nil (reads_of (old.sessions event.session)));
  answered = ap (λ (w : World). w.places) h.1;
  others = λ other apart. ap (λ (w : World). w.sessions other) h.1;
}

pub step_reads : (server : Server) (old : World) (event : ExactEvent) (end : ExactEnd) (new : World) →
    IsGood server old → WorldStep server old event end new → ReadsNow server old event new
step_reads server old event end new good step =
    reads_by (is_enabled server old event) server old event end new good step

pub reads_now : (server : Server) (events : List ExactEvent) (old : World) (event : ExactEvent) (end : ExactEnd)
    (new : World) →
    WorldRun server opening_world events old → WorldStep server old event end new → ReadsNow server old event new
reads_now server events old event end new run step =
    step_reads server old event end new (run_good server opening_world events old (opening_good server) run) step

-- ---- places that are done

-- a place that is done in a good world keeps its words in each run of events
run_keeps : (server : Server) (old : World) (events : List ExactEvent) (new : World) (k : ℕ) (words : List ℕ) →
    IsGood server old → WorldRun server old events new →
    place_at old.places k ≡ Some (place.Done words) → place_at new.places k ≡ Some (place.Done words)
run_keeps server old [] new k words good run at =
    subst (λ (w : World). place_at w.places k ≡ Some (place.Done words)) (sym run) at
run_keeps server old (event ∷ events) new k words good run at =
    let r = step_reads server old event run.0 run.1 good run.2 in
    run_keeps server run.1 events new k words (step_good server old event run.0 run.1 good run.2) run.3
    (plays_keep_done server.places old.places run.1.places (logged event.session r.made) k words r.answered at)

pub done_stays : (server : Server) (before : List ExactEvent) (old : World) (events : List ExactEvent) (new : World)
    (k : ℕ) (words : List ℕ) →
    WorldRun server opening_world before old → WorldRun server old events new →
    place_at old.places k ≡ Some (place.Done words) → place_at new.places k ≡ Some (place.Done words)
done_stays server before old events new k words first run at =
    run_keeps server old events new k words
    (run_good server opening_world before old (opening_good server) first) run at

-- ---- ends

-- where an event's session has no more ended requests and other sessions stay, no session has more ended requests
same_lists : (old new : World) (event : ExactEvent) →
    (new.sessions event.session).finished ≡ (old.sessions event.session).finished →
    ((other : ℕ) → (event.session ≡ other → ⊥) → new.sessions other ≡ old.sessions other) → (session : ℕ) →
    (new.sessions session).finished ≡ (old.sessions session).finished
same_lists old new event own others session = by (nat_eq event.session session) refl
  where
    by : (b : Bool) → nat_eq event.session session ≡ b →
        (new.sessions session).finished ≡ (old.sessions session).finished
    by true e = subst (λ i. (new.sessions i).finished ≡ (old.sessions i).finished)
        (eqb-true event.session session e) own
    by false e = ap (λ (s : Session). s.finished) (others session (eqb-false event.session session e))

-- where a session's ended requests grow as an act's reply says, the end with this reply fits the event
end_by : (old new : World) (event : ExactEvent) (replied : Option ExactReply) →
    Grows event.session (old.sessions event.session) replied (new.sessions event.session) →
    ((other : ℕ) → (event.session ≡ other → ⊥) → new.sessions other ≡ old.sessions other) →
    new.events ≡ old.events ++ event ∷ [] → EndFits old event (end_of event.session replied) new
end_by old new event None g others events = (events, same_lists old new event g others)
end_by old new event (Some replied) g others events =
    (refl, events, record { exchange = g.0; finished = g.1; is_reply = g.3; is_idle = g.4 })

-- the end of an act that is taken in a good world fits what the act did
takes_end : (server : Server) (old : World) (event : ExactEvent) (end : ExactEnd) (new : World) → IsGood server old →
    Takes server old event end new → EndFits old event end new
takes_end server old event end new good t =
    let m = taken server old event end new good t in
    subst (λ e. EndFits old event e new) (sym t.ends)
    (end_by old new event t.left.replied
    (subst (Grows event.session (old.sessions event.session) t.left.replied) (sym t.own) m.grows) t.others t.events)

-- the end of an event in a good world fits what the event did, enabled or not
ends_by : (enabled : Bool) (server : Server) (old : World) (event : ExactEvent) (end : ExactEnd) (new : World) →
    IsGood server old → StepBy enabled server old event end new → EndFits old event end new
ends_by true server old event end new good t = takes_end server old event end new good t
ends_by false server old event end new good h = subst (λ e. EndFits old event e new) (sym h.0) h.1

pub end_fits : (server : Server) (events : List ExactEvent) (old : World) (event : ExactEvent) (end : ExactEnd)
    (new : World) →
    WorldRun server opening_world events old → WorldStep server old event end new → EndFits old event end new
end_fits server events old event end new run step =
    ends_by (is_enabled server old event) server old event end new
    (run_good server opening_world events old (opening_good server) run) step

-- the end of an act that was taken is not `Not`
taken_is_told : (session : ℕ) (replied : Option ExactReply) → end_of session replied ≡ Not → ⊥
taken_is_told session None e = cc
taken_is_told session (Some replied) e = cc

-- an event ends with `Not` where it is not enabled, and there alone
not_by : (enabled : Bool) (server : Server) (old : World) (event : ExactEvent) (end : ExactEnd) (new : World) →
    StepBy enabled server old event end new → (end ≡ Not) ↔ (enabled ≡ false)
not_by true server old event end new t = (
  λ e. absurd (taken_is_told event.session t.left.replied (sym t.ends ∙ e)),
  λ e. absurd (let z : true ≡ false =
      e in cc),
)
not_by false server old event end new h = (λ e. refl, λ e. h.0)

pub not_where_disabled : (server : Server) (old : World) (event : ExactEvent) (end : ExactEnd) (new : World) →
    WorldStep server old event end new → (end ≡ Not) ↔ (is_enabled server old event ≡ false)
not_where_disabled server old event end new step = not_by (is_enabled server old event) server old event end new step
