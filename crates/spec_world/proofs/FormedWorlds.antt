-- In each world of asks whose models may be kept, the words of each place that is done are well formed.
use Rattle.std.proofs.Common.{◌≡◌, ℕ, zero, suc, Bool, true, false, cond, nat_eq, eqb-true, List, [], ◌∷◌, ◌++◌}
use Rattle.std.proofs.Common.{length, Option, Some, None, IfSome, refl, sym, ap, ◌∙◌, subst, ◌⊎◌, inl, inr}
use Rattle.std.proofs.lemmas.Bool.{eqb-false}
use Rattle.spec_model.specs.Model.{Model}
use Rattle.spec_model.specs.Kept.{IsUsualModel}
use Rattle.spec_runs.specs.Cold.{ExactSolveEnd}
use Rattle.spec_board.specs.Words.{IsWellFormed}
use Rattle.spec_board.specs.declared.place.Place.TheVariants as place
use Rattle.spec_board.specs.declared.read.Put.TheVariants.{Full, Raced}
use Rattle.spec_board.specs.declared.read.Read.TheVariants as read
use Rattle.spec_board.specs.Reads.{Words, ExactRead, Looked, has_shape, shown}
use Rattle.spec_board.specs.Places.{ExactPlace, place_at, with_place}
use Rattle.spec_board.proofs.SharedPlaces.{some_same, place_before, with_same, with_other}
use Rattle.spec_server.specs.declared.answer.How.{How}
use Rattle.spec_server.specs.declared.answer.Publication.TheVariants as publication
use Rattle.spec_server.specs.Machine.{ExactAsk, ExactReply, IsKeptAsk, State}
use Rattle.spec_server.specs.Step.{Begun, Answers, Looks, Begins, Pending, Worked, Ends, Publishes, is_found}
use Rattle.spec_server.specs.Step.{answered, with_answer, how_by, words_of_end, worked_with, Works}
use Rattle.spec_server.specs.Exchanges.{Exchange}
use Rattle.spec_server.proofs.Sessions.{step_keeps}
use Rattle.spec_world.specs.declared.event.Act.TheVariants as act
use Rattle.spec_world.specs.World.{Server, ExactAct, ExactEvent, ExactEnd, Stage, Idle, Counts, Sees, Solving, Puts}
use Rattle.spec_world.specs.World.{Claims, Writes, Session, World, opening_world, is_enabled, Left, begun_left, looking}
use Rattle.spec_world.specs.World.{read_of, seen_stage, worked_left, put_left}
use Rattle.spec_world.specs.World.{put_counted_left, claimed_left, done_left, Leaves, Takes, StepBy}
use Rattle.spec_world.specs.World.{WorldRun}
use Rattle.spec_world.specs.Sound.{IsKeptAct, AreKeptEvents}
use Rattle.spec_world.proofs.Stages.{IsSolving, IsWriting, StageFits}
use Rattle.spec_world.proofs.Acts.{shown_all}
use Rattle.spec_world.proofs.Worlds.{IsGood, opening_good, step_good}
use Rattle.spec_world.proofs.FormedWords.{IsFormedFound, published_formed}

-- ---- sessions and places

-- the words of a stage are well formed: those that the look found, or those to be published; other stages have none
abbrev IsFormedStage : Stage → Type 0
IsFormedStage (Solving found reads) = IsFormedFound found
IsFormedStage (Puts pending reads) = IsWellFormed pending.words
IsFormedStage (Claims pending c reads) = IsWellFormed pending.words
IsFormedStage (Writes pending k reads) = IsWellFormed pending.words
IsFormedStage other = Unit {0}

-- if the session holds a model, that is a usual one; and the words that it found or is to publish are well formed
record IsFormedSession (s : Session) : Type 0 where
  kept : IfSome s.state.model IsUsualModel
  stage : IsFormedStage s.stage

-- the words of each place that is done are well formed
abbrev ArePlacesFormed : List ExactPlace → Type 0
ArePlacesFormed now = (k : ℕ) (words : Words) → place_at now k ≡ Some (place.Done words) → IsWellFormed words

-- what an act leaves is well formed: its session with its model and words, and the words of the done places
record IsFormedLeft (left : Left) : Type 0 where
  session : IsFormedSession left.session
  places : ArePlacesFormed left.places

-- ---- what a solve leaves of the model

-- a solve that ends without a basis to publish leaves the model that was held
worked_model : (old : State) (found : Looked) (end : ExactSolveEnd) (how : How) (words : Option Words)
    (replied : ExactReply)
    (next : State) → Ends replied next ≡ worked_with old found end how words → next.model ≡ old.model
worked_model old found end how None replied next e = cc
worked_model old found end how (Some words) replied next e = by (is_found found words) e
  where
    by : (t : Bool) → Ends replied next
        ≡ cond t (Ends (answered old end) (with_answer old end how publication.Same))
        (Publishes (record { end = end; how = how; words = words })) → next.model ≡ old.model
    by true e = cc
    by false e = cc

-- the work of a solve that publishes nothing leaves the model that was held
works_model : (old : State) (found : Looked) (replied : ExactReply) (next : State) →
    Works old found (Ends replied next) → next.model ≡ old.model
works_model old found replied next (inl s) =
    worked_model old found s.solved.end (how_by found s.solved.route)
    (words_of_end s.form s.solved.end) replied next s.goes_on
works_model old found replied next (inr e) = let z : next ≡ old = cc in ap (λ (s : State). s.model) z

-- ---- acts

module _ (server : Server) (me : ℕ) (now : List ExactPlace) (state : State) (finished : List Exchange)
    (kept : IfSome state.model IsUsualModel) (formed : ArePlacesFormed now) where
  -- the session with the state and the ended requests of this module, at this stage
  abbrev session : Stage → Session
  session stage = record { state = state; stage = stage; finished = finished }

  -- the stage of a look holds no words, so each of them is well formed
  looking_formed : (shape : Words) (k : ℕ) (reads : List ExactRead) → IsFormedStage (looking shape k reads)
  looking_formed shape zero reads = tt
  looking_formed shape (suc k) reads = tt

  -- the act that begins a request whose model may be kept leaves well-formed words
  begun_formed : (asked : ExactAsk) (begun : Begun) → IsKeptAsk asked → Begins state asked begun →
      IsFormedLeft (begun_left me now (session Idle) asked begun)
  begun_formed asked (Answers replied next) may b = record {
    session = record {
      kept = step_keeps 0 state next asked [] replied
          (record { begun = Answers replied next; begins = b; goes_on = (refl, refl, refl) }) may kept;
      stage = tt;
    };
    places = formed;
  }
  begun_formed asked (Looks shape) may b =
      record { session = record { kept = kept; stage = tt }; places = formed }

  -- where place k is done, the stage of a look after its read of place k has well-formed words, if any
  seen_payload : (shape : Words) (k : ℕ) (reads : List ExactRead) (payload : Words) →
      place_at now k ≡ Some (place.Done payload) →
      IsFormedStage (seen_stage shape k reads (read.Seen k (shown shape payload)))
  seen_payload shape k reads payload at = by (has_shape shape (shown shape payload)) refl
    where
      by : (t : Bool) → has_shape shape (shown shape payload) ≡ t →
          IsFormedStage (cond t (Solving (Some (record { place = k; words = shown shape payload })) reads)
          (looking shape k reads))
      by true e = subst IsWellFormed (sym (shown_all shape payload e)) (formed k payload at)
      by false e = looking_formed shape k reads

  -- the stage of a look after its read of place k has well-formed words, if any, whatever the place is
  seen_place : (shape : Words) (k : ℕ) (reads : List ExactRead) (p : Option ExactPlace) → place_at now k ≡ p →
      IsFormedStage (seen_stage shape k (reads ++ read_of shape k p ∷ []) (read_of shape k p))
  seen_place shape k reads None at = looking_formed shape k (reads ++ read.NotDone k ∷ [])
  seen_place shape k reads (Some (place.Claimed owner)) at = looking_formed shape k (reads ++ read.NotDone k ∷ [])
  seen_place shape k reads (Some (place.Done payload)) at =
      seen_payload shape k (reads ++ read.Seen k (shown shape payload) ∷ []) payload at

  -- the act that solves leaves well-formed words, where those that were found are well formed
  worked_formed : (found : Looked) (reads : List ExactRead) (worked : Worked) → IsSolving state found reads →
      IsFormedFound found → Works state found worked →
      IsFormedLeft (worked_left me now (session (Solving found reads)) reads worked)
  worked_formed found reads (Ends replied next) h fits works = record {
    session = record {
      kept = subst (λ (m : Option Model). IfSome m IsUsualModel) (sym (works_model state found replied next works))
          kept;
      stage = tt;
    };
    places = formed;
  }
  worked_formed found reads (Publishes pending) h fits works = record {
    session = record {
      kept = kept;
      stage = published_formed state h.shape found reads pending kept h.begins h.look fits works;
    };
    places = formed;
  }

  -- counting the places for a put leaves well-formed words, where those to be put are well formed
  put_counted_formed : (pending : Pending) (reads : List ExactRead) → IsWellFormed pending.words →
      IsFormedLeft (put_counted_left server me now (session (Puts pending reads)) pending reads)
  put_counted_formed pending reads fits = by (nat_eq (length now) server.places)
    where
      by : (t : Bool) → IsFormedLeft
          (cond t
          (put_left me now (session (Puts pending reads)) pending reads (read.Count (length now)) (Full (length now)))
          (record {
            session = session (Claims pending (length now) (reads ++ read.Count (length now) ∷ []));
            places = now;
            reads = read.Count (length now) ∷ [];
            replied = None;
          }))
      by true = record { session = record { kept = kept; stage = tt }; places = formed }
      by false = record { session = record { kept = kept; stage = fits }; places = formed }

  -- one claimed place more leaves the words of each done place well formed
  claim_formed : ArePlacesFormed (now ++ place.Claimed me ∷ [])
  claim_formed k words at = by (place_before now k (place.Done words) (place.Claimed me) at)
    where
      by : (place_at now k ≡ Some (place.Done words)) ⊎ (place.Done words ≡ place.Claimed me) → IsWellFormed words
      by (inl e) = formed k words e
      by (inr e) = cc

  -- claiming a place for a put leaves well-formed words, where those to be put are well formed
  claimed_formed : (pending : Pending) (c : ℕ) (reads : List ExactRead) → IsWellFormed pending.words →
      IsFormedLeft (claimed_left me now (session (Claims pending c reads)) pending c reads)
  claimed_formed pending c reads fits = by (nat_eq (length now) c)
    where
      by : (t : Bool) → IsFormedLeft
          (cond t
          (record {
            session = session (Writes pending c (reads ++ read.Claim c ∷ []));
            places = now ++ place.Claimed me ∷ [];
            reads = read.Claim c ∷ [];
            replied = None;
          })
          (put_left me now (session (Claims pending c reads)) pending reads (read.Lost (length now))
          (Raced (length now))))
      by true = record { session = record { kept = kept; stage = fits }; places = claim_formed }
      by false = record { session = record { kept = kept; stage = tt }; places = formed }

  -- writing the words of a put leaves well-formed words, where those to be put are well formed
  done_formed : (pending : Pending) (k : ℕ) (reads : List ExactRead) → IsWriting server me now state pending k reads →
      IsWellFormed pending.words → IsFormedLeft (done_left me now (session (Writes pending k reads)) pending k reads)
  done_formed pending k reads h fits = record { session = record { kept = kept; stage = tt }; places = places }
    where
      places : ArePlacesFormed (with_place now k (place.Done pending.words))
      places j words at = by (nat_eq k j) refl
        where
          by : (t : Bool) → nat_eq k j ≡ t → IsWellFormed words
          by true e =
              let same : k ≡ j = eqb-true k j e in
              let there : place_at (with_place now k (place.Done pending.words)) j ≡ Some (place.Done pending.words) =
              subst (λ i. place_at (with_place now k (place.Done pending.words)) i ≡ Some (place.Done pending.words))
              same (with_same now k (place.Claimed me) (place.Done pending.words) h.mine) in
              let both : ◌≡◌ {A = ExactPlace} (place.Done pending.words) (place.Done words) =
              some_same (place.Done pending.words) (place.Done words) (sym there ∙ at) in
              let words_same : pending.words ≡ words = cc in subst IsWellFormed words_same fits
          by false e =
              formed j words (sym (with_other now k j (place.Done pending.words) (eqb-false k j e)) ∙ at)

  -- each act leaves well-formed words, where the session's stage has such, and a model that it brings may be kept
  act_formed : (stage : Stage) (a : ExactAct) (left : Left) → IsKeptAct a → IsFormedStage stage →
      StageFits server me now state stage → Leaves server me now (session stage) stage a left → IsFormedLeft left
  act_formed Idle (act.Ask asked) left may stage fits h =
      subst IsFormedLeft (sym h.2) (begun_formed asked h.0 may h.1)
  act_formed (Counts shape) act.Count left may stage fits h =
      subst IsFormedLeft (sym h)
      (record {
        session = record {
          kept = kept;
          stage = looking_formed shape (length now) (read.Count (length now) ∷ []);
        };
        places = formed;
      })
  act_formed (Sees shape k reads) (act.See j) left may stage fits h =
      subst IsFormedLeft (sym h)
      (record {
        session = record { kept = kept; stage = seen_place shape k reads (place_at now k) refl };
        places = formed;
      })
  act_formed (Solving found reads) act.Work left may stage fits h =
      subst IsFormedLeft (sym h.2) (worked_formed found reads h.0 fits stage h.1)
  act_formed (Puts pending reads) act.Count left may stage fits h =
      subst IsFormedLeft (sym h) (put_counted_formed pending reads stage)
  act_formed (Claims pending c reads) act.Claim left may stage fits h =
      subst IsFormedLeft (sym h) (claimed_formed pending c reads stage)
  act_formed (Writes pending k reads) act.Done left may stage fits h =
      subst IsFormedLeft (sym h) (done_formed pending k reads fits stage)
  act_formed stage other left may is fits h = absurd h

-- ---- worlds

-- each session's model may be kept and its words are well formed, and so are those of each done place
record IsFormedWorld (w : World) : Type 0 where
  sessions : (session : ℕ) → IsFormedSession (w.sessions session)
  places : ArePlacesFormed w.places

-- in the opening world all models may be kept and all words are well formed, as there are none
opening_formed : IsFormedWorld opening_world
opening_formed = record {
  sessions = λ session. record { kept = tt; stage = tt };
  places = λ k words e. absurd (let z = e in cc);
}

-- a good world whose models may be kept and whose words are well formed stays one after an act with a model that may be
-- kept
takes_formed : (server : Server) (old : World) (event : ExactEvent) (end : ExactEnd) (new : World) →
    IsGood server old → IsKeptAct event.act → IsFormedWorld old → Takes server old event end new → IsFormedWorld new
takes_formed server old event end new good may w t =
    let own : IsFormedSession (old.sessions event.session) = w.sessions event.session in
    let left : IsFormedLeft t.left =
    act_formed server event.session old.places (old.sessions event.session).state
    (old.sessions event.session).finished own.kept w.places (old.sessions event.session).stage event.act t.left may
    own.stage (good.stage event.session) t.leaves in
    record { sessions = each left; places = subst ArePlacesFormed (sym t.places) left.places }
  where
    each : IsFormedLeft t.left → (session : ℕ) → IsFormedSession (new.sessions session)
    each left session = by (nat_eq event.session session) refl
      where
        by : (b : Bool) → nat_eq event.session session ≡ b → IsFormedSession (new.sessions session)
        by true e =
            subst (λ i. IsFormedSession (new.sessions i)) (eqb-true event.session session e)
            (subst IsFormedSession (sym t.own) left.session)
        by false e =
            subst IsFormedSession (sym (t.others session (eqb-false event.session session e))) (w.sessions session)

-- a good world whose models may be kept and whose words are well formed stays one after an event, enabled or not
step_formed : (enabled : Bool) (server : Server) (old : World) (event : ExactEvent) (end : ExactEnd) (new : World) →
    IsGood server old → IsKeptAct event.act → IsFormedWorld old → StepBy enabled server old event end new →
    IsFormedWorld new
step_formed true server old event end new good may w t = takes_formed server old event end new good may w t
step_formed false server old event end new good may w h = subst IsFormedWorld (sym h.1) w

-- a good world whose models may be kept and whose words are well formed stays one after a run of events
run_formed : (server : Server) (old : World) (events : List ExactEvent) (new : World) → IsGood server old →
    AreKeptEvents events → IsFormedWorld old → WorldRun server old events new → IsFormedWorld new
run_formed server old [] new good may w run = subst IsFormedWorld (sym run) w
run_formed server old (event ∷ events) new good may w run =
    run_formed server run.1 events new (step_good server old event run.0 run.1 good run.2) may.1
    (step_formed (is_enabled server old event) server old event run.0 run.1 good may.0 w run.2) run.3

-- in each world of requests whose models may be kept, the words of a done place are well formed
pub done_are_formed : (server : Server) (events : List ExactEvent) (world : World) (k : ℕ) (words : Words) →
    AreKeptEvents events → WorldRun server opening_world events world →
    place_at world.places k ≡ Some (place.Done words) → IsWellFormed words
done_are_formed server events world k words may run =
    let w : IsFormedWorld world =
    run_formed server opening_world events world (opening_good server) may opening_formed run in w.places k words
