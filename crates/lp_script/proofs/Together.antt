-- The sessions by their numbers, when one of them takes a step.
--
-- `states-replicate`: the states of new sessions at rest are opening states.
-- `rests`: where no session awaits anything, the session that is read at k awaits nothing.
-- `rests_more`: 65 sessions at rest stay so when one of them is replaced by one that awaits nothing.
-- `answers_ok`: a step whose reply was written answers its request; if the write failed there is nothing to show.
-- `answers_part`: a step of which a prefix of the reply was written answers its request in part.
use Rattle.std.proofs.Common.{◌≡◌, ℕ, zero, suc, ◌<◌, List, [], ◌∷◌, length, replicate, set, get_or}
use Rattle.std.proofs.Common.{Option, Result, Ok, Err, OnOk, refl, ap, sym, ◌∙◌, subst}
use Rattle.std.specs.Io.KnownBytes.{Appends}
use Rattle.std.proofs.lemmas.List.{get_or-map, get_or-set_same, get_or-set_other, map-set, length-map, length-set}
use Rattle.std.proofs.lemmas.List.{length-replicate}
use Rattle.std.proofs.lemmas.List.Elements.{All-set, All-replicate, All-same}
use Rattle.lp_base.specs.Beside.{Takes}
use Rattle.spec_server.specs.declared.addressing.Addressing.TheVariants.{Numbered}
use Rattle.spec_server.specs.declared.asks.Asked.{Asked}
use Rattle.spec_server.specs.Halves.{Standing, Nothing, at_rest}
use Rattle.spec_server.specs.Machine.{ExactAsk, ExactReply, State, opening}
use Rattle.spec_server.specs.Output.{reply_lines}
use Rattle.lp_script.specs.Sharing.{Sharing, SharesStep}
use Rattle.lp_script.specs.Answer.{Together, states_of, AreAtRest, opening_with, state_at, Steps}
use Rattle.lp_script.specs.Answer.{Answers, AnswersInPart}

pub states-replicate : (n : ℕ) → states_of (replicate n (at_rest opening)) ≡ replicate n opening
states-replicate zero = refl
states-replicate (suc n) = ap (λ states. opening ∷ states) (states-replicate n)

-- the state of session k among all states is that of the session that stands at k
state-at : (all : List Standing) (k : ℕ) (d : Standing) → k < length all →
    state_at (states_of all) k ≡ (get_or all k d).state
state-at all k d h = get_or-map (λ session. session.state) all k d opening h

-- a session of those at rest
pub rests : (all : List Standing) (k : ℕ) (standing : Standing) → k < length all → standing ≡ get_or all k standing →
    AreAtRest all → standing.awaits ≡ Nothing
rests all k standing within is rest = ap (λ (s : Standing). s.awaits) is ∙ rest k standing within

pub rests_more : (all : List Standing) (k : ℕ) (new : Standing) → new.awaits ≡ Nothing →
    (length all ≡ 65) × AreAtRest all → (length (set all k new) ≡ 65) × AreAtRest (set all k new)
rests_more all k new e rest =
    (length-set all k new ∙ rest.0, All-set (λ (s : Standing). s.awaits ≡ Nothing) all k new e rest.1)

-- all as they open
module _ (all : List Standing) (is : all ≡ replicate 65 (at_rest opening)) where
  -- 65 sessions as they open are at rest
  pub rests-opening : (length all ≡ 65) × AreAtRest all
  rests-opening = (
    ap length is ∙ length-replicate 65 (at_rest opening),
    All-same (λ (s : Standing). s.awaits ≡ Nothing) all (replicate 65 (at_rest opening)) is
        (All-replicate (λ (s : Standing). s.awaits ≡ Nothing) 65 (at_rest opening) refl),
  )

  -- 65 sessions as they open, with no place done, are what a script opens with
  pub opens : (sharing : Sharing) (places : ℕ) → sharing ≡ record { places = places; done = [] } →
      ◌≡◌ {A = Together} (record { states = states_of all; sharing = sharing }) (opening_with places)
  opens sharing places same =
      ap (λ (s : Sharing). record { states = states_of all; sharing = s }) same
      ∙ ap (λ (states : List State). record { states = states; sharing = record { places = places; done = [] } })
      (ap states_of is ∙ states-replicate 65)

-- the session that is asked has this standing from now on
module _ (all : List Standing) (asked : Asked ExactAsk) (within : asked.session < length all) (new : Standing) where
  -- the states of the sessions, where the asked session has its new standing
  abbrev changed : List State
  changed = states_of (set all asked.session new)

  -- the states with the asked session's changed are the old ones with its new state set
  changed_is : changed ≡ set (states_of all) asked.session new.state
  changed_is = map-set (λ session. session.state) all asked.session new

  -- the state of the asked session is the new one
  new_state : state_at changed asked.session ≡ new.state
  new_state =
      ap (λ (states : List State). state_at states asked.session) changed_is
      ∙ get_or-set_same (states_of all) asked.session new.state opening
      (subst (λ (n : ℕ). asked.session < n) (sym (length-map all (λ session. session.state))) within)

  -- where the asked session takes a step that shares the places, all sessions together take it, and only its state is
  -- another
  pub steps : (old sharing : Sharing) (reply : ExactReply) (standing : Standing) →
      standing ≡ get_or all asked.session standing → SharesStep standing.state asked.ask old reply new.state sharing →
      Steps (record { states = states_of all; sharing = old }) (record { states = changed; sharing = sharing }) asked
      reply
  steps old sharing reply standing is step =
      let was : standing.state ≡ state_at (states_of all) asked.session =
      ap (λ (s : Standing). s.state) is ∙ sym (state-at all asked.session standing within) in
      record {
        step = subst (λ (s : State). SharesStep s asked.ask old reply (state_at changed asked.session) sharing) was
            (subst (λ (s : State). SharesStep standing.state asked.ask old reply s sharing) (sym new_state) step);
        others = λ session other.
            ap (λ (states : List State). state_at states session) changed_is
            ∙ get_or-set_other (states_of all) asked.session session new.state opening other;
      }

-- ---- what is written of the reply

pub answers_ok : {E : Type 0} (result : Result (Unit {0}) E) (before after : Option (List ℕ)) (old new : Together)
    (asked : Asked ExactAsk) (reply : ExactReply) → Steps old new asked reply →
    OnOk result (Appends before after (reply_lines Numbered asked.session reply)) →
    OnOk result (Answers before after old new asked)
answers_ok (Ok u) before after old new asked reply steps written =
    record { reply = reply; steps = steps; written = written }
answers_ok (Err why) before after old new asked reply steps written = tt

pub answers_part : (before after : Option (List ℕ)) (old new : Together) (asked : Asked ExactAsk) (reply : ExactReply) →
    Steps old new asked reply → Takes before after (reply_lines Numbered asked.session reply) →
    AnswersInPart before after old asked
answers_part before after old new asked reply steps written = record {
  reply = reply;
  state = state_at new.states asked.session;
  sharing = new.sharing;
  step = steps.step;
  written = written;
}
