-- A script's run, ask by ask, in the order of the script.
--
-- `start`: before anything was read, sessions that have just opened are in a turn of no lines.
-- `takes_as`: where reading the next request has an outcome, it has any equal outcome.
use Rattle.std.proofs.Common.{◌≡◌, ℕ, ◌⊎◌, zero, suc, List, [], ◌∷◌, ◌++◌, replicate, Ok, Err}
use Rattle.std.proofs.Common.{ap, sym, ◌∙◌, append_assoc, append-nil, refl, inl, subst, ⊎_elim, Option}
use Rattle.std.specs.Prelude.{slice_index_or}
use Rattle.std.specs.Io.KnownBytes.{Appends}
use Rattle.std.proofs.KnownBytes.{Appends-trans, Appends-nil}
use Rattle.spec_text.specs.declared.line.Line.{Line}
use Rattle.spec_text.specs.declared.line.Line.TheVariants.{Over}
use Rattle.spec_board.specs.Places.{Logged, logged, Plays}
use Rattle.spec_server.specs.declared.addressing.Addressing.TheVariants.{Numbered}
use Rattle.spec_server.specs.declared.asks.Asked.{Asked}
use Rattle.spec_server.specs.Machine.{ExactAsk, ExactReply, State, opening}
use Rattle.spec_server.specs.Step.{AloneStep}
use Rattle.spec_server.specs.Exchanges.{Exchange, log_of}
use Rattle.spec_server.specs.Script.{Between, Ending, Cut, asks_from, pending_after, ending_by}
use Rattle.spec_server.specs.ScriptOut.{script_out}
use Rattle.spec_server.proofs.RunLemmas.{script_out-append, updated}
use Rattle.lp_base.specs.LinesState.{LinesState, at_start}
use Rattle.lp_base.specs.Taking.{ReadsLines, ReadsAll, ReadsPart}
use Rattle.lp_base.proofs.TakingLemmas.{reads_start, ReadsLines-append, ReadsUntil-append, stops_at_end, stops_over}
use Rattle.lp_base.proofs.TakingLemmas.{stops_with, stops_now}
use Rattle.lp_base.specs.declared.lines.LineStop.TheVariants as line_stops
use Rattle.lp_line.specs.declared.halt.Halt.{Halt}
use Rattle.lp_line.specs.Script.{NextAsk}
use Rattle.lp_line.specs.Takes.{TakesAsk, TakesNone, TakesEnd, TakesNext}
use Rattle.lp_script.specs.Sharing.{Sharing, as_places, SharesStep}
use Rattle.lp_line.specs.declared.halt.Halt.TheVariants as halts
use Rattle.lp_script.specs.Answer.{Together, opening_with, state_at, Answers, AnswersInPart}
use Rattle.lp_script.specs.Run.{Moves, EndsInput, EndsSo}
use Rattle.spec_server.specs.Streams.{streams}
use Rattle.lp_script.proofs.OneMore.{exchange_of, one_run}
use Rattle.lp_script.proofs.Answering.{one_run_to, one_log, one_line}
use Rattle.lp_script.proofs.ExchangesSoFar.{IsSoFar, runs_by_one, pending_more, so_far_more, so_far_none}
use Rattle.lp_script.proofs.Moving.{whole_front, moves_in_part, moves_broken_off, moves_all, moves_past}

-- The lines that were read so far were answered, and the sessions share as many places as at the start.
pub record Turn (places : ℕ) (left_before left_now taken_before taken_now : Option (List ℕ)) (reading : LinesState)
    (sessions : Together) : Type 0 where
  pub lines : List (Line (List ℕ))
  pub reads : ReadsLines left_before left_now at_start reading lines
  pub between : pending_after Numbered Between lines ≡ Between
  pub exchanges : List Exchange
  pub so_far : IsSoFar places exchanges lines (state_at sessions.states) (as_places sessions.sharing.done)
  pub places_stay : sessions.sharing.places ≡ places
  pub written : Appends taken_before taken_now (script_out exchanges)

-- of n sessions that have just opened, each one's state is the opening one
state-replicate : (n session : ℕ) → slice_index_or (replicate n opening) session opening ≡ opening
state-replicate zero session = refl
state-replicate (suc n) zero = refl
state-replicate (suc n) (suc session) = state-replicate n session

-- at the start
pub start : (places : ℕ) (left taken : Option (List ℕ)) (reading : LinesState) (sessions : Together) →
    reading ≡ at_start → sessions ≡ opening_with places → Turn places left left taken taken reading sessions
start places left taken reading sessions is_start are_opening = record {
  lines = [];
  reads = reads_start left reading is_start;
  between = refl;
  exchanges = [];
  so_far = record {
    asks = refl;
    runs = λ session. ap (λ (all : Together). state_at all.states session) are_opening ∙ state-replicate 65 session;
    played = ap (λ (all : Together). as_places all.sharing.done) are_opening;
  };
  places_stay = ap (λ (all : Together). all.sharing.places) are_opening;
  written = Appends-nil taken;
}

-- a step of a session that shares so many places with others is an `AloneStep` over so many places
step_in : {before new : State} {asked : ExactAsk} {old sharing : Sharing} {reply : ExactReply} (places : ℕ) →
    old.places ≡ places → (s : SharesStep before asked old reply new sharing) →
    AloneStep places before asked s.reads reply new
step_in {before} {new} {asked} {old} {sharing} {reply} places same s =
    subst (λ (p : ℕ). AloneStep p before asked s.reads reply new) same s.step

-- where a session takes a step that shares so many places, the places answer what it reads, and are as the step leaves
-- them
played_in : {before new : State} {old sharing : Sharing} {reply : ExactReply} (places : ℕ) (asked : Asked ExactAsk) →
    old.places ≡ places → (s : SharesStep before asked.ask old reply new sharing) →
    Plays places (as_places old.done) (log_of (exchange_of asked s.reads reply ∷ [])) (as_places sharing.done)
played_in {before} {new} {old} {sharing} {reply} places asked same s =
    subst (λ (log : List Logged). Plays places (as_places old.done) log (as_places sharing.done))
    (sym (one_log asked s.reads reply))
    (subst (λ (p : ℕ). Plays p (as_places old.done) (logged asked.session s.reads) (as_places sharing.done)) same
    (s.shares.played asked.session))

module _ {places : ℕ} {left_before left_now taken_before taken_now : Option (List ℕ)} (left_after : Option (List ℕ))
    {reading : LinesState} {sessions : Together}
    (t : Turn places left_before left_now taken_before taken_now reading sessions) where
  -- where the next request was read, and was answered with its reply written, the turn goes on with it
  pub turn_on : (taken_after : Option (List ℕ)) (new_reading : LinesState) (asked : Asked ExactAsk) →
      TakesAsk Numbered left_now left_after reading new_reading asked → (new : Together) →
      Answers taken_now taken_after sessions new asked →
      Turn places left_before left_after taken_before taken_after new_reading new
  turn_on taken_after new_reading asked k new a =
      let step = a.steps.step in
      let others : List Exchange = exchange_of asked step.reads a.reply ∷ [] in
      record {
        lines = t.lines ++ k.passed;
        reads = ReadsLines-append t.reads k.reads;
        between = pending_more t.lines k.passed t.between ∙ k.between;
        exchanges = t.exchanges ++ others;
        so_far = so_far_more places t.exchanges t.lines (state_at sessions.states) (as_places sessions.sharing.done)
            t.so_far t.between k.passed others (state_at new.states) (as_places new.sharing.done) (sym k.asks)
            (one_run places (state_at sessions.states) (state_at new.states) asked step.reads a.reply
            (step_in places t.places_stay step) a.steps.others)
            (played_in places asked t.places_stay step);
        places_stay = step.shares.places ∙ t.places_stay;
        written = subst (Appends taken_before taken_after) (sym (script_out-append t.exchanges others))
            (Appends-trans taken_before taken_now taken_after (script_out t.exchanges) (script_out others) t.written
            (subst (Appends taken_now taken_after) (sym (one_line asked step.reads a.reply)) a.written));
      }

  -- ---- where the run stops

  -- where more lines complete no ask, the exchanges of the lines before are those of all of these lines
  none_more : (more : List (Line (List ℕ))) → asks_from Numbered Between more ≡ [] →
      IsSoFar places t.exchanges (t.lines ++ more) (state_at sessions.states) (as_places sessions.sharing.done)
  none_more more none = so_far_none places t.exchanges t.lines _ _ t.so_far t.between more none

  -- where the input of a turn ends, the run has moved what its exchanges say, and ends as the end of the input says
  pub ended : (ending : Ending) → TakesEnd Numbered left_now left_after reading ending →
      (moves : Moves 1 places (streams left_before left_after taken_before taken_now)) × EndsInput moves ending
  ended ending k =
      let so = none_more k.none.passed k.none.asks in
      let m = moves_all t.exchanges (t.lines ++ k.none.passed) so.asks (runs_by_one places so) _ t.written
      (whole_front t.exchanges) (stops_at_end (ReadsUntil-append t.reads k.none.reads)) ending
      (ap ending_by (pending_more t.lines k.none.passed t.between) ∙ k.ends) in
      (m.0, m.1 refl)

  -- where a turn finds the input longer than may be read, the run has moved what its exchanges say, and ends with
  -- `Over`
  too_long : TakesNone Numbered left_now left_after reading (Ok Over) →
      (moves : Moves 1 places (streams left_before left_after taken_before taken_now)) × EndsSo moves (Err halts.Over)
  too_long k =
      let over = stops_over (ReadsUntil-append t.reads k.reads) in
      let so = none_more k.passed k.asks in
      let m = moves_past t.exchanges (t.lines ++ k.passed) so.asks (runs_by_one places so) _ t.written
      (whole_front t.exchanges) over.front over.past in
      (m.0, m.1 refl)

  -- where reading the next ask halts, the run has moved what its exchanges say, and ends with that halt
  pub stopped : (new : LinesState) (halt : Halt) → TakesNext Numbered left_now left_after reading new (Err halt) →
      (moves : Moves 1 places (streams left_before left_after taken_before taken_now)) × EndsSo moves (Err halt)
  stopped new halts.Read k =
      let so = none_more k.passed k.asks in
      let m = moves_broken_off t.exchanges (t.lines ++ k.passed) so.asks (runs_by_one places so) _ t.written
      (whole_front t.exchanges) (stops_with line_stops.Read (ReadsUntil-append t.reads k.reads)).front in
      (m.0, m.2 refl)
  stopped new halts.NoMemory k = (
    moves_in_part t.exchanges t.lines _ _ t.so_far k.passed (script_out t.exchanges) t.written (whole_front t.exchanges)
        (⊎_elim
        (λ r. stops_now (ReadsLines-append t.reads r))
        (λ u. inl (stops_with line_stops.NoMemory (ReadsUntil-append t.reads u)))
        k.reads),
    tt,
  )
  stopped new halts.Cut k = ended Cut k
  stopped new halts.Over k = too_long k
  stopped new halts.Write k = absurd k

  -- where the next ask was read, and was answered in part, the run has moved what its exchanges and that part say
  pub in_answer : (taken_after : Option (List ℕ)) (new : LinesState) (asked : Asked ExactAsk) →
      TakesAsk Numbered left_now left_after reading new asked → AnswersInPart taken_now taken_after sessions asked →
      Moves 1 places (streams left_before left_after taken_before taken_after)
  in_answer taken_after new asked k a =
      let others : List Exchange = exchange_of asked a.step.reads a.reply ∷ [] in
      let lines : List (Line (List ℕ)) = t.lines ++ k.passed in
      let states : ℕ → State = updated (state_at sessions.states) asked.session a.state in
      let so : IsSoFar places (t.exchanges ++ others) lines states (as_places a.sharing.done) =
      so_far_more places t.exchanges t.lines (state_at sessions.states) (as_places sessions.sharing.done) t.so_far
      t.between k.passed others states (as_places a.sharing.done) (sym k.asks)
      (one_run_to places (state_at sessions.states) asked a.step.reads a.reply a.state
      (step_in places t.places_stay a.step))
      (played_in places asked t.places_stay a.step) in
      moves_in_part (t.exchanges ++ others) lines states (as_places a.sharing.done) so []
      (script_out t.exchanges ++ a.written.bytes)
      (Appends-trans taken_before taken_now taken_after (script_out t.exchanges) a.written.bytes t.written
      a.written.taken) (
        a.written.front.0,
        append_assoc (script_out t.exchanges) a.written.bytes a.written.front.0
            ∙ ap (λ zs. script_out t.exchanges ++ zs) (a.written.front.1 ∙ sym (one_line asked a.step.reads a.reply))
            ∙ sym (script_out-append t.exchanges others),
      )
      (subst (λ (ls : List (Line (List ℕ))). ReadsPart left_before left_after ls ⊎ ReadsAll left_before left_after ls)
      (sym (append-nil lines)) (stops_now (ReadsLines-append t.reads k.reads)))

-- a next ask that is taken with one outcome is taken with an equal one
pub takes_as : (before after : Option (List ℕ)) (old new : LinesState) (taken is : NextAsk) → taken ≡ is →
    TakesNext Numbered before after old new taken → TakesNext Numbered before after old new is
takes_as before after old new taken is same k =
    subst (λ (t : NextAsk). TakesNext Numbered before after old new t) same k
