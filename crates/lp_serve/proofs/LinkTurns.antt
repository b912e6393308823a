-- The service of a connection, ask by ask.
--
-- `served_nothing`: a connection on which memory ran out before it was read is served without an exchange.
-- `start`: before anything was read, a new session is in a turn of no lines.
use Rattle.std.proofs.Common.{◌≡◌, ℕ, ◌⊎◌, List, [], ◌∷◌, ◌++◌, map, true, false, Option, Ok, Err}
use Rattle.std.proofs.Common.{ap, sym, ◌∙◌, append_assoc, append-nil, refl, inl, inr, subst, ⊎_elim}
use Rattle.std.specs.Io.KnownBytes.{Consumes, Appends}
use Rattle.std.proofs.KnownBytes.{Appends-trans, Appends-nil, Consumes-nil}
use Rattle.std.proofs.lemmas.Grind.{flat_map-append}
use Rattle.spec_text.specs.Lines.{IsPrefixOf}
use Rattle.spec_text.specs.declared.line.Line.{Line}
use Rattle.spec_text.specs.declared.line.Line.TheVariants.{Over}
use Rattle.spec_server.specs.declared.addressing.Addressing.TheVariants.{Alone}
use Rattle.spec_server.specs.declared.asks.Asked.{Asked}
use Rattle.spec_server.specs.Machine.{ExactAsk, ExactReply, State, opening}
use Rattle.spec_server.specs.Exchanges.{Exchange, asked_in}
use Rattle.spec_server.specs.Output.{reply_lines}
use Rattle.spec_server.specs.Script.{Pending, Between, Script, Ending, Ended, Cut, asks_from, pending_after, ending_by}
use Rattle.spec_server.specs.Script as script
use Rattle.spec_server.specs.Streams.{streams}
use Rattle.spec_server.proofs.RunLemmas.{asked_in-append}
use Rattle.spec_server.proofs.ScriptLemmas.{asks_from-append, pending_after-append}
use Rattle.spec_serve.specs.declared.link_end.LinkEnd.{LinkEnd}
use Rattle.spec_serve.specs.declared.link_end.LinkEnd.TheVariants as end
use Rattle.spec_serve.specs.Link.{is_quit, quits, link_asks_of, link_out, AreFirstOf, HoldsOfAll, LinkMoves, EndsLink}
use Rattle.spec_serve.specs.Link.{BreaksLink, EndsLinkSo}
use Rattle.spec_serve.proofs.UpToQuit.{quits_not}
use Rattle.spec_serve.proofs.LinkAsks.{AsksBegin, asks_of_lines, first_asks, first_asks_with, asks_to_quit}
use Rattle.spec_serve.proofs.LinkAsks.{asks_at_end, asks_past, ended_asks}
use Rattle.basis_board.specs.declared.seats.View.{View}
use Rattle.basis_board.specs.Rule.{Consistent}
use Rattle.lp_base.specs.Beside.{Takes}
use Rattle.lp_base.specs.LinesState.{LinesState, at_start}
use Rattle.lp_base.specs.Taking.{ReadsLines}
use Rattle.lp_base.specs.declared.lines.LineStop.TheVariants.{Read}
use Rattle.lp_base.proofs.TakingLemmas.{reads_start, ReadsLines-append, ReadsUntil-append, stops_at_end, stops_over}
use Rattle.lp_line.specs.Hearing.{TakesPart}
use Rattle.lp_line.specs.Takes.{TakesAsk, TakesNone, TakesEnd}
use Rattle.lp_session.specs.Boarding.{AddsStep, StepCalls}
use Rattle.lp_serve.specs.Service as service
use Rattle.lp_serve.specs.Service.{Steps, ServesBy}
use Rattle.lp_serve.proofs.LinkReading.{ComeFirst, ReadsFirst, holds_too, fewer_first, reads_first, given_up_first}
use Rattle.lp_serve.proofs.LinkReading.{broken_first}
use Rattle.lp_serve.proofs.LinkSteps.{exchange_of, step_by, steps_more, steps_run}

-- ---- lines after those that end between two commands

-- where lines of a connection end between two commands, more lines have the requests that they have alone
asks_more : (lines more : List (Line (List ℕ))) → pending_after Alone Between lines ≡ Between →
    asks_of_lines (lines ++ more) ≡ asks_of_lines lines ++ asks_of_lines more
asks_more lines more between =
    asks_from-append Alone Between lines more
    ∙ ap (λ (p : Pending). asks_of_lines lines ++ asks_from Alone p more) between

-- where lines of a connection lead between two commands, more lines lead to where they lead alone
pending_more : (lines more : List (Line (List ℕ))) → pending_after Alone Between lines ≡ Between →
    pending_after Alone Between (lines ++ more) ≡ pending_after Alone Between more
pending_more lines more between =
    pending_after-append Alone Between lines more ∙ ap (λ (p : Pending). pending_after Alone p more) between

-- ---- what is written

-- the output of two lists of exchanges together is that of one and then that of the other
link_out-append : (xs ys : List Exchange) → link_out (xs ++ ys) ≡ link_out xs ++ link_out ys
link_out-append xs ys = flat_map-append (λ x. reply_lines Alone x.session x.reply) xs ys

-- the output of exchanges is a prefix of itself
whole_front : (xs : List Exchange) → IsPrefixOf (link_out xs) (link_out xs)
whole_front xs = ([], append-nil (link_out xs))

-- ---- what the service is

-- the requests of a script are a prefix of themselves
all_first : (asks : List (Asked ExactAsk)) (ending : Ending) (s : Script) →
    s ≡ record { asks = asks; ending = ending } → AreFirstOf asks s.asks
all_first asks ending s is = ([], ap (λ (r : Script). r.asks) is ∙ sym (append-nil asks))

module _ {before after taken_before taken_after : Option (List ℕ)} (v w : View) (state : State)
    (exchanges : List Exchange) (steps : Steps v opening exchanges w state) where
  -- what a link has moved where these bytes were read and written of its exchanges, whose requests come first in all
  -- that it sends
  abbrev moves_by : (read written : List ℕ) → Consumes before after read → Appends taken_before taken_after written →
      IsPrefixOf written (link_out exchanges) →
      HoldsOfAll after read (λ bytes. AreFirstOf (map asked_in exchanges) (link_asks_of bytes).asks) →
      LinkMoves v.places (streams before after taken_before taken_after) exchanges
  moves_by read written consumed appended front first = record {
    read = read;
    written = written;
    last = state;
    consumed = consumed;
    appended = appended;
    asks = first;
    runs = (steps_run v w opening state exchanges steps).1;
    front = front;
  }

  -- a link that has moved what these exchanges say, and with it suits this end, was served with this end
  served : (ended : LinkEnd) →
      (moves : LinkMoves v.places (streams before after taken_before taken_after) exchanges) →
      EndsLinkSo moves ended → ServesBy (streams before after taken_before taken_after) v w ended
  served ended moves ends = record { exchanges = exchanges; last = state; serves = (moves, ends); steps = steps }

-- nothing was read or written
pub served_nothing : (left taken : Option (List ℕ)) (v : View) →
    ServesBy (streams left left taken taken) v v end.NoMemory
served_nothing left taken v =
    served v v opening [] (refl, refl) end.NoMemory
    (moves_by v v opening [] (refl, refl) [] [] (Consumes-nil left) (Appends-nil taken) ([], refl)
    (inr (λ more. ((link_asks_of more).asks, refl))))
    tt

-- ---- so far

-- The lines that were read so far were answered, and none of them said QUIT.
pub record Turn (before now taken_before taken_now : Option (List ℕ)) (reading : LinesState) (v w : View)
    (state : State) : Type 0 where
  pub lines : List (Line (List ℕ))
  pub reads : ReadsLines before now at_start reading lines
  pub between : pending_after Alone Between lines ≡ Between
  pub exchanges : List Exchange
  pub asks : map asked_in exchanges ≡ asks_of_lines lines
  pub goes_on : quits (map asked_in exchanges) ≡ false
  pub steps : Steps v opening exchanges w state
  pub written : Appends taken_before taken_now (link_out exchanges)

-- at the start
pub start : (left taken : Option (List ℕ)) (reading : LinesState) (v : View) (state : State) → reading ≡ at_start →
    state ≡ opening → Turn left left taken taken reading v v state
start left taken reading v state is_start opens = record {
  lines = [];
  reads = reads_start left reading is_start;
  between = refl;
  exchanges = [];
  asks = refl;
  goes_on = refl;
  steps = (refl, opens);
  written = Appends-nil taken;
}

module _ {before now taken_before taken_now : Option (List ℕ)} (after : Option (List ℕ)) {reading : LinesState}
    {v w : View} {state : State} (t : Turn before now taken_before taken_now reading v w state) where
  -- ---- no further ask comes

  -- where more lines complete no request, the requests answered so far are those of all lines
  none_more : (more : List (Line (List ℕ))) → asks_of_lines more ≡ [] →
      map asked_in t.exchanges ≡ asks_of_lines (t.lines ++ more)
  none_more more none =
      t.asks
      ∙ sym (append-nil (asks_of_lines t.lines))
      ∙ ap (λ zs. asks_of_lines t.lines ++ zs) (sym none)
      ∙ sym (asks_more t.lines more t.between)

  -- where the requests answered so far are those of the lines, no line said `QUIT`
  no_quit : (lines : List (Line (List ℕ))) → map asked_in t.exchanges ≡ asks_of_lines lines →
      quits (asks_of_lines lines) ≡ false
  no_quit lines asks = subst (λ (zs : List (Asked ExactAsk)). quits zs ≡ false) asks t.goes_on

  -- where the link's input ends, it has moved what the exchanges so far say, and ends as the input does
  ended : (ending : Ending) → TakesEnd Alone now after reading ending →
      (moves : LinkMoves v.places (streams before after taken_before taken_now) t.exchanges) × EndsLink moves ending
  ended ending k =
      let lines : List (Line (List ℕ)) = t.lines ++ k.none.passed in
      let asks : map asked_in t.exchanges ≡ asks_of_lines lines = none_more k.none.passed k.none.asks in
      let all = stops_at_end (ReadsUntil-append t.reads k.none.reads) in
      let is : link_asks_of all.read ≡ record { asks = map asked_in t.exchanges; ending = ending } =
      asks_at_end all.read lines all.all all.bound (no_quit lines asks)
      ∙ ap (λ (zs : List (Asked ExactAsk)).
      let so : Script = record { asks = zs; ending = ending_by (pending_after Alone Between lines) } in so) (sym asks)
      ∙ ap (λ (e : Ending). let so : Script = record { asks = map asked_in t.exchanges; ending = e } in so)
      (ap ending_by (pending_more t.lines k.none.passed t.between) ∙ k.ends) in (
        moves_by v w state t.exchanges t.steps all.read (link_out t.exchanges) all.moved t.written
            (whole_front t.exchanges)
            (inl (all.at_end, all_first (map asked_in t.exchanges) ending (link_asks_of all.read) is)),
        record { asked = inl (all.at_end, is); whole = refl },
      )

  -- where the link sends more than may be read, it has moved what the exchanges so far say, and ends with `Over`
  too_long : TakesNone Alone now after reading (Ok Over) →
      (moves : LinkMoves v.places (streams before after taken_before taken_now) t.exchanges)
      × EndsLink moves script.Over
  too_long k =
      let lines : List (Line (List ℕ)) = t.lines ++ k.passed in
      let asks : map asked_in t.exchanges ≡ asks_of_lines lines = none_more k.passed k.asks in
      let over = stops_over (ReadsUntil-append t.reads k.reads) in
      let is : (more : List ℕ) →
      link_asks_of (over.front.read ++ more) ≡ record { asks = map asked_in t.exchanges; ending = script.Over } =
      λ more. asks_past over.front.read lines over.front.ended over.past (no_quit lines asks) more
      ∙ ap (λ (zs : List (Asked ExactAsk)). let so : Script = record { asks = zs; ending = script.Over } in so)
      (sym asks) in (
        moves_by v w state t.exchanges t.steps over.front.read (link_out t.exchanges) over.front.moved t.written
            (whole_front t.exchanges)
            (inr (λ more.
            all_first (map asked_in t.exchanges) script.Over (link_asks_of (over.front.read ++ more)) (is more))),
        record { asked = inr is; whole = refl },
      )

  -- where the requests of the lines come first in all that the link sends, those answered so far do
  first_of : (lines : List (Line (List ℕ))) → map asked_in t.exchanges ≡ asks_of_lines lines → (read : List ℕ) →
      ComeFirst after read (asks_of_lines lines) →
      HoldsOfAll after read (λ bytes. AreFirstOf (map asked_in t.exchanges) (link_asks_of bytes).asks)
  first_of lines asks read first =
      holds_too after read (λ bytes. AsksBegin (asks_of_lines lines) bytes)
      (λ bytes. AreFirstOf (map asked_in t.exchanges) (link_asks_of bytes).asks)
      (λ bytes b. subst (λ (zs : List (Asked ExactAsk)). AreFirstOf zs (link_asks_of bytes).asks) (sym asks)
      (first_asks b (no_quit lines asks)))
      first

  -- where a read of the link fails, it has moved what the exchanges so far say, and breaks off
  broken_off : TakesNone Alone now after reading (Err Read) →
      (moves : LinkMoves v.places (streams before after taken_before taken_now) t.exchanges) × BreaksLink moves
  broken_off k =
      let lines : List (Line (List ℕ)) = t.lines ++ k.passed in
      let asks : map asked_in t.exchanges ≡ asks_of_lines lines = none_more k.passed k.asks in
      let r = broken_first (ReadsUntil-append t.reads k.reads) in (
        moves_by v w state t.exchanges t.steps r.0.read (link_out t.exchanges) r.0.moved t.written
            (whole_front t.exchanges)
            (first_of lines asks r.0.read r.0.first),
        record { asked = asks ∙ ended_asks r.0.read lines r.1 (no_quit lines asks); whole = refl },
      )

  -- where memory runs out as the next request is read, the link has moved what the exchanges so far say
  given_up : (new : LinesState) → TakesPart now after reading new →
      LinkMoves v.places (streams before after taken_before taken_now) t.exchanges
  given_up new k =
      let r : ReadsFirst before after (asks_of_lines (t.lines ++ k.passed)) =
      ⊎_elim
      (λ lines. reads_first (ReadsLines-append t.reads lines))
      (λ until. given_up_first (ReadsUntil-append t.reads until))
      k.reads in
      moves_by v w state t.exchanges t.steps r.read (link_out t.exchanges) r.moved t.written (whole_front t.exchanges)
      (first_of t.lines t.asks r.read
      (fewer_first after r.read (asks_of_lines t.lines) (asks_of_lines k.passed)
      (subst (λ (zs : List (Asked ExactAsk)). ComeFirst after r.read zs) (asks_more t.lines k.passed t.between)
      r.first)))

  -- where no further request came, the link was served and ends so
  pub stopped : (new : LinesState) (ended_so : LinkEnd) → service.TakesAsk now after reading new (Err ended_so) →
      ServesBy (streams before after taken_before taken_now) v w ended_so
  stopped new end.Done k = let m = ended Ended k in served v w state t.exchanges t.steps end.Done m.0 m.1
  stopped new end.Cut k = let m = ended Cut k in served v w state t.exchanges t.steps end.Cut m.0 m.1
  stopped new end.Over k = let m = too_long k in served v w state t.exchanges t.steps end.Over m.0 m.1
  stopped new end.Read k = let m = broken_off k in served v w state t.exchanges t.steps end.Read m.0 m.1
  stopped new end.NoMemory k = served v w state t.exchanges t.steps end.NoMemory (given_up new k) tt
  stopped new end.Write k = absurd k

  -- ---- an ask came, and the session took its step
  module _ (asked : ExactAsk) (new : LinesState)
      (k : TakesAsk Alone now after reading new (record { session = 0; ask = asked })) {reply : ExactReply} {u : View}
      {next : State} (adds : AddsStep state asked w reply next u) (calls : StepCalls w u)
      (consistent : Consistent w → Consistent u) (taken_after : Option (List ℕ)) where
    -- the exchange of the request
    abbrev x : Exchange
    x = exchange_of asked reply adds

    -- the exchanges so far, and then that of the request
    abbrev had : List Exchange
    had = t.exchanges ++ x ∷ []

    -- these exchanges are steps of the session from its opening
    had_steps : Steps v opening had u next
    had_steps =
        steps_more v w u opening state next t.exchanges x t.steps (step_by asked reply adds calls consistent)

    -- the requests of these exchanges are those so far, and then this one
    had_asked : map asked_in had ≡ map asked_in t.exchanges ++ asked_in x ∷ []
    had_asked = asked_in-append t.exchanges (x ∷ [])

    -- the requests of all lines that were read are those of these exchanges
    of_lines : asks_of_lines (t.lines ++ k.passed) ≡ map asked_in t.exchanges ++ asked_in x ∷ []
    of_lines =
        asks_more t.lines k.passed t.between
        ∙ ap (λ zs. zs ++ asks_of_lines k.passed) (sym t.asks)
        ∙ ap (λ zs. map asked_in t.exchanges ++ zs) k.asks

    -- the requests of these exchanges come first in all that the link sends
    came : ReadsFirst before after (map asked_in t.exchanges ++ asked_in x ∷ [])
    came = subst (λ (zs : List (Asked ExactAsk)). ReadsFirst before after zs) of_lines
        (reads_first (ReadsLines-append t.reads k.reads))

    -- the output of these exchanges is that of the exchanges so far, and then the lines of the reply
    had_out : link_out had ≡ link_out t.exchanges ++ reply_lines Alone 0 reply
    had_out = link_out-append t.exchanges (x ∷ [])
        ∙ ap (λ zs. link_out t.exchanges ++ zs) (append-nil (reply_lines Alone 0 reply))

    -- the requests of these exchanges are the first of those of all that the link sends
    had_first : HoldsOfAll after came.read (λ bytes. AreFirstOf (map asked_in had) (link_asks_of bytes).asks)
    had_first =
        holds_too after came.read (λ bytes. AsksBegin (map asked_in t.exchanges ++ asked_in x ∷ []) bytes)
        (λ bytes. AreFirstOf (map asked_in had) (link_asks_of bytes).asks)
        (λ bytes b. subst (λ (zs : List (Asked ExactAsk)). AreFirstOf zs (link_asks_of bytes).asks) (sym had_asked)
        (first_asks_with (map asked_in t.exchanges) (asked_in x) t.goes_on b))
        came.first

    -- what the link has moved where these bytes were written of the output of its exchanges
    abbrev moves_with : (written : List ℕ) → Appends taken_before taken_after written →
        IsPrefixOf written (link_out had) → LinkMoves v.places (streams before after taken_before taken_after) had
    moves_with written appended front =
        moves_by v u next had had_steps came.read written came.moved appended front had_first

    -- where a beginning of the reply was written before the sink failed or memory ran out, the link was served and ends
    -- so
    pub cut_off : (stop : LinkEnd) → Takes taken_now taken_after (reply_lines Alone 0 reply) →
        (stop ≡ end.Write) ⊎ (stop ≡ end.NoMemory) →
        ServesBy (streams before after taken_before taken_after) v u stop
    cut_off stop part why =
        let written : List ℕ = link_out t.exchanges ++ part.bytes in
        let moves : LinkMoves v.places (streams before after taken_before taken_after) had =
        moves_with written
        (Appends-trans taken_before taken_now taken_after (link_out t.exchanges) part.bytes t.written part.taken) (
          part.front.0,
          append_assoc (link_out t.exchanges) part.bytes part.front.0
              ∙ ap (λ zs. link_out t.exchanges ++ zs) part.front.1
              ∙ sym had_out,
        ) in
        served v u next had had_steps stop moves
        (⊎_elim
        (λ e. subst (λ (s : LinkEnd). EndsLinkSo moves s) (sym e) tt)
        (λ e. subst (λ (s : LinkEnd). EndsLinkSo moves s) (sym e) tt)
        why)

    module _ (sent : Appends taken_now taken_after (reply_lines Alone 0 reply)) where
      -- the output of these exchanges was written whole
      had_written : Appends taken_before taken_after (link_out had)
      had_written = subst (Appends taken_before taken_after) (sym had_out)
          (Appends-trans taken_before taken_now taken_after (link_out t.exchanges) (reply_lines Alone 0 reply)
          t.written sent)

      -- where the request was `QUIT` and its reply was written whole, the link was served and ends with `Done`
      pub quit : is_quit asked ≡ true → ServesBy (streams before after taken_before taken_after) v u end.Done
      quit is =
          served v u next had had_steps end.Done (moves_with (link_out had) had_written (whole_front had))
          (record {
            asked = holds_too after came.read (λ bytes. AsksBegin (map asked_in t.exchanges ++ asked_in x ∷ []) bytes)
                (λ bytes. link_asks_of bytes ≡ record { asks = map asked_in had; ending = Ended })
                (λ bytes b. asks_to_quit (map asked_in t.exchanges) (asked_in x) t.goes_on b is
                ∙ ap (λ (zs : List (Asked ExactAsk)). let so : Script = record { asks = zs; ending = Ended } in so)
                (sym had_asked))
                came.first;
            whole = refl;
          })

      -- where the request was not `QUIT` and its reply was written whole, the service goes on with it as answered
      pub turn_on : is_quit asked ≡ false → Turn before after taken_before taken_after new v u next
      turn_on other = record {
        lines = t.lines ++ k.passed;
        reads = ReadsLines-append t.reads k.reads;
        between = pending_more t.lines k.passed t.between ∙ k.between;
        exchanges = had;
        asks = had_asked ∙ sym of_lines;
        goes_on = ap quits had_asked ∙ quits_not (map asked_in t.exchanges) (asked_in x) t.goes_on other;
        steps = had_steps;
        written = had_written;
      }
