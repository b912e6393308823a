-- One more ask that a worker answers in its turn.
--
-- `one_run`: where the asked session takes one step alone, and each other session stays, each session has run alone, by
--   its part of this one exchange, to its new state.
-- `rests`: where no session awaits anything, the session that is read at k awaits nothing.
-- `rests_more`: where no session awaits anything, and one is replaced by one that awaits nothing, none of them awaits
--   anything.
-- `turn_begins`: a part that is open begins its turn by a fresh pass, and has had no request.
-- `used_of`: the pass of a worker that has had some requests is used: one of the board's, and with reads in order.
use Rattle.std.proofs.Common.{◌≡◌, ◌≢◌, ℕ, ◌+◌, ◌<◌, ◌≤◌, List, [], ◌∷◌, ◌++◌, Bool, true, false, nat_eq, cond, length}
use Rattle.std.proofs.Common.{reverse, set, get_or, eqb-true, refl, ap, sym, ◌∙◌, subst}
use Rattle.std.proofs.Common.{append-nil, Some, replicate, arith, ⊎_elim}
use Rattle.std.specs.List.{All, AllByRecursion}
use Rattle.std.proofs.lemmas.Grind.{flat_map-append}
use Rattle.std.proofs.lemmas.List.{append_assoc, map-append, reverse-append, length-map}
use Rattle.std.proofs.lemmas.List.{get_or-map, get_or-set_same, get_or-set_other, map-set}
use Rattle.std.proofs.lemmas.List.{get_or-replicate, get_or_past, length-replicate}
use Rattle.std.proofs.lemmas.Bool.{cases_lt}
use Rattle.std.proofs.lemmas.List.Elements.{All-set, All-pop, All-same, All-replicate, All-nil}
use Rattle.spec_board.specs.Reads.{ExactRead}
use Rattle.spec_server.specs.declared.asks.Asked.{Asked}
use Rattle.spec_server.specs.Halves.{Standing, Nothing, at_rest}
use Rattle.spec_server.specs.Machine.{ExactAsk, ExactReply, State, opening}
use Rattle.spec_server.specs.Step.{AloneStep}
use Rattle.spec_server.specs.Exchanges.{Exchange, AloneRun, of_session}
use Rattle.spec_server.proofs.RunLemmas.{AloneRun-append, of_session-append, asked_in-append}
use Rattle.spec_serve.specs.Workers.{reads_in_all}
use Rattle.basis_board.specs.declared.board.Board.{Board}
use Rattle.basis_board.specs.declared.seats.View.{View}
use Rattle.basis_board.specs.Known.{Known}
use Rattle.basis_board.specs.Moments.{NotesMore, WereTrue}
use Rattle.basis_board.specs.Rule.{Consistent}
use Rattle.basis_board.proofs.Timing.{notes_none}
use Rattle.basis_board.specs.Orderly.{IsWhole}
use Rattle.spec_board.specs.Orders.{InPairs, AreInOrder}
use Rattle.basis_board.specs.PassReads.{reads_of}
use Rattle.lp_session.specs.Boarding.{AddsStep, StepCalls}
use Rattle.lp_workers.specs.declared.hiring.Worker.{Worker}
use Rattle.lp_workers.specs.Passes.{IsFresh, IsUsed}
use Rattle.lp_workers.proofs.Calls.{calls_places, calls_orderly}
use Rattle.lp_script.specs.Answer.{states_of, state_at}
use Rattle.lp_script.specs.declared.part.Part.{Part}
use Rattle.lp_script.specs.Parts.{IsOpen, IsHired, HaveHad, IsServing}
use Rattle.lp_script.proofs.Dealing.{not_equal}
use Rattle.lp_script.proofs.Together.{states-replicate}

-- ---- one session takes the step, and the others stay
-- the exchange of this request with these reads and this reply
abbrev pub exchange_of : Asked ExactAsk → List ExactRead → ExactReply → Exchange
exchange_of asked reads reply = record { session = asked.session; ask = asked.ask; reads = reads; reply = reply }

-- after it the other sessions are as they were
pub one_run : (places : ℕ) (old new : ℕ → State) (asked : Asked ExactAsk) (reads : List ExactRead)
    (reply : ExactReply) →
    AloneStep places (old asked.session) asked.ask reads reply (new asked.session) →
    ((session : ℕ) → session ≢ asked.session → new session ≡ old session) → (session : ℕ) →
    AloneRun places (old session) (of_session session (exchange_of asked reads reply ∷ [])) (new session)
one_run places old new asked reads reply step others session = by (nat_eq asked.session session) refl
  where
    by : (t : Bool) → nat_eq asked.session session ≡ t →
        AloneRun places (old session) (cond t (exchange_of asked reads reply ∷ []) []) (new session)
    by true e = (
      new session,
      subst (λ (s : ℕ). AloneStep places (old s) asked.ask reads reply (new s)) (eqb-true asked.session session e) step,
      refl,
    )
    by false e = others session (not_equal asked.session session e)

-- a session of those at rest
pub rests : (all : List Standing) (k : ℕ) (standing : Standing) → k < length all → standing ≡ get_or all k standing →
    All (λ (s : Standing). s.awaits ≡ Nothing) all → standing.awaits ≡ Nothing
rests all k standing within is rest = ap (λ (s : Standing). s.awaits) is ∙ rest k standing within

pub rests_more : (all : List Standing) (k : ℕ) (new : Standing) → new.awaits ≡ Nothing →
    All (λ (s : Standing). s.awaits ≡ Nothing) all → All (λ (s : Standing). s.awaits ≡ Nothing) (set all k new)
rests_more all k new e rest = All-set (λ (s : Standing). s.awaits ≡ Nothing) all k new e rest

-- The session that is asked has this standing from now on.
module _ (all : List Standing) (asked : Asked ExactAsk) (within : asked.session < length all)
    (standing next : Standing) (is : standing ≡ get_or all asked.session standing) where
  -- the states of the sessions, where the asked session has its next standing
  abbrev changed : List State
  changed = states_of (set all asked.session next)

  -- the states, with the asked session's changed, are the old ones with its new state set
  changed_is : changed ≡ set (states_of all) asked.session next.state
  changed_is = map-set (λ session. session.state) all asked.session next

  -- the state of the standing that was read is that of the asked session among all states
  was : standing.state ≡ state_at (states_of all) asked.session
  was = ap (λ (s : Standing). s.state) is
      ∙ sym (get_or-map (λ session. session.state) all asked.session standing opening within)

  -- the state of the asked session is the new one
  new_state : state_at changed asked.session ≡ next.state
  new_state =
      ap (λ (states : List State). state_at states asked.session) changed_is
      ∙ get_or-set_same (states_of all) asked.session next.state opening
      (subst (λ (n : ℕ). asked.session < n) (sym (length-map all (λ session. session.state))) within)

  -- the state of each other session is as it was
  others : (session : ℕ) → session ≢ asked.session → state_at changed session ≡ state_at (states_of all) session
  others session other =
      ap (λ (states : List State). state_at states session) changed_is
      ∙ get_or-set_other (states_of all) asked.session session next.state opening other

  module _ (v w : View) (reply : ExactReply) (adds : AddsStep standing.state asked.ask v reply next.state w) where
    -- the exchange of the request, with the reads that the pass adds
    abbrev x : Exchange
    x = exchange_of asked adds.reads reply

    -- the asked session takes one step alone, from its state to the new one
    stepped : AloneStep v.places (state_at (states_of all) asked.session) asked.ask adds.reads reply
        (state_at changed asked.session)
    stepped =
        subst (λ (s : State). AloneStep v.places s asked.ask adds.reads reply (state_at changed asked.session)) was
        (subst (λ (s : State). AloneStep v.places standing.state asked.ask adds.reads reply s)
        (sym new_state) adds.step)

    module _ (asks : List (Asked ExactAsk)) (replies : List ExactReply) (had : HaveHad asks replies v all) where
      -- the exchanges that the worker had before
      abbrev xs : List Exchange
      xs = had.exchanges

      -- each session has run alone, by the exchanges so far and this one, to its state after it
      run_on : (session : ℕ) →
          AloneRun v.places opening (of_session session (xs ++ x ∷ [])) (state_at changed session)
      run_on session =
          subst (λ (ys : List Exchange). AloneRun v.places opening ys (state_at changed session))
          (sym (of_session-append session xs (x ∷ [])))
          (AloneRun-append v.places opening (state_at (states_of all) session) (state_at changed session)
          (of_session session xs) (of_session session (x ∷ [])) (had.runs session)
          (one_run v.places (state_at (states_of all)) (state_at changed) asked adds.reads reply stepped others
          session))

      -- the pass has read what the exchanges so far and this one read
      reads_on : reads_of w ≡ reads_in_all (xs ++ x ∷ [])
      reads_on =
          adds.all ∙ ap (λ rs. rs ++ adds.reads) had.reads
          ∙ ap (λ rs. reads_in_all xs ++ rs) (sym (append-nil adds.reads))
          ∙ sym (flat_map-append (λ (y : Exchange). y.reads) xs (x ∷ []))

      -- where a worker has had some asks with their replies, and its session takes one step more over the board, it has
      -- had the ask with the reply too
      pub had_more : StepCalls v w → Consistent v →
          HaveHad (asks ++ asked ∷ []) (replies ++ reply ∷ []) w (set all asked.session next)
      had_more calls now = record {
        exchanges = xs ++ x ∷ [];
        asked = asked_in-append xs (x ∷ []) ∙ ap (λ zs. zs ++ asked ∷ []) had.asked;
        replied = map-append (λ (y : Exchange). y.reply) xs (x ∷ []) ∙ ap (λ zs. zs ++ reply ∷ []) had.replied;
        runs = subst
            (λ places. (session : ℕ) →
            AloneRun places opening (of_session session (xs ++ x ∷ [])) (state_at changed session))
            (sym (calls_places v w calls)) run_on;
        reads = reads_on;
        orderly = calls_orderly v w now calls had.orderly;
      }

-- ---- a worker whose asks and replies alone have changed
module _ (board : Board) (w new : Worker Part) (pass : new.pass ≡ w.pass) (sessions : new.job.sessions ≡ w.job.sessions)
    (solves : new.job.solves ≡ w.job.solves) where
  -- a worker that keeps its pass, sessions and solves stays hired
  pub hired_same : IsHired board w → IsHired board new
  hired_same h = record {
    of_board = ap (λ (k : Known). k.board) pass ∙ h.of_board;
    places = ap (λ (k : Known). k.view.places) pass ∙ h.places;
    share = ap (λ (k : Known). k.view.share) pass ∙ h.share;
    consistent = subst (λ (k : Known). Consistent k.view) (sym pass) h.consistent;
    notes = subst (λ (k : Known). NotesMore [] k.moments) (sym pass) h.notes;
    were_true = subst (λ (k : Known). WereTrue k.moments k.view.reads) (sym pass) h.were_true;
    all = ap (λ s. length s.items) sessions ∙ h.all;
    counted = ap (λ s. length s.items) solves ∙ h.counted;
    at_rest = subst (λ s. All (λ (x : Standing). x.awaits ≡ Nothing) s.items) (sym sessions) h.at_rest;
  }

-- ---- its turn, so far

-- each of 65 sessions that have just opened is in its opening state, and so is any past them
opening_at : (session : ℕ) → state_at (replicate 65 opening) session ≡ opening
opening_at session =
    ⊎_elim (λ (l : session < 65). get_or-replicate 65 session opening opening l)
    (λ (l : 65 ≤ session).
    get_or_past (replicate 65 opening) session opening
    (let e = length-replicate 65 opening in omega (arith, e, l)))
    (cases_lt session 65)

-- a pass without raw reads has no reads
unread_reads : (v : View) → v.reads ≡ [] → reads_of v ≡ []
unread_reads v unread = ap (λ reads. reads_of (record v { reads = reads })) unread

-- a worker in its turn: of the requests that it held, the first ones were served, and it still holds the others
pub record Turning (board : Board) (held : List (Asked ExactAsk)) (w : Worker Part) : Type 0 where
  pub done : List (Asked ExactAsk)
  pub all : reverse held ≡ done ++ reverse w.job.asks.items
  pub serving : IsServing board done w

-- a worker that takes its turn has had no ask
pub turn_begins : (board : Board) (w : Worker Part) → IsOpen w.job → IsFresh board w.pass →
    Turning board w.job.asks.items w
turn_begins board w opened fresh = record {
  done = [];
  all = refl;
  serving = record {
    hired = record {
      of_board = fresh.of_board;
      places = fresh.places;
      share = fresh.share;
      consistent = fresh.consistent;
      notes = notes_none [] w.pass.moments fresh.unnoted;
      were_true = subst (λ ms. WereTrue ms w.pass.view.reads) (sym fresh.unnoted)
          (subst (WereTrue []) (sym fresh.unread) tt);
      all = ap length opened.sessions ∙ length-replicate 65 (at_rest opening);
      counted = opened.solves;
      at_rest = All-same (λ (s : Standing). s.awaits ≡ Nothing) w.job.sessions.items
          (replicate 65 (at_rest opening)) opened.sessions
          (All-replicate (λ (s : Standing). s.awaits ≡ Nothing) 65 (at_rest opening) refl);
    };
    had = record {
      exchanges = [];
      asked = refl;
      replied = sym opened.replies;
      runs = λ session.
          ap (λ all. state_at (states_of all) session) opened.sessions
          ∙ ap (λ states. state_at states session) (states-replicate 65)
          ∙ opening_at session;
      reads = unread_reads w.pass.view fresh.unread;
      orderly = record {
        ordered = subst (InPairs AreInOrder) (sym (unread_reads w.pass.view fresh.unread)) tt;
        whole = subst (AllByRecursion IsWhole) (sym (unread_reads w.pass.view fresh.unread)) tt;
      };
    };
    room = opened.room;
    sessions = opened.numbered;
  };
}

module _ (board : Board) (held : List (Asked ExactAsk)) (w : Worker Part) (so : Turning board held w)
    (asked : Asked ExactAsk) (popped : List (Asked ExactAsk)) (split : w.job.asks.items ≡ popped ++ asked ∷ []) where
  -- the sessions of the requests that are left, and of the one that was popped, are at most 64
  low : All (λ (a : Asked ExactAsk). a.session ≤ 64) popped × (asked.session ≤ 64)
  low = All-pop (λ (a : Asked ExactAsk). a.session ≤ 64) w.job.asks.items popped (Some asked) split so.serving.sessions

  -- where a worker in its turn takes the last ask and replies to it, it is still in its turn, with one ask less
  pub turn_more : (reply : ExactReply) (next : Worker Part) → IsHired board next →
      HaveHad (so.done ++ asked ∷ []) (w.job.replies.items ++ reply ∷ []) next.pass.view next.job.sessions.items →
      next.job.asks.items ≡ popped → next.job.replies.items ≡ w.job.replies.items ++ reply ∷ [] →
      next.job.replies.len + next.job.asks.len ≤ next.job.replies.cap → Turning board held next
  turn_more reply next hired had asks replies room = record {
    done = so.done ++ asked ∷ [];
    all = so.all
        ∙ ap (λ ys. so.done ++ reverse ys) split
        ∙ ap (λ ys. so.done ++ ys) (reverse-append popped (asked ∷ []))
        ∙ sym (append_assoc so.done (asked ∷ []) (reverse popped))
        ∙ ap (λ ys. (so.done ++ asked ∷ []) ++ reverse ys) (sym asks);
    serving = record {
      hired = hired;
      had = subst (λ rs. HaveHad (so.done ++ asked ∷ []) rs next.pass.view next.job.sessions.items) (sym replies) had;
      room = room;
      sessions = subst (All (λ (a : Asked ExactAsk). a.session ≤ 64)) (sym asks) low.0;
    };
  }

-- when no ask is left
module _ (board : Board) (held : List (Asked ExactAsk)) (w : Worker Part) (so : Turning board held w)
    (none : w.job.asks.items ≡ []) where
  -- where no ask is left, all asks that the worker held are done
  all_done : so.done ≡ reverse held
  all_done = sym (so.all ∙ ap (λ ys. so.done ++ reverse ys) none ∙ append-nil so.done)

  -- where a worker in its turn has no ask left, it has served all asks that it held, in their order
  pub turn_ends : (next : Worker Part) → next.pass ≡ w.pass → next.job.sessions ≡ w.job.sessions →
      next.job.solves ≡ w.job.solves → next.job.replies ≡ w.job.replies → next.job.asks.items ≡ [] →
      next.job.asks.len ≤ w.job.asks.len → IsServing board (reverse held) next
  turn_ends next pass sessions solves replies asks fewer = record {
    hired = hired_same board w next pass sessions solves so.serving.hired;
    had = subst (λ had. HaveHad had next.job.replies.items next.pass.view next.job.sessions.items) all_done
        (subst (λ rs. HaveHad so.done rs.items next.pass.view next.job.sessions.items) (sym replies)
        (subst (λ (k : Known). HaveHad so.done w.job.replies.items k.view next.job.sessions.items) (sym pass)
        (subst (λ ss. HaveHad so.done w.job.replies.items w.pass.view ss.items) (sym sessions) so.serving.had)));
    room = omega (arith, ap (λ v. v.len) replies, ap (λ v. v.cap) replies, fewer, so.serving.room);
    sessions = subst (All (λ (a : Asked ExactAsk). a.session ≤ 64)) (sym asks)
        (All-nil (λ (a : Asked ExactAsk). a.session ≤ 64));
  }

-- what its pass is after its turn
pub used_of : (board : Board) (asks : List (Asked ExactAsk)) (w : Worker Part) → IsServing board asks w →
    IsUsed board w.pass
used_of board asks w so = record {
  of_board = so.hired.of_board;
  share = so.hired.share;
  notes = so.hired.notes;
  were_true = so.hired.were_true;
  orderly = so.had.orderly;
}

-- end of OneMore
