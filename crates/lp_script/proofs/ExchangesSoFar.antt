-- The exchanges of the lines that were read so far, and those of more lines.
--
-- `asks_more`: the requests of more lines come after those of the lines before, where no request is half read between
--   them.
-- `pending_more`: which body is unfinished after more lines depends on these alone, where no body was unfinished before
--   them.
use Rattle.std.proofs.Common.{◌≡◌, ℕ, List, [], ◌++◌, map, ap, sym, ◌∙◌, append-nil, refl, subst}
use Rattle.spec_text.specs.declared.line.Line.{Line}
use Rattle.spec_board.specs.Places.{ExactPlace, Logged, Plays}
use Rattle.spec_server.specs.declared.addressing.Addressing.TheVariants.{Numbered}
use Rattle.spec_server.specs.declared.asks.Asked.{Asked}
use Rattle.spec_server.specs.Machine.{ExactAsk, State, opening}
use Rattle.spec_server.specs.Exchanges.{Exchange, asked_in, AloneRun, of_session, log_of, RunFits}
use Rattle.spec_server.specs.Script.{Pending, Between, asks_from, pending_after}
use Rattle.spec_server.proofs.RunLemmas.{AloneRun-append, of_session-append, asked_in-append}
use Rattle.spec_server.proofs.RunLemmas.{log_of-append, Plays-append}
use Rattle.spec_server.proofs.ScriptLemmas.{asks_from-append, pending_after-append}
use Rattle.spec_serve.specs.Workers.{RunsBy}
use Rattle.spec_serve.proofs.ManyFromOne.{one_runs_by}
use Rattle.lp_script.proofs.SomeAnswers.{SomeExchanges, some_exchanges}

-- The sessions share so many places.
module _ (places : ℕ) where
  -- these exchanges are those of the lines, and lead each session to its state, and the places to what they are now
  pub record IsSoFar (exchanges : List Exchange) (lines : List (Line (List ℕ))) (states : ℕ → State)
      (now : List ExactPlace) : Type 0 where
    pub asks : map asked_in exchanges ≡ asks_from Numbered Between lines
    pub runs : (session : ℕ) → AloneRun places opening (of_session session exchanges) (states session)
    pub played : Plays places [] (log_of exchanges) now

  -- exchanges of these lines, which the places allow, and which begin so
  pub record GoesOn (exchanges : List Exchange) (lines : List (Line (List ℕ))) : Type 0 where
    pub others : List Exchange
    pub asks : map asked_in (exchanges ++ others) ≡ asks_from Numbered Between lines
    pub runs : RunFits places (exchanges ++ others)

  -- the exchanges of the lines so far are a run by one worker
  pub runs_by_one : {exchanges : List Exchange} {lines : List (Line (List ℕ))} {states : ℕ → State}
      {now : List ExactPlace} → IsSoFar exchanges lines states now → RunsBy 1 places exchanges
  runs_by_one {exchanges} {lines} {states} {now} so =
      one_runs_by places 1 exchanges
      (record { alone = λ session. (states session, so.runs session); last = now; played = so.played })

  -- the runs of the sessions go on with those of more exchanges
  runs_more : (exchanges others : List Exchange) (session : ℕ) (middle last : State) →
      AloneRun places opening (of_session session exchanges) middle →
      AloneRun places middle (of_session session others) last →
      AloneRun places opening (of_session session (exchanges ++ others)) last
  runs_more exchanges others session middle last first rest =
      subst (λ (xs : List Exchange). AloneRun places opening xs last) (sym (of_session-append session exchanges others))
      (AloneRun-append places opening middle last (of_session session exchanges) (of_session session others) first rest)

  -- where places answer the log of exchanges, and then that of others, they answer the log of both
  played_more : (exchanges others : List Exchange) (now after : List ExactPlace) →
      Plays places [] (log_of exchanges) now → Plays places now (log_of others) after →
      Plays places [] (log_of (exchanges ++ others)) after
  played_more exchanges others now after first rest =
      subst (λ (log : List Logged). Plays places [] log after) (sym (log_of-append exchanges others))
      (Plays-append places [] now after (log_of exchanges) (log_of others) first rest)

  -- where these are the exchanges of the lines so far, there are more exchanges for the asks of any more lines behind
  pub goes_on : (exchanges : List Exchange) (lines more : List (Line (List ℕ))) (states : ℕ → State)
      (now : List ExactPlace) → IsSoFar exchanges lines states now → GoesOn exchanges (lines ++ more)
  goes_on exchanges lines more states now so =
      let asks : List (Asked ExactAsk) = asks_from Numbered (pending_after Numbered Between lines) more in
      let some : SomeExchanges places states asks = some_exchanges places states asks in
      record {
        others = some.exchanges;
        asks = asked_in-append exchanges some.exchanges
            ∙ ap (λ zs. map asked_in exchanges ++ zs) some.asked
            ∙ ap (λ zs. zs ++ asks) so.asks
            ∙ sym (asks_from-append Numbered Between lines more);
        runs = record {
          alone = λ session. let rest = some.runs session in
              (rest.0, runs_more exchanges some.exchanges session (states session) rest.0 (so.runs session) rest.1);
          last = now;
          played = played_more exchanges some.exchanges now now so.played
              (subst (λ (log : List Logged). Plays places now log now) (sym some.unread) refl);
        };
      }

-- ---- lines after those that end between two commands

pub asks_more : (lines more : List (Line (List ℕ))) → pending_after Numbered Between lines ≡ Between →
    asks_from Numbered Between (lines ++ more) ≡ asks_from Numbered Between lines ++ asks_from Numbered Between more
asks_more lines more between =
    asks_from-append Numbered Between lines more
    ∙ ap (λ (p : Pending). asks_from Numbered Between lines ++ asks_from Numbered p more) between

pub pending_more : (lines more : List (Line (List ℕ))) → pending_after Numbered Between lines ≡ Between →
    pending_after Numbered Between (lines ++ more) ≡ pending_after Numbered Between more
pending_more lines more between =
    pending_after-append Numbered Between lines more ∙ ap (λ (p : Pending). pending_after Numbered p more) between

module _ (places : ℕ) (exchanges : List Exchange) (lines : List (Line (List ℕ))) (states : ℕ → State)
    (now : List ExactPlace) (so : IsSoFar places exchanges lines states now)
    (between : pending_after Numbered Between lines ≡ Between) (more : List (Line (List ℕ))) where
  -- where others are exchanges of the requests of more lines, from the states and places so far, all of them are the
  -- exchanges of all lines
  pub so_far_more : (others : List Exchange) (new : ℕ → State) (after : List ExactPlace) →
      map asked_in others ≡ asks_from Numbered Between more →
      ((session : ℕ) → AloneRun places (states session) (of_session session others) (new session)) →
      Plays places now (log_of others) after → IsSoFar places (exchanges ++ others) (lines ++ more) new after
  so_far_more others new after asks runs played = record {
    asks = asked_in-append exchanges others
        ∙ ap (λ zs. map asked_in exchanges ++ zs) asks
        ∙ ap (λ zs. zs ++ asks_from Numbered Between more) so.asks
        ∙ sym (asks_more lines more between);
    runs = λ session.
        runs_more places exchanges others session (states session) (new session) (so.runs session) (runs session);
    played = played_more places exchanges others now after so.played played;
  }

  -- where more lines complete no request, the exchanges so far are those of all lines
  pub so_far_none : asks_from Numbered Between more ≡ [] → IsSoFar places exchanges (lines ++ more) states now
  so_far_none none = record {
    asks = so.asks
        ∙ sym (append-nil (asks_from Numbered Between lines))
        ∙ ap (λ zs. asks_from Numbered Between lines ++ zs) (sym none)
        ∙ sym (asks_more lines more between);
    runs = so.runs;
    played = so.played;
  }
