-- The loop over the asks of a link, by what its calls say: neither a read nor a write changes the other side.
use Rattle.std.proofs.Common.{◌≡◌, ℕ, ◌⊎◌, List, Option, Ok, Err, Result, true, false, ap, sym, subst}
use Rattle.std.specs.Prelude.{IfErr, OnOk}
use Rattle.std.specs.Io.KnownBytes.{Appends}
use Rattle.spec_server.specs.declared.addressing.Addressing.TheVariants.{Alone}
use Rattle.spec_server.specs.Machine.{ExactAsk, ExactReply, State}
use Rattle.spec_server.specs.Output.{reply_lines}
use Rattle.spec_server.specs.Streams.{streams}
use Rattle.spec_serve.specs.declared.link_end.LinkEnd.{LinkEnd}
use Rattle.spec_serve.specs.declared.link_end.LinkEnd.TheVariants as end
use Rattle.spec_serve.specs.Link.{is_quit}
use Rattle.basis_board.specs.declared.seats.View.{View}
use Rattle.basis_board.specs.Rule.{Consistent}
use Rattle.lp_base.specs.Beside.{Takes, SinkState, SourceState}
use Rattle.lp_base.specs.LinesState.{LinesState}
use Rattle.lp_line.specs.Takes as lines
use Rattle.lp_base.specs.LinkState.{sink_of, source_of}
use Rattle.lp_session.specs.Boarding.{AddsStep, StepCalls}
use Rattle.lp_serve.specs.Service.{TakesAsk, ServesBy}
use Rattle.lp_serve.proofs.LinkTurns.{Turn, stopped, cut_off, quit, turn_on}

-- two equal sinks have taken the same bytes
same_taken : (a b : Option (List ℕ)) (m n : ℕ) → sink_of a m ≡ sink_of b n → a ≡ b
same_taken a b m n e = ap (λ (s : SinkState). s.taken) e

-- two equal sources have the same bytes left
same_left : (a b : Option (List ℕ)) (m n : ℕ) → source_of a m ≡ source_of b n → a ≡ b
same_left a b m n e = ap (λ (s : SourceState). s.left) e

module _ {before now taken_before taken_now : Option (List ℕ)} {reading : LinesState} {v w : View} {state : State}
    (t : Turn before now taken_before taken_now reading v w state)
    (left_asked taken_asked : Option (List ℕ)) (new : LinesState) (m n : ℕ)
    (reads_beside : sink_of taken_asked m ≡ sink_of taken_now n) where
  -- where no further request came, the link was served and ends so
  pub stops : (result : Result ExactAsk LinkEnd) (ended : LinkEnd) → result ≡ Err ended →
      TakesAsk now left_asked reading new result →
      ServesBy (streams before left_asked taken_before taken_asked) v w ended
  stops result ended is k =
      subst (λ (taken : Option (List ℕ)). ServesBy (streams before left_asked taken_before taken) v w ended)
      (sym (same_taken taken_asked taken_now m n reads_beside))
      (stopped left_asked t new ended
      (subst (λ (r : Result ExactAsk LinkEnd). TakesAsk now left_asked reading new r) is k))

  -- the session took its step for the ask that came, and its reply was sent, or a part of it
  module _ (result : Result ExactAsk LinkEnd) (asked : ExactAsk) (came : result ≡ Ok asked)
      (k : TakesAsk now left_asked reading new result) (reply : ExactReply) (u : View) (next : State)
      (adds : AddsStep state asked w reply next u) (calls : StepCalls w u)
      (consistent : Consistent w → Consistent u) (left_sent taken_sent : Option (List ℕ)) (p q : ℕ)
      (writes_beside : source_of left_sent p ≡ source_of left_asked q) (sent : Result (Unit {0}) LinkEnd) where
    -- what was read of the link gave this request
    taken_so : TakesAsk now left_asked reading new (Ok asked)
    taken_so = subst (λ (r : Result ExactAsk LinkEnd). TakesAsk now left_asked reading new r) came k

    -- what was read of the link gave this request, and the sending of the reply left its bytes
    takes : lines.TakesAsk Alone now left_sent reading new (record { session = 0; ask = asked })
    takes =
        subst
        (λ (left : Option (List ℕ)). lines.TakesAsk Alone now left reading new (record { session = 0; ask = asked }))
        (sym (same_left left_sent left_asked p q writes_beside)) taken_so.0

    -- what holds of the bytes taken after the request was read holds of those taken before it
    since : (P : Option (List ℕ) → Type 0) → P taken_asked → P taken_now
    since P holds = subst P (same_taken taken_asked taken_now m n reads_beside) holds

    -- where the reply could not be sent whole, the link was served up to there and ends so
    pub breaks : (stop : LinkEnd) → sent ≡ Err stop → Takes taken_asked taken_sent (reply_lines Alone 0 reply) →
        IfErr sent (λ why. (why ≡ end.Write) ⊎ (why ≡ end.NoMemory)) →
        ServesBy (streams before left_sent taken_before taken_sent) v u stop
    breaks stop is part ends =
        cut_off left_sent t asked new takes adds calls consistent taken_sent stop
        (since (λ taken. Takes taken taken_sent (reply_lines Alone 0 reply)) part)
        (subst
        (λ (r : Result (Unit {0}) LinkEnd). IfErr r (λ why. (why ≡ end.Write) ⊎ (why ≡ end.NoMemory))) is ends)

    module _ (done : Unit {0}) (is : sent ≡ Ok done)
        (all : OnOk sent (Appends taken_asked taken_sent (reply_lines Alone 0 reply))) where
      -- the lines of the reply were appended whole to what was sent before the request
      whole : Appends taken_now taken_sent (reply_lines Alone 0 reply)
      whole =
          since (λ taken. Appends taken taken_sent (reply_lines Alone 0 reply))
          (subst (λ (r : Result (Unit {0}) LinkEnd).
          OnOk r (Appends taken_asked taken_sent (reply_lines Alone 0 reply))) is all)

      -- where the request was `QUIT`, the link was served and ends with `Done`
      pub ends : is_quit asked ≡ true → ServesBy (streams before left_sent taken_before taken_sent) v u end.Done
      ends quits = quit left_sent t asked new takes adds calls consistent taken_sent whole quits

      -- where the request was not `QUIT`, the service goes on, with one request more answered
      pub goes_on : is_quit asked ≡ false → Turn before left_sent taken_before taken_sent new v u next
      goes_on other = turn_on left_sent t asked new takes adds calls consistent taken_sent whole other
