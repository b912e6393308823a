-- The asks that lines of a script complete, from what the lines say of it.
use Rattle.std.proofs.Common.{◌≡◌, ◌≢◌, ℕ, ◌≤◌, ◌<◌, ◌^◌, List, [], ◌∷◌, ◌++◌, Option, Some, None, Result, Ok, Err}
use Rattle.std.proofs.Common.{Bool, true, false, cond, ap, sym, ◌∙◌, append-nil, refl, inl, inr, subst}
use Rattle.std.proofs.lemmas.List.Elements.{All-head, All-tail, All-push}
use Rattle.spec_text.specs.declared.line.Line.{Line}
use Rattle.spec_text.specs.declared.line.Line.TheVariants as line
use Rattle.spec_server.specs.declared.addressing.Addressing.{Addressing}
use Rattle.spec_server.specs.declared.asks.Asked.{Asked}
use Rattle.spec_server.specs.declared.command.Command.TheVariants as command
use Rattle.spec_server.specs.Addressing.{addressed_in}
use Rattle.spec_server.specs.Command.{ExactCommand}
use Rattle.spec_server.specs.Machine.{ExactAsk}
use Rattle.spec_server.specs.Said.{said_by}
use Rattle.spec_server.specs.Script.{Pending, Between, Text, Certificate, Ending, Ended, Cut, Over, ending_by}
use Rattle.spec_server.specs.Script.{ends_text, ends_certificate}
use Rattle.spec_server.specs.Script.{begun, begun_by, asks_of_command, asks_by, asks_of_line, pending_after_line}
use Rattle.spec_server.specs.Script.{asks_from, pending_after}
use Rattle.spec_server.proofs.ScriptLemmas.{asks_from-append, pending_after-append, asked_session}
use Rattle.lp_base.specs.LinesState.{LinesState}
use Rattle.lp_base.specs.declared.lines.LineStop.{LineStop}
use Rattle.lp_base.specs.declared.lines.LineStop.TheVariants as stop
use Rattle.lp_line.specs.declared.halt.Halt.TheVariants as halts
use Rattle.lp_line.specs.declared.hearing.Heard.{Heard}
use Rattle.lp_line.specs.declared.hearing.Heard.TheVariants as heard
use Rattle.lp_line.specs.declared.script.ScriptStage.TheVariants as stage
use Rattle.lp_line.specs.Halt.{halt_of}
use Rattle.lp_line.specs.Hearing.{IsGiven, AreGiven, HearsAt, HearsUntil, HearsAtEnd, HearsNext}
use Rattle.lp_line.specs.Script.{NextAsk, taken_at, script_step, ScriptSays}
use Rattle.lp_line.specs.Takes.{TakesNone, TakesNext, TakesMore}
use Rattle.lp_line.proofs.ScriptTurns.{behind_step}

-- requests, each with the number of its session
abbrev Asks : Type 0
Asks = List (Asked ExactAsk)

-- ---- a line completes one ask at most, which leaves nothing begun

-- a list of one request that equals a list with a first request has none behind it
one_alone : (a b : Asked ExactAsk) (rest : Asks) → ◌≡◌ {A = Asks} (a ∷ []) (b ∷ rest) → rest ≡ []
one_alone a b rest e = sym (tail e)
  where
    tail : ◌≡◌ {A = Asks} (a ∷ []) (b ∷ rest) → ◌≡◌ {A = Asks} [] rest
    tail e = cc

-- an empty list of requests equals no list with a first request
none_some : {P : Type 0} (b : Asked ExactAsk) (rest : Asks) → ◌≡◌ {A = Asks} [] (b ∷ rest) → P
none_some {P} b rest e = absurd (differ e)
  where
    differ : ◌≡◌ {A = Asks} [] (b ∷ rest) → ⊥
    differ e = cc

-- no further request is left, and the script is between two commands
record IsDone (rest : Asks) (after : Pending) : Type 0 where
  alone : rest ≡ []
  between : after ≡ Between

-- a command's line that completes a request completes no other, and leaves the script between commands
command_done : (session : ℕ) (c : ExactCommand) (asked : Asked ExactAsk) (rest : Asks) →
    asks_of_command session c ≡ asked ∷ rest → IsDone rest (begun session c)
command_done session (command.Load form) asked rest e = none_some asked rest e
command_done session command.Check asked rest e = none_some asked rest e
command_done session (command.Plain plain) asked rest e = record { alone = one_alone _ asked rest e; between = refl }
command_done session (command.Bad fault) asked rest e = record { alone = one_alone _ asked rest e; between = refl }

-- an addressed line that completes a request completes no other, and leaves the script between commands
addressed_done : (found : Option (Asked ExactCommand)) (asked : Asked ExactAsk) (rest : Asks) →
    asks_by found ≡ asked ∷ rest → IsDone rest (begun_by found)
addressed_done None asked rest e = none_some asked rest e
addressed_done (Some addressed) asked rest e = command_done addressed.session addressed.ask asked rest e

-- a line of a body that completes a request completes no other, and leaves the script between commands
body_done : (ends : Bool) (completed asked : Asked ExactAsk) (rest : Asks) (more : Pending) →
    ◌≡◌ {A = Asks} (cond ends (completed ∷ []) []) (asked ∷ rest) → IsDone rest (cond ends Between more)
body_done true completed asked rest more e = record { alone = one_alone completed asked rest e; between = refl }
body_done false completed asked rest more e = none_some asked rest e

-- a line that completes a request completes no other, and leaves the script between commands
line_done : (addressing : Addressing) (pending : Pending) (next : Line (List ℕ)) (asked : Asked ExactAsk)
    (rest : Asks) →
    asks_of_line addressing pending next ≡ asked ∷ rest → IsDone rest (pending_after_line addressing pending next)
line_done addressing Between next asked rest e = addressed_done (addressed_in addressing next) asked rest e
line_done addressing (Text session form body) next asked rest e = body_done (ends_text next) _ asked rest _ e
line_done addressing (Certificate session body) next asked rest e = body_done (ends_certificate next) _ asked rest _ e

-- ---- what lines say

-- lines that say something do not say nothing
unsaid : {R P : Type 0} (what : R) → ◌≡◌ {A = Option R} (Some what) None → P
unsaid {R} what e = absurd (differ e)
  where
    differ : ◌≡◌ {A = Option R} (Some what) None → ⊥
    differ e = cc

-- what lines say is one thing: two things that they say are equal
same_said : {R : Type 0} (a b : R) → ◌≡◌ {A = Option R} (Some a) (Some b) → a ≡ b
same_said a b e = cc

-- lines that say nothing complete no ask
record SayNothing (addressing : Addressing) (pending : Pending) (lines : List (Line (List ℕ))) : Type 0 where
  no_asks : asks_from addressing pending lines ≡ []
  behind : (more : List (Line (List ℕ))) →
      said_by (script_step addressing) pending (lines ++ more) ≡
      said_by (script_step addressing) (pending_after addressing pending lines) more

-- given lines of which nothing is said complete no request, and lines behind them say what they say there
silent_lines : (addressing : Addressing) (pending : Pending) (lines : List (Line (List ℕ))) → AreGiven lines →
    said_by (script_step addressing) pending lines ≡ None → SayNothing addressing pending lines
silent_lines addressing pending [] given e = record { no_asks = refl; behind = λ more. refl }
silent_lines addressing pending (here ∷ lines) given e =
    by (asks_of_line addressing pending here) refl
    (silent_lines addressing (pending_after_line addressing pending here) lines
    (All-tail (λ (l : Line (List ℕ)). IsGiven l) here lines given))
  where
    no_end : here ≢ line.End
    no_end = (All-head (λ (l : Line (List ℕ)). IsGiven l) here lines given).0

    by : (asks : Asks) → asks_of_line addressing pending here ≡ asks
        → (said_by (script_step addressing) (pending_after_line addressing pending here) lines ≡ None →
        SayNothing addressing (pending_after_line addressing pending here) lines)
        → SayNothing addressing pending (here ∷ lines)
    by [] is rest =
        let later = rest (sym (behind_step addressing pending here lines [] no_end is) ∙ e) in
        record {
          no_asks =
              ap (λ (zs : Asks). zs ++ asks_from addressing (pending_after_line addressing pending here) lines) is
              ∙ later.no_asks;
          behind = λ more. behind_step addressing pending here (lines ++ more) [] no_end is ∙ later.behind more;
        }
    by (asked ∷ asks) is rest =
        unsaid (Ok (Some asked)) (sym (behind_step addressing pending here lines (asked ∷ asks) no_end is) ∙ e)

-- what one line says is an ask
record SaysAsk (addressing : Addressing) (pending : Pending) (here : Line (List ℕ)) (what : NextAsk) : Type 0 where
  asked : Asked ExactAsk
  is_said : what ≡ Ok (Some asked)
  asks : asks_of_line addressing pending here ≡ asked ∷ []
  between : pending_after_line addressing pending here ≡ Between

-- where a line other than the end says something, it says the one request that it completes
says_ask : (addressing : Addressing) (pending : Pending) (here : Line (List ℕ)) (what : NextAsk) → here ≢ line.End →
    said_by (script_step addressing) pending (here ∷ []) ≡ Some what → SaysAsk addressing pending here what
says_ask addressing pending here what no_end e = by (asks_of_line addressing pending here) refl
  where
    by : (asks : Asks) → asks_of_line addressing pending here ≡ asks → SaysAsk addressing pending here what
    by [] is = unsaid what (sym e ∙ behind_step addressing pending here [] [] no_end is)
    by (asked ∷ rest) is =
        let done = line_done addressing pending here asked rest is in
        record {
          asked = asked;
          is_said =
              same_said what (Ok (Some asked))
              (sym e ∙ behind_step addressing pending here [] (asked ∷ rest) no_end is);
          asks = is ∙ ap (λ (zs : Asks). asked ∷ zs) done.alone;
          between = done.between;
        }

-- at the end of the input a script says how it ends in the state that it is in
at_end : (addressing : Addressing) (pending : Pending) →
    said_by (script_step addressing) pending (line.End ∷ []) ≡ Some (taken_at (ending_by pending))
unfolding script_step
at_end addressing pending = refl

-- ---- what was taken

-- the answer is what lines of a script say from between two commands on
abbrev Say : Addressing → List (Line (List ℕ)) → Option NextAsk → Type 0
Say addressing lines answer = ScriptSays (stage.Between addressing) lines answer

module _ (addressing : Addressing) (before after : Option (List ℕ)) (old new : LinesState) where
  -- where lines are heard to say `what` at their last one, this line says the ask that it completes in the script
  -- behind the earlier ones
  asked_at : (what : NextAsk) (h : HearsAt (Say addressing) before after old new what) →
      SaysAsk addressing (pending_after addressing Between h.earlier) h.last what
  asked_at what h =
      let s = silent_lines addressing Between h.earlier h.given (h.silent addressing Between refl) in
      says_ask addressing (pending_after addressing Between h.earlier) h.last what h.last_given.0
      (sym (s.behind (h.last ∷ [])) ∙ h.says [] addressing Between refl)

  -- where lines are heard to say something at their last one, the next request is taken with it
  takes_ask : (what : NextAsk) → HearsAt (Say addressing) before after old new what →
      TakesNext addressing before after old new what
  takes_ask what h =
      let s = silent_lines addressing Between h.earlier h.given (h.silent addressing Between refl) in
      let pending : Pending = pending_after addressing Between h.earlier in
      let a = asked_at what h in
      subst (λ (w : NextAsk). TakesNext addressing before after old new w) (sym a.is_said)
      (record {
        passed = h.earlier ++ h.last ∷ [];
        reads = h.reads;
        given = All-push (λ (l : Line (List ℕ)). IsGiven l) h.earlier h.last h.given h.last_given;
        asks = asks_from-append addressing Between h.earlier (h.last ∷ [])
            ∙ ap (λ (zs : Asks). zs ++ (asks_of_line addressing pending h.last ++ [])) s.no_asks
            ∙ append-nil (asks_of_line addressing pending h.last)
            ∙ a.asks;
        earlier = h.earlier;
        last = h.last;
        ends = refl;
        none_earlier = s.no_asks;
        between = pending_after-append addressing Between h.earlier (h.last ∷ []) ∙ a.between;
        numbered = asked_session addressing h.earlier h.last a.asked a.asks;
      })

  -- where lines that say nothing are followed by an end of the input or a failure, no request is taken from them
  none : (result : Result (Line (List ℕ)) LineStop) → HearsUntil (Say addressing) before after old result →
      TakesNone addressing before after old result
  none result h = record {
    passed = h.passed;
    reads = h.reads;
    given = h.given;
    asks = (silent_lines addressing Between h.passed h.given (h.silent addressing Between refl)).no_asks;
  }

  -- where the input ends after lines that say nothing, the next ask is taken with the end that the pending state gives
  end_taken : (h : HearsUntil (Say addressing) before after old (Ok line.End)) (pending : Pending) →
      ending_by (pending_after addressing Between h.passed) ≡ ending_by pending →
      TakesNext addressing before after old new (taken_at (ending_by pending))
  unfolding none
  end_taken h Between e = record { none = none (Ok line.End) h; ends = e }
  end_taken h (Text session form body) e = record { none = none (Ok line.End) h; ends = e }
  end_taken h (Certificate session body) e = record { none = none (Ok line.End) h; ends = e }

  -- what is said at the end of the input is the end that the pending state gives
  said_at_end : (what : NextAsk) (h : HearsAtEnd (Say addressing) before after old what) →
      what ≡ taken_at (ending_by (pending_after addressing Between h.until.passed))
  said_at_end what h =
      let s = silent_lines addressing Between h.until.passed h.until.given (h.until.silent addressing Between refl) in
      same_said what _
      (sym (h.says addressing Between refl) ∙ s.behind (line.End ∷ [])
      ∙ at_end addressing (pending_after addressing Between h.until.passed))

  -- where something is heard at the end of the input, the next ask is taken with it
  takes_end : (what : NextAsk) → HearsAtEnd (Say addressing) before after old what →
      TakesNext addressing before after old new what
  takes_end what h =
      subst (λ (w : NextAsk). TakesNext addressing before after old new w) (sym (said_at_end what h))
      (end_taken h.until (pending_after addressing Between h.until.passed) refl)

  -- where something is heard, at a line or at the end, the next ask is taken with it
  takes_said : (what : NextAsk) → HearsNext (Say addressing) before after old new (Ok (heard.Says what)) →
      TakesNext addressing before after old new what
  takes_said what (inl h) = takes_ask what h
  takes_said what (inr h) = takes_end what h

  -- where hearing the next lines gives that they say `what`, the next ask is taken with `what`
  pub takes : (found : Heard NextAsk) (what : NextAsk) → found ≡ heard.Says what →
      HearsNext (Say addressing) before after old new (Ok found) → TakesNext addressing before after old new what
  takes found what is h =
      takes_said what (subst (λ (f : Heard NextAsk). HearsNext (Say addressing) before after old new (Ok f)) is h)

  -- where the input is heard to be too long, the next ask is taken with the halt `Over`
  pub too_long : (found : Heard NextAsk) → found ≡ heard.Over →
      HearsNext (Say addressing) before after old new (Ok found) →
      TakesNext addressing before after old new (Err halts.Over)
  too_long found is h =
      none (Ok line.Over) (subst (λ (f : Heard NextAsk). HearsNext (Say addressing) before after old new (Ok f)) is h)

  -- where hearing stops, the next ask is taken with the halt of this stop
  stopped_by : (why : LineStop) → HearsNext (Say addressing) before after old new (Err why) →
      TakesNext addressing before after old new (Err (halt_of why))
  stopped_by stop.Read h = none (Err stop.Read) h
  stopped_by stop.NoMemory h = h

  -- where hearing the next lines stops, the next ask is taken with the halt that this stop is
  pub stopped : (result : NextAsk) (why : LineStop) → result ≡ Err (halt_of why) →
      HearsNext (Say addressing) before after old new (Err why) → TakesNext addressing before after old new result
  stopped result why is h =
      subst (λ (r : NextAsk). TakesNext addressing before after old new r) (sym is) (stopped_by why h)

  -- what is said of a script is no failed read

  -- a request is no failed read
  no_fault_in : (asked : Asked ExactAsk) → ◌≡◌ {A = NextAsk} (Ok (Some asked)) (Err halts.Read) → ⊥
  no_fault_in asked e = cc

  -- an end of the input is never taken for a failed read
  no_fault_at : (ending : Ending) → taken_at ending ≡ Err halts.Read → ⊥
  no_fault_at Ended e = cc
  no_fault_at Cut e = cc
  no_fault_at Over e = cc

  -- what is heard is never that a read failed
  said_no_fault : (what : NextAsk) → HearsNext (Say addressing) before after old new (Ok (heard.Says what)) →
      what ≡ Err halts.Read → ⊥
  said_no_fault what (inl h) e = let a = asked_at what h in no_fault_in a.asked (sym a.is_said ∙ e)
  said_no_fault what (inr h) e = no_fault_at _ (sym (said_at_end what h) ∙ e)

  -- what the lines are heard to say is never that a read failed
  pub no_fault : {P : Type 0} (found : Heard NextAsk) (what : NextAsk) → found ≡ heard.Says what →
      HearsNext (Say addressing) before after old new (Ok found) → what ≡ Err halts.Read → P
  no_fault found what is h e =
      absurd (said_no_fault what
      (subst (λ (f : Heard NextAsk). HearsNext (Say addressing) before after old new (Ok f)) is h) e)

  -- an ask takes a byte at least

  -- where a byte more was taken and no more than 2 ^ 26 in all, it is so of a request, if what is said is one
  more_at : (what : NextAsk) → (old.given < new.given) × (new.given ≤ 2 ^ 26) → TakesMore old new what
  more_at (Ok (Some asked)) more = more
  more_at (Ok None) more = tt
  more_at (Err halt) more = tt

  -- an end of the input need not take a byte more
  more_at_end : (ending : Ending) → TakesMore old new (taken_at ending)
  more_at_end Ended = tt
  more_at_end Cut = tt
  more_at_end Over = tt

  -- what is heard takes at least one byte more, unless it is an end, and at most 2 ^ 26 are given in all
  more_said : (what : NextAsk) → HearsNext (Say addressing) before after old new (Ok (heard.Says what)) →
      TakesMore old new what
  more_said what (inl h) = more_at what (h.grows, h.bound)
  more_said what (inr h) = subst (λ (w : NextAsk). TakesMore old new w) (sym (said_at_end what h)) (more_at_end _)

  -- where the lines are heard to say an ask, at least one byte more was given, and at most 2 ^ 26 in all
  pub takes_more : (found : Heard NextAsk) (what : NextAsk) → found ≡ heard.Says what →
      HearsNext (Say addressing) before after old new (Ok found) → TakesMore old new what
  takes_more found what is h =
      more_said what (subst (λ (f : Heard NextAsk). HearsNext (Say addressing) before after old new (Ok f)) is h)
