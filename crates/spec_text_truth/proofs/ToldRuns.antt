-- In a run of sessions, what is told is true of the model that the session has then.
use Rattle.std.proofs.Common.{◌≡◌, ℕ, Bool, true, false, cond, nat_eq, List, [], ◌∷◌, ◌++◌, map, Option, Some, refl, ◌⊎◌, inl, inr}
use Rattle.std.proofs.Common.{sym, ap, ap₂, ◌∙◌, subst, append_assoc}
use Rattle.std.specs.Prelude.{All, codes}
use Rattle.std.specs.List.{flat_map}
use Rattle.std.proofs.lemmas.List.{map-append}
use Rattle.std.proofs.lemmas.List.Elements.{All-nil, All-cons, All-head, All-tail, All-map}
use Rattle.spec_text.specs.Lines.{lines_of}
use Rattle.spec_exact.specs.Fraction.{ℚ}
use Rattle.spec_model.specs.Model.{Model}
use Rattle.spec_model.specs.Truth.{IsOptimal}
use Rattle.spec_mps.specs.NumberText.{number_of}
use Rattle.spec_mps.specs.NumberWritten.{number_text}
use Rattle.spec_check.specs.declared.certificate.Known.TheVariants as known
use Rattle.spec_server.specs.declared.addressing.Addressing.{Addressing}
use Rattle.spec_server.specs.declared.asks.Asked.{Asked}
use Rattle.spec_server.specs.declared.asks.Reply.TheVariants as reply
use Rattle.spec_server.specs.Machine.{ExactAsk, IsKeptAsk, AreKept, State, opening}
use Rattle.spec_server.specs.Output.{reply_text, reply_lines, ended_lines}
use Rattle.spec_server.specs.Script.{Between, asks_from}
use Rattle.spec_server.specs.Step.{AloneStep}
use Rattle.spec_server.specs.Exchanges.{Exchange, asked_in, AloneRun, of_session, RunAlone}
use Rattle.spec_server.proofs.RunLemmas.{of_session-append}
use Rattle.spec_server.proofs.ScriptKept.{lines_kept}
use Rattle.spec_server.proofs.Sessions.{IsGood, run_good}
use Rattle.spec_serve.specs.Link.{AreFirstOf, HoldsOfAll}
use Rattle.spec_truth.specs.Agree.{IsOpen}
use Rattle.spec_truth.specs.ModelThen.{model_then}
use Rattle.spec_text_truth.specs.TrueOutput.{IsNumber, IsWideNumber, IsTrueLine, BehindYes, BehindWide, Asking, Told, IsFramed}
use Rattle.spec_text_truth.specs.TrueOutput.{asked_from, told_out}
use Rattle.spec_text_truth.specs.TrueOutput.{model_told, IsTrueReply, AreTrueReplies}
use Rattle.spec_truth.proofs.Shown.{shown_holds, value_fits}
use Rattle.spec_truth.proofs.AnswerLines.{read_back, same_line}
use Rattle.spec_truth.proofs.WideReplies.{IsKnownLine}
use Rattle.spec_truth.proofs.HeldThen.{holds_then}
use Rattle.spec_truth.proofs.ReplyLines.{optimal_answer, infeasible_answer, unbounded_answer, optimal_yes, infeasible_yes}
use Rattle.spec_truth.proofs.ReplyLines.{unbounded_yes, wide_reply}
use Rattle.spec_truth.proofs.TrueRuns.{Splits, split_run, own_first, IsShownThen, answered_then, accepted_then, wide_then}
use Rattle.spec_text_truth.proofs.AskedEffects.{asking_of, asked_from-is}
use Rattle.spec_text_truth.proofs.PlainAsks.{IsPlainAsk, ArePlainAsks, asks_plain}
use Rattle.spec_text_truth.proofs.PlainReplies.{IsPlainReply, step_plain}
use Rattle.spec_text_truth.proofs.PlainWords.{lines_plain}
use Rattle.spec_text_truth.proofs.ToldReplies.{behind_of, IsListed, reply_framed, reply_lines_told, step_listed}
use Rattle.spec_text_truth.proofs.WideReplies.{line_no_feed, line_is_true}
use Rattle.spec_text_truth.proofs.ToldModels.{told_of, told_then}

-- ---- a session before an exchange

-- where all requests of exchanges may be kept, so may those of the first exchanges
front_kept : (before behind : List Exchange) → AreKept (map asked_in (before ++ behind)) → AreKept (map asked_in before)
front_kept [] behind may = All-nil (λ (a : Asked ExactAsk). IsKeptAsk a.ask)
front_kept (x ∷ before) behind may =
    All-cons (λ (a : Asked ExactAsk). IsKeptAsk a.ask) (asked_in x) (map asked_in before)
    (All-head (λ (a : Asked ExactAsk). IsKeptAsk a.ask) (asked_in x) (map asked_in (before ++ behind)) may)
    (front_kept before behind
    (All-tail (λ (a : Asked ExactAsk). IsKeptAsk a.ask) (asked_in x) (map asked_in (before ++ behind)) may))

-- where all requests of exchanges may be kept, so may those of one session
session_kept : (session : ℕ) (xs : List Exchange) → AreKept (map asked_in xs) →
    AreKept (map asked_in (of_session session xs))
session_kept session [] may = may
session_kept session (x ∷ xs) may =
    by (nat_eq x.session session)
    (session_kept session xs (All-tail (λ (a : Asked ExactAsk). IsKeptAsk a.ask) (asked_in x) (map asked_in xs) may))
  where
    by : (t : Bool) → AreKept (map asked_in (of_session session xs)) →
        AreKept (map asked_in (cond t (x ∷ of_session session xs) (of_session session xs)))
    by true rest =
        All-cons (λ (a : Asked ExactAsk). IsKeptAsk a.ask) (asked_in x) (map asked_in (of_session session xs))
        (All-head (λ (a : Asked ExactAsk). IsKeptAsk a.ask) (asked_in x) (map asked_in xs) may) rest
    by false rest = rest

-- the state before it, and its step
record IsReached (places : ℕ) (before : List Exchange) (x : Exchange) : Type 0 where
  old : State
  new : State
  run : AloneRun places opening (of_session x.session before) old
  step : AloneStep places old x.ask x.reads x.reply new

-- each exchange of a run of sessions is a step from the state that its session's earlier exchanges lead to
reached : (places : ℕ) (before behind : List Exchange) (x : Exchange) → RunAlone places (before ++ x ∷ behind) →
    IsReached places before x
reached places before behind x alone =
    let s : ℕ = x.session in
    let run = alone s in
    let cut : of_session s (before ++ x ∷ behind) ≡ of_session s before ++ (x ∷ of_session s behind) =
    of_session-append s before (x ∷ behind) ∙ ap (λ ys. of_session s before ++ ys) (own_first x behind) in
    let parts : Splits places opening run.0 (of_session s before) (x ∷ of_session s behind) =
    split_run places opening run.0 (of_session s before) (x ∷ of_session s behind)
    (subst (λ (ys : List Exchange). AloneRun places opening ys run.0) cut run.1) in
    record { old = parts.middle; new = parts.second.0; run = parts.first; step = parts.second.1 }

-- an empty text does not begin with a line
no_line : (line rest : List ℕ) → [] ≡ line ++ 10 ∷ rest → ⊥
no_line [] rest e = cc
no_line (b ∷ line) rest e = cc

-- ---- its reply

module _ (places : ℕ) (before behind : List Exchange) (x : Exchange) (alone : RunAlone places (before ++ x ∷ behind)) where
  here : IsReached places before x
  here = reached places before behind x alone

  -- where the requests of a run may be kept, the session of exchange x is in a good state before it
  good : AreKept (map asked_in (before ++ x ∷ behind)) → IsGood here.old
  good may =
      run_good places opening here.old (of_session x.session before)
      (session_kept x.session before (front_kept before (x ∷ behind) may)) here.run (record { kept = tt; fits = tt })

  -- where the requests of a run may be kept, the reply of exchange x is of lines
  then_listed : AreKept (map asked_in (before ++ x ∷ behind)) → IsListed x.reply
  then_listed may = step_listed places here.old here.new x.ask x.reads x.reply here.step (good may)

  -- where the requests of a run may be kept, and that of an exchange has no name with a line feed, neither has its
  -- reply
  pub then_plain : AreKept (map asked_in (before ++ x ∷ behind)) → IsPlainAsk x.ask → IsPlainReply x.reply
  then_plain may plain = step_plain places here.old here.new x.ask x.reads x.reply here.step (good may).kept plain

  abbrev IsThen : Model → Type 0
  IsThen m = model_told x.session (map told_of before) ≡ Some m

  -- a model that is told of the session before exchange x is the one that it has then
  is_then : (m : Model) → model_then x.session before ≡ Some m → IsThen m
  is_then m e =
      sym (told_then places x.session before here.old here.run)
      ∙ holds_then places x.session before here.old here.run ∙ e

  -- by what is shown then
  module _ (text : List ℕ) (v : ℚ) (same : number_text v ≡ text) (s : IsShownThen before x (known.Optimal v)) where
    -- a value that is shown in exchange x is the optimal value of the model that the session has then
    value_true : (m : Model) × IsThen m × ((v : ℚ) × IsNumber text v × IsOptimal m v)
    value_true = (
      s.model,
      is_then s.model s.is_held,
      (v, ap number_of (sym same) ∙ read_back v (value_fits s.model v s.shown), shown_holds s.model (known.Optimal v) s.shown),
    )

  -- the line of the reply of exchange x is true of the model that its session has then
  answer_line : IsTrueLine IsThen IsNumber (reply_text x.reply)
  answer_line = record {
    optimal = λ text e.
        let y = optimal_answer x.reply text e in
        value_true text y.0 y.2 (answered_then places before behind x (known.Optimal y.0) alone y.1);
    infeasible = λ e.
        let s = answered_then places before behind x known.Infeasible alone (infeasible_answer x.reply e) in
        (s.model, is_then s.model s.is_held, shown_holds s.model known.Infeasible s.shown);
    unbounded = λ e.
        let s = answered_then places before behind x known.Unbounded alone (unbounded_answer x.reply e) in
        (s.model, is_then s.model s.is_held, shown_holds s.model known.Unbounded s.shown);
  }

  -- where the line of exchange x is a yes, what stands behind the word is true of the model that the session has then
  yes_line : BehindYes (IsTrueLine IsThen IsNumber) (reply_text x.reply)
  yes_line rest said_yes = record {
    optimal = λ text e.
        let y = optimal_yes x.reply text (said_yes ∙ ap (λ (r : List ℕ). codes "YES " ++ r) e) in
        value_true text y.0 y.2 (accepted_then places before behind x (known.Optimal y.0) alone y.1);
    infeasible = λ e.
        let s = accepted_then places before behind x known.Infeasible alone
        (infeasible_yes x.reply (said_yes ∙ ap (λ (r : List ℕ). codes "YES " ++ r) e)) in
        (s.model, is_then s.model s.is_held, shown_holds s.model known.Infeasible s.shown);
    unbounded = λ e.
        let s = accepted_then places before behind x known.Unbounded alone
        (unbounded_yes x.reply (said_yes ∙ ap (λ (r : List ℕ). codes "YES " ++ r) e)) in
        (s.model, is_then s.model s.is_held, shown_holds s.model known.Unbounded s.shown);
  }

  -- where exchange x is a wide solve, its first line is true of the model that the session has then
  wide_line : BehindWide (IsTrueLine IsThen IsWideNumber) (told_of x)
  unfolding ended_lines
  wide_line count said_wide line rest plain e =
      let y = wide_reply x.reply count said_wide in
      by y.0 y.1 (ap ended_lines (sym (ap behind_of y.1)) ∙ e)
    where
      by : (lines : List (List ℕ)) → x.reply ≡ reply.Wide lines → ended_lines lines ≡ line ++ 10 ∷ rest →
          IsTrueLine IsThen IsWideNumber line
      by [] is e = absurd (no_line line rest e)
      by (first ∷ more) is e =
          let w = wide_then places before behind x (first ∷ more) alone is in
          let same : first ≡ line =
          same_line first line (ended_lines more) rest (line_no_feed w.0 first w.2) plain
          (sym (append_assoc first (10 ∷ []) (ended_lines more)) ∙ e) in
          line_is_true IsThen w.0 line (is_then w.0 w.1)
          (subst (λ (l : List ℕ). IsOpen l ⊎ IsKnownLine w.0 l) same w.2)

  -- what is told of exchange x is a true reply after what is told before it
  then_true : IsTrueReply (map told_of before) (told_of x)
  then_true = (answer_line, yes_line, wide_line)

-- ---- lists of exchanges

-- what is told of exchanges is told of each
record IsToldAt (xs : List Exchange) (before behind : List Told) (t : Told) : Type 0 where
  front : List Exchange
  last : Exchange
  rest : List Exchange
  cut : xs ≡ front ++ last ∷ rest
  before_is : map told_of front ≡ before
  is_told : told_of last ≡ t

-- what is told at a place of exchanges is told one place later with one exchange more before them
more_at : (x : Exchange) (xs : List Exchange) (u : Told) (before behind : List Told) (t : Told) → told_of x ≡ u →
    IsToldAt xs before behind t → IsToldAt (x ∷ xs) (u ∷ before) behind t
more_at x xs u before behind t same r = record {
  front = x ∷ r.front;
  last = r.last;
  rest = r.rest;
  cut = ap (λ (ys : List Exchange). x ∷ ys) r.cut;
  before_is = ap₂ (λ (u : Told) (us : List Told). u ∷ us) same r.before_is;
  is_told = r.is_told;
}

-- where a list of what is told is cut at an element, the exchanges are cut at the one that it is told of
told_at : (xs : List Exchange) (before behind : List Told) (t : Told) → map told_of xs ≡ before ++ t ∷ behind →
    IsToldAt xs before behind t
told_at [] [] behind t e = cc
told_at [] (u ∷ before) behind t e = cc
told_at (x ∷ xs) [] behind t e =
    let same : told_of x ≡ t = cc in
    record { front = []; last = x; rest = xs; cut = refl; before_is = refl; is_told = same }
told_at (x ∷ xs) (u ∷ before) behind t e =
    let same : told_of x ≡ u = cc in
    let more : map told_of xs ≡ before ++ t ∷ behind = cc in
    more_at x xs u before behind t same (told_at xs before behind t more)

-- where P holds of each exchange of a list, wherever the list is cut, P holds of all its last exchanges
each_from : (P : Exchange → Type 0) (all front xs : List Exchange) → all ≡ front ++ xs →
    ((before behind : List Exchange) (x : Exchange) → all ≡ before ++ x ∷ behind → P x) → All P xs
each_from P all front [] e h = All-nil P
each_from P all front (x ∷ xs) e h =
    All-cons P x xs (h front xs x e)
    (each_from P all (front ++ x ∷ []) xs (e ∙ sym (append_assoc front (x ∷ []) xs)) h)

-- where replies are of lines, the lines that sessions write are the output of what is told of their exchanges
out_told : (addressing : Addressing) (xs : List Exchange) → All (λ x. IsListed x.reply) xs →
    flat_map (λ x. reply_lines addressing x.session x.reply) xs ≡ told_out addressing (map told_of xs)
out_told addressing [] h = refl
out_told addressing (x ∷ xs) h =
    ap₂ (λ (a b : List ℕ). a ++ b)
    (reply_lines_told addressing x.session x.reply (All-head (λ (x : Exchange). IsListed x.reply) x xs h))
    (out_told addressing xs (All-tail (λ (x : Exchange). IsListed x.reply) x xs h))

-- what is asked in what is told of exchanges is the effects of the exchanges' asks
asked_told : (xs : List Exchange) → map (λ (x : Told). x.asked) (map told_of xs) ≡ map asking_of (map asked_in xs)
asked_told [] = refl
asked_told (x ∷ xs) = ap (λ asked. asking_of (asked_in x) ∷ asked) (asked_told xs)

-- what holds of all requests of a list holds of its first requests
first_all : (P : Asked ExactAsk → Type 0) (first later : List (Asked ExactAsk)) → All P (first ++ later) → All P first
first_all P [] later h = All-nil P
first_all P (a ∷ first) later h =
    All-cons P a first (All-head P a (first ++ later) h) (first_all P first later (All-tail P a (first ++ later) h))

-- where the requests of a run have no name with a line feed, the request of one exchange has none
asked_at : (before behind : List Exchange) (x : Exchange) → ArePlainAsks (map asked_in (before ++ x ∷ behind)) →
    IsPlainAsk x.ask
asked_at [] behind x h = All-head (λ (a : Asked ExactAsk). IsPlainAsk a.ask) (asked_in x) (map asked_in behind) h
asked_at (y ∷ before) behind x h =
    asked_at before behind x
    (All-tail (λ (a : Asked ExactAsk). IsPlainAsk a.ask) (asked_in y) (map asked_in (before ++ x ∷ behind)) h)

-- ---- the whole

-- where exchanges are of the first requests of bytes, what is told of them is of the first effects
first_told : (addressing : Addressing) (xs : List Exchange) (bytes : List ℕ) →
    AreFirstOf (map asked_in xs) (asks_from addressing Between (lines_of bytes)) →
    AreFirstOf (map (λ (x : Told). x.asked) (map told_of xs)) (asked_from addressing Between (lines_of bytes))
first_told addressing xs bytes (later, asks) = (
  map asking_of later,
  asked_from-is addressing Between (lines_of bytes) ∙ ap (map asking_of) asks
      ∙ map-append asking_of (map asked_in xs) later
      ∙ ap (λ (asked : List Asking). asked ++ map asking_of later) (sym (asked_told xs)),
)

-- where exchanges are of the first requests of an input, what is told of them is of the input's first effects
told_of_all : (addressing : Addressing) (after : Option (List ℕ)) (read : List ℕ) (xs : List Exchange) →
    HoldsOfAll after read (λ bytes. AreFirstOf (map asked_in xs) (asks_from addressing Between (lines_of bytes))) →
    HoldsOfAll after read
    (λ bytes. AreFirstOf (map (λ (x : Told). x.asked) (map told_of xs)) (asked_from addressing Between (lines_of bytes)))
told_of_all addressing after read xs (inl (at_end, first)) = inl (at_end, first_told addressing xs read first)
told_of_all addressing after read xs (inr always) = inr λ more. first_told addressing xs (read ++ more) (always more)

-- exchanges that are of the first requests of an input are of the first requests of some bytes
first_of_some : (addressing : Addressing) (after : Option (List ℕ)) (read : List ℕ) (xs : List Exchange) →
    HoldsOfAll after read (λ bytes. AreFirstOf (map asked_in xs) (asks_from addressing Between (lines_of bytes))) →
    (bytes : List ℕ) × AreFirstOf (map asked_in xs) (asks_from addressing Between (lines_of bytes))
first_of_some addressing after read xs (inl (at_end, first)) = (read, first)
first_of_some addressing after read xs (inr always) = (read ++ [], always [])

-- in a run of the first requests of an input's lines, the replies are true
pub replies_true : (places : ℕ) (addressing : Addressing) (after : Option (List ℕ)) (read : List ℕ) (xs : List Exchange) →
    RunAlone places xs →
    HoldsOfAll after read (λ bytes. AreFirstOf (map asked_in xs) (asks_from addressing Between (lines_of bytes))) →
    AreTrueReplies addressing after read (flat_map (λ x. reply_lines addressing x.session x.reply) xs)
replies_true places addressing after read xs alone asks =
    record {
      told = map told_of xs;
      asked = told_of_all addressing after read xs asks;
      framed = All-map IsFramed told_of xs (λ i d l. reply_framed _ _ (plain i d l) (listed i d l));
      replies = out_told addressing xs listed;
      are_true = λ before behind t e.
          let r = told_at xs before behind t e in
          let whole : RunAlone places (r.front ++ r.last ∷ r.rest) = subst (RunAlone places) r.cut alone in
          subst (λ (u : Told). IsTrueReply before u) r.is_told
          (subst (λ (us : List Told). IsTrueReply us (told_of r.last)) r.before_is
          (then_true places r.front r.rest r.last whole));
    }
  where
    first : (bytes : List ℕ) × AreFirstOf (map asked_in xs) (asks_from addressing Between (lines_of bytes))
    first = first_of_some addressing after read xs asks

    kept : AreKept (map asked_in xs)
    kept =
        first_all (λ a. IsKeptAsk a.ask) (map asked_in xs) first.1.0
        (subst AreKept first.1.1 (lines_kept addressing Between (lines_of first.0)))

    plain_asks : ArePlainAsks (map asked_in xs)
    plain_asks =
        first_all (λ a. IsPlainAsk a.ask) (map asked_in xs) first.1.0
        (subst ArePlainAsks first.1.1 (asks_plain addressing (lines_of first.0) (lines_plain first.0)))

    listed : All (λ (x : Exchange). IsListed x.reply) xs
    listed =
        each_from (λ x. IsListed x.reply) xs [] xs refl
        (λ before behind x e. then_listed places before behind x (subst (RunAlone places) e alone)
        (subst (λ (ys : List Exchange). AreKept (map asked_in ys)) e kept))

    plain : All (λ (x : Exchange). IsPlainReply x.reply) xs
    plain =
        each_from (λ x. IsPlainReply x.reply) xs [] xs refl
        (λ before behind x e. then_plain places before behind x (subst (RunAlone places) e alone)
        (subst (λ (ys : List Exchange). AreKept (map asked_in ys)) e kept)
        (asked_at before behind x (subst (λ (ys : List Exchange). ArePlainAsks (map asked_in ys)) e plain_asks)))
