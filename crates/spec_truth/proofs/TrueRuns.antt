-- In a run of sessions, what is answered, and what a yes to a certificate says, is shown of the model that the session
-- has then.
--
-- `split_run`: a run of two lists of exchanges is a run of the first, and one of the second from where it ended.
-- `own_first`: the exchanges of a session among those that begin with its own begin with this one.
-- `steps_then`: at each exchange of a run the session holds the model that the exchanges before say, and takes a step.
-- `answered_then`: what is answered in a run is shown of the model that the session holds then.
-- `accepted_then`: what an accepted certificate says in a run is shown of the model that the session holds then.
-- `answered_holds`: what is answered in a run holds of the model that the session holds then.
-- `accepted_holds`: what an accepted certificate says in a run holds of the model that the session holds then.
-- `wide_then`: the lines of a wide solve in a run begin truly of the model that the session holds then.
use Rattle.std.proofs.Common.{◌≡◌, ℕ, true, cond, List, [], ◌∷◌, ◌++◌, Some, refl, sym, ◌∙◌, ap, subst, nat_eq, eq-eqb}
use Rattle.spec_exact.specs.Fraction.{ℚ}
use Rattle.spec_model.specs.Model.{Model}
use Rattle.spec_check.specs.declared.certificate.Known.{Known}
use Rattle.spec_check.specs.Certificate.{Holds}
use Rattle.spec_server.specs.declared.asks.Reply.TheVariants as reply
use Rattle.spec_server.specs.Machine.{ExactAsk, ExactReply, State, opening}
use Rattle.spec_board.specs.Reads.{ExactRead}
use Rattle.spec_server.specs.Step.{AloneStep}
use Rattle.spec_server.specs.Exchanges.{Exchange, AloneRun, of_session, RunAlone}
use Rattle.spec_server.proofs.RunLemmas.{of_session-append}
use Rattle.spec_truth.specs.ModelThen.{model_then}
use Rattle.spec_truth.proofs.HeldThen.{holds_then}
use Rattle.spec_truth.proofs.Shown.{IsShown, shown_holds}
use Rattle.spec_truth.proofs.ReplyLines.{answer_to, yes_to}
use Rattle.spec_truth.proofs.TrueReplies.{IsShownOfHeld, answer_is_shown, yes_is_shown, wide_is_shown}
use Rattle.spec_truth.proofs.WideReplies.{BeginsTrue}

-- ---- the step of one exchange in a run

-- the exchanges xs run from state a to some middle state, and ys from there to state c
pub record Splits (places : ℕ) (a c : State) (xs ys : List Exchange) : Type 0 where
  pub middle : State
  pub first : AloneRun places a xs middle
  pub second : AloneRun places middle ys c

pub split_run : (places : ℕ) (a c : State) (xs ys : List Exchange) → AloneRun places a (xs ++ ys) c →
    Splits places a c xs ys
split_run places a c [] ys run = record { middle = a; first = refl; second = run }
split_run places a c (x ∷ xs) ys run =
    let more : Splits places run.0 c xs ys = split_run places run.0 c xs ys run.2 in
    record { middle = more.middle; first = (run.0, run.1, more.first); second = more.second }

-- the number of a session is the same as itself by the test
same_session : (n : ℕ) → nat_eq n n ≡ true
same_session n = eq-eqb n n refl

-- an exchange is the first of its session's in the list that it begins
pub own_first : (x : Exchange) (xs : List Exchange) → of_session x.session (x ∷ xs) ≡ x ∷ of_session x.session xs
own_first x xs = ap (λ t. cond t (x ∷ of_session x.session xs) (of_session x.session xs)) (same_session x.session)

-- at the exchange x, its session holds the model that the exchanges `before` say, and takes a step with the request,
-- reads and reply of x
pub record StepsThen (places : ℕ) (before : List Exchange) (x : Exchange) : Type 0 where
  pub old : State
  pub new : State
  pub step : AloneStep places old x.ask x.reads x.reply new
  pub held : old.model ≡ model_then x.session before

pub steps_then : (places : ℕ) (before behind : List Exchange) (x : Exchange) → RunAlone places (before ++ x ∷ behind) →
    StepsThen places before x
steps_then places before behind x fits =
    let s : ℕ = x.session in
    let run = fits s in
    let cut : of_session s (before ++ x ∷ behind) ≡ of_session s before ++ (x ∷ of_session s behind) =
    of_session-append s before (x ∷ behind) ∙ ap (λ ys. of_session s before ++ ys) (own_first x behind) in
    let parts =
    split_run places opening run.0 (of_session s before) (x ∷ of_session s behind)
    (subst (λ (ys : List Exchange). AloneRun places opening ys run.0) cut run.1) in
    record {
      old = parts.middle;
      new = parts.second.0;
      step = parts.second.1;
      held = holds_then places s before parts.middle parts.first;
    }

-- ---- what it replies

-- the session of x has a model after the exchanges `before`, and a certificate by which the checker says this answer of
-- it
pub record IsShownThen (before : List Exchange) (x : Exchange) (what : Known ℚ) : Type 0 where
  pub model : Model
  pub is_held : model_then x.session before ≡ Some model
  pub shown : IsShown model what

-- by what is shown where a step replies what says so
module _ (says : Known ℚ → ExactReply)
    (shows : (places : ℕ) (old new : State) (asked : ExactAsk) (reads : List ExactRead) (what : Known ℚ) →
    AloneStep places old asked reads (says what) new → IsShownOfHeld old.model what) where
  -- where an exchange in a run has the reply that says this answer, the answer is shown of the model that its session
  -- has then
  said_then : (places : ℕ) (before behind : List Exchange) (x : Exchange) (what : Known ℚ) →
      RunAlone places (before ++ x ∷ behind) → x.reply ≡ says what → IsShownThen before x what
  said_then places before behind x what fits is =
      let s = steps_then places before behind x fits in
      let h =
      shows places s.old s.new x.ask x.reads what
      (subst (λ (r : ExactReply). AloneStep places s.old x.ask x.reads r s.new) is s.step) in
      record { model = h.model; is_held = sym s.held ∙ h.is_held; shown = h.shown }

pub answered_then : (places : ℕ) (before behind : List Exchange) (x : Exchange) (what : Known ℚ) →
    RunAlone places (before ++ x ∷ behind) → x.reply ≡ answer_to what → IsShownThen before x what
answered_then = said_then answer_to answer_is_shown

pub accepted_then : (places : ℕ) (before behind : List Exchange) (x : Exchange) (what : Known ℚ) →
    RunAlone places (before ++ x ∷ behind) → x.reply ≡ yes_to what → IsShownThen before x what
accepted_then = said_then yes_to yes_is_shown

-- what is shown of the model that a session has then is true of it
true_then : (before : List Exchange) (x : Exchange) (what : Known ℚ) → IsShownThen before x what →
    (m : Model) × (model_then x.session before ≡ Some m) × Holds m what
true_then before x what h = (h.model, h.is_held, shown_holds h.model what h.shown)

pub answered_holds : (places : ℕ) (before behind : List Exchange) (x : Exchange) (what : Known ℚ) →
    RunAlone places (before ++ x ∷ behind) → x.reply ≡ answer_to what →
    (m : Model) × (model_then x.session before ≡ Some m) × Holds m what
answered_holds places before behind x what fits is =
    true_then before x what (answered_then places before behind x what fits is)

pub accepted_holds : (places : ℕ) (before behind : List Exchange) (x : Exchange) (what : Known ℚ) →
    RunAlone places (before ++ x ∷ behind) → x.reply ≡ yes_to what →
    (m : Model) × (model_then x.session before ≡ Some m) × Holds m what
accepted_holds places before behind x what fits is =
    true_then before x what (accepted_then places before behind x what fits is)

-- ---- the lines of a wide solve

pub wide_then : (places : ℕ) (before behind : List Exchange) (x : Exchange) (lines : List (List ℕ)) →
    RunAlone places (before ++ x ∷ behind) → x.reply ≡ reply.Wide lines →
    (m : Model) × (model_then x.session before ≡ Some m) × BeginsTrue m lines
wide_then places before behind x lines fits is =
    let s = steps_then places before behind x fits in
    let h =
    wide_is_shown places s.old s.new x.ask x.reads lines
    (subst (λ (r : ExactReply). AloneStep places s.old x.ask x.reads r s.new) is s.step) in
    (h.model, sym s.held ∙ h.is_held, h.begins)
