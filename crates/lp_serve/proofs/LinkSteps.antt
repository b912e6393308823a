-- The steps of a session, one after the other.
--
-- `step_by`: a session's step by a pass, with its calls, is a step of its exchange.
-- `steps_more`: one step more after some steps is steps of one exchange more.
-- `steps_run`: the steps of a session are a run of it alone, and leave the number of places as it is.
use Rattle.std.proofs.Common.{◌≡◌, ℕ, List, [], ◌∷◌, ◌++◌, refl, ap, ◌∙◌, subst}
use Rattle.spec_server.specs.Exchanges.{Exchange, AloneRun}
use Rattle.spec_server.specs.Machine.{ExactAsk, ExactReply, State}
use Rattle.basis_board.specs.declared.seats.View.{View}
use Rattle.basis_board.specs.Rule.{Consistent}
use Rattle.lp_workers.proofs.Calls.{calls_places}
use Rattle.lp_session.specs.Boarding.{AddsStep, StepCalls}
use Rattle.lp_serve.specs.Service.{StepBy, Steps}

-- the exchange of session 0 with this request, the reads that its step adds, and this reply
abbrev pub exchange_of : {v w : View} {old new : State} (asked : ExactAsk) (reply : ExactReply) →
    AddsStep old asked v reply new w → Exchange
exchange_of asked reply adds = record { session = 0; ask = asked; reads = adds.reads; reply = reply }

pub step_by : {v w : View} {old new : State} (asked : ExactAsk) (reply : ExactReply)
    (adds : AddsStep old asked v reply new w) → StepCalls v w → (Consistent v → Consistent w) →
    StepBy v old (exchange_of asked reply adds) w new
step_by asked reply adds calls consistent =
    record { step = adds.step; reads = adds.all; calls = calls; consistent = consistent }

-- one step more
pub steps_more : (v u w : View) (old middle new : State) (xs : List Exchange) (x : Exchange) →
    Steps v old xs u middle → StepBy u middle x w new → Steps v old (xs ++ x ∷ []) w new
steps_more v u w old middle new [] x so step = (
  w,
  new,
  subst (λ (s : State). StepBy v s x w new) so.1 (subst (λ (y : View). StepBy y middle x w new) so.0 step),
  (refl, refl),
)
steps_more v u w old middle new (y ∷ xs) x so step =
    (so.0, so.1, so.2, steps_more so.0 u w so.1 middle new xs x so.3 step)

-- they are a run of the session
pub steps_run : (v w : View) (old new : State) (xs : List Exchange) → Steps v old xs w new →
    (w.places ≡ v.places) × AloneRun v.places old xs new
steps_run v w old new [] so = (ap (λ (x : View). x.places) so.0, so.1)
steps_run v w old new (x ∷ xs) so =
    let places : so.0.places ≡ v.places = calls_places v so.0 so.2.calls in
    let rest = steps_run so.0 w so.1 new xs so.3 in (
      rest.0 ∙ places,
      (so.1, so.2.step, subst (λ (n : ℕ). AloneRun n so.1 xs new) places rest.1),
    )
