-- Each act of a session fits the definitions, by the stage of the code and by what the session awaits.
--
-- `sees_agree`: a session that reads places for a shape waits for what the look-up of that shape finds.
-- `seen_agrees`: a session that has read one place more waits for what its next state is about.
-- `writes_agree`: a session that writes its place awaits what becomes of those words.
-- `pending_formed`: words of which a session awaits what becomes are well formed.
use Rattle.std.proofs.Common.{◌≡◌, ℕ, ◌-◌, Bool, true, false, nat_eq, cond, List, [], ◌∷◌, ◌++◌, length, Option, Some}
use Rattle.std.proofs.Common.{None, refl, sym, ap, ◌∙◌, subst}
use Rattle.spec_text.proofs.WordLemmas.{same_is_equal}
use Rattle.spec_board.specs.Words.{IsWellFormed}
use Rattle.spec_board.specs.declared.place.Place.TheVariants as place
use Rattle.spec_board.specs.declared.read.Put.{Put}
use Rattle.spec_board.specs.declared.read.Put.TheVariants.{Published, Full, Raced}
use Rattle.spec_board.specs.Places.{ExactPlace, place_at, with_place}
use Rattle.spec_board.specs.Reads.{Words, Looked, front, has_shape}
use Rattle.spec_server.specs.declared.halves.Started.TheVariants as started
use Rattle.spec_server.specs.declared.halves.Next.TheVariants as goes
use Rattle.spec_server.specs.Machine.{ExactAsk}
use Rattle.spec_server.specs.Halves.{Awaits, Nothing, WhatIsFound, WhatBecameOf, Standing, StartFits, MayBeFound}
use Rattle.spec_server.specs.Halves.{NextFits, PutFits}
use Rattle.spec_server.specs.Machine.{ExactReply, State}
use Rattle.spec_server.specs.Step.{Pending, answered, after_put}
use Rattle.spec_world.specs.declared.event.Act.TheVariants as act
use Rattle.spec_world.specs.declared.event.StepEnd.TheVariants.{Quiet, Replied}
use Rattle.spec_world.specs.World.{ExactAct, ExactEnd}
use Rattle.lp_core.specs.declared.stage.Stage.{Stage}
use Rattle.lp_core.specs.declared.stage.Stage.TheVariants as stage
use Rattle.lp_core.specs.Stages.{looking_at}
use Rattle.lp_core.specs.Looks.{seen_at, words_at}
use Rattle.lp_core.specs.Looks as looks
use Rattle.lp_core.specs.Core.{AreFormed, IsPending, with_pending, Step, Idle, Puts, Claims}
use Rattle.lp_core.specs.Core.{Writes, step_of, Agrees, Kept, ActFits}
use Rattle.lp_core.proofs.Acts.{reply_fits, look_fits, count_fits, see_fits, ends_fit, publishes_fit, full_fits}
use Rattle.lp_core.proofs.Acts.{claims_fit, wins_fit, raced_fits, done_fits}

-- ---- the step, by the stage

-- at a stage of a put the session awaits what becomes of a solve's end with these words, which are well formed, and its
-- step is the put's step with this end
pub record HasPending (aw : Awaits) (words : Words) (step : Pending → Step) (is : Step) : Type 0 where
  pub pending : Pending
  pub awaited : aw ≡ WhatBecameOf pending
  pub words_so : pending.words ≡ words
  pub formed : IsWellFormed words
  pub step_so : is ≡ step pending

-- where the session awaits what becomes of words, its step has them pending
has_pending : (aw : Awaits) (words : Words) (step : Pending → Step) → IsPending aw words →
    HasPending aw words step (with_pending aw step)
has_pending Nothing words step a = absurd a
has_pending (WhatIsFound shape) words step a = absurd a
has_pending (WhatBecameOf pending) words step a = record {
  pending = pending;
  awaited = refl;
  words_so = a.0;
  formed = a.1;
  step_so = refl;
}

-- a session that is in a state of publishing words, and waits for how that ends, takes a step with these words
at_stage : (st put : Stage) (aw : Awaits) (words : Words) (step : Pending → Step) → st ≡ put → Agrees st aw →
    (Agrees put aw → HasPending aw words step (step_of put aw)) → HasPending aw words step (step_of st aw)
at_stage st put aw words step e a here =
    subst (λ t. HasPending aw words step (step_of t aw)) (sym e) (here (subst (λ t. Agrees t aw) e a))

-- a session that is about to count places for words takes this step with the words that it waits to publish
puts_step : (st : Stage) (aw : Awaits) (words : Words) → st ≡ stage.Puts words → Agrees st aw →
    HasPending aw words Puts (step_of st aw)
puts_step st aw words e a = at_stage st (stage.Puts words) aw words Puts e a (has_pending aw words Puts)

-- a session that is about to claim a place for words takes this step with the words that it waits to publish
claims_step : (st : Stage) (aw : Awaits) (words : Words) (c : ℕ) → st ≡ stage.Claims words c → Agrees st aw →
    HasPending aw words (λ p. Claims p c) (step_of st aw)
claims_step st aw words c e a =
    at_stage st (stage.Claims words c) aw words (λ p. Claims p c) e a (has_pending aw words (λ p. Claims p c))

-- a session that is about to write words at a place takes this step with the words that it waits to publish
writes_step : (st : Stage) (aw : Awaits) (words : Words) (k : ℕ) → st ≡ stage.Writes words k → Agrees st aw →
    HasPending aw words (λ p. Writes p k) (step_of st aw)
writes_step st aw words k e a =
    at_stage st (stage.Writes words k) aw words (λ p. Writes p k) e a (has_pending aw words (λ p. Writes p k))

-- ---- acts

module _ (limit me : ℕ) (now : List ExactPlace) (old : Kept) (x : State) (st : Stage) (aw : Awaits)
    (view : record { state = x; step = step_of st aw } ≡ old) where
  -- what the code holds of this session: its state, and the step by its stage and what it awaits
  abbrev here : Kept
  here = record { state = x; step = step_of st aw }

  -- what the code holds of a session that stands so and is at this stage
  abbrev kept_of : Standing → Stage → Kept
  kept_of s st' = record { state = s.state; step = step_of st' s.awaits }

  -- what an act does to a session as the code holds it here, it does to `old`
  at_old : (a : ExactAct) (end : ExactEnd) (new : Kept) (next : List ExactPlace) →
      ActFits limit me here now a end new next → ActFits limit me old now a end new next
  at_old a end new next h = subst (λ o. ActFits limit me o now a end new next) view h

  -- an idle session that is asked and replies at once does what a session may do
  pub ask_replies : (asked : ExactAsk) (replied : ExactReply) (s : Standing) → st ≡ stage.Idle →
      StartFits x asked (started.Reply replied) s →
      ActFits limit me old now (act.Ask asked) (Replied me replied) (kept_of s st) now
  ask_replies asked replied s idle fits =
      at_old (act.Ask asked) (Replied me replied) (kept_of s st) now
      (subst (λ step. ActFits limit me here now (act.Ask asked) (Replied me replied)
      (record { state = s.state; step = step }) now) (sym (ap (λ t. step_of t s.awaits) idle))
      (reply_fits limit me now here asked replied s.state (ap (λ t. step_of t aw) idle) fits.0))

  -- an idle session that is asked and begins a look does what a session may do
  pub ask_looks : (asked : ExactAsk) (shape : Words) (s : Standing) → st ≡ stage.Idle →
      StartFits x asked (started.Look shape) s →
      ActFits limit me old now (act.Ask asked) Quiet (kept_of s (stage.Counts shape)) now
  ask_looks asked shape s idle fits =
      at_old (act.Ask asked) Quiet (kept_of s (stage.Counts shape)) now
      (subst (λ (y : Standing). ActFits limit me here now (act.Ask asked) Quiet (kept_of y (stage.Counts shape)) now)
      (sym fits.1) (look_fits limit me now here asked shape (ap (λ t. step_of t aw) idle) fits.0))

  -- a session that counts the claimed places as its look begins does what a session may do
  pub counts_on : (shape : Words) (st' : Stage) → st ≡ stage.Counts shape → st' ≡ looking_at shape (length now) →
      ActFits limit me old now act.Count Quiet (record { state = x; step = step_of st' aw }) now
  counts_on shape st' counts is =
      at_old act.Count Quiet (record { state = x; step = step_of st' aw }) now
      (subst (λ y. ActFits limit me here now act.Count Quiet (record { state = x; step = step_of y aw }) now) (sym is)
      (count_fits limit me now here shape aw (ap (λ t. step_of t aw) counts)))

  -- a session that reads the next place of its look does what a session may do
  pub sees_on : (shape : Words) (k j : ℕ) (words : Option Words) (st' : Stage) → st ≡ stage.Sees shape k → j ≡ k →
      words ≡ words_at now k → st' ≡ seen_at shape k words →
      ActFits limit me old now (act.See j) Quiet (record { state = x; step = step_of st' aw }) now
  sees_on shape k j words st' sees same read is =
      at_old (act.See j) Quiet (record { state = x; step = step_of st' aw }) now
      (subst (λ y. ActFits limit me here now (act.See j) Quiet (record { state = x; step = step_of y aw }) now)
      (sym (is ∙ ap (seen_at shape k) read))
      (see_fits limit me now here shape k j aw (ap (λ t. step_of t aw) sees) same))

  -- a session that solves after its look and replies does what a session may do
  pub works_reply : (found : Looked) (replied : ExactReply) (s : Standing) → st ≡ stage.Solving found →
      NextFits x found (goes.Reply replied) s →
      ActFits limit me old now act.Work (Replied me replied) (kept_of s stage.Idle) now
  works_reply found replied s solving fits =
      at_old act.Work (Replied me replied) (kept_of s stage.Idle) now
      (ends_fit limit me now here found replied s.state (ap (λ t. step_of t aw) solving) fits.0)

  -- a session that solves after its look and is to publish words does what a session may do
  pub works_publish : (found : Looked) (words : Words) (s : Standing) → st ≡ stage.Solving found →
      NextFits x found (goes.Publish words) s →
      ActFits limit me old now act.Work Quiet (kept_of s (stage.Puts words)) now
  works_publish found words s solving p =
      at_old act.Work Quiet (kept_of s (stage.Puts words)) now
      (subst (λ (y : Standing). ActFits limit me here now act.Work Quiet (kept_of y (stage.Puts words)) now)
      (sym p.awaited) (publishes_fit limit me now here found p.pending (ap (λ t. step_of t aw) solving) p.works))

  -- ---- puts

  module _ (r : ExactReply) (s : Standing) where
    -- an act that ends with the put
    put_ends : (a : ExactAct) (put : Put) (next : List ExactPlace) (pending : Pending) →
        aw ≡ WhatBecameOf pending → PutFits x aw put r s →
        ActFits limit me here now a (Replied me (answered x pending.end))
        (record { state = after_put x pending put; step = Idle }) next →
        ActFits limit me old now a (Replied me r) (kept_of s stage.Idle) next
    put_ends a put next pending awaited puts h =
        let p = subst (λ w. PutFits x w put r s) awaited puts in
        at_old a (Replied me r) (kept_of s stage.Idle) next
        (subst (λ t. ActFits limit me here now a (Replied me t) (kept_of s stage.Idle) next) (sym p.0)
        (subst (λ (y : Standing). ActFits limit me here now a (Replied me (answered x pending.end))
        (kept_of y stage.Idle) next) (sym p.1) h))

    -- a session that is to publish, finds all places claimed and replies does what a session may do
    pub puts_full : (words : Words) → st ≡ stage.Puts words → Agrees st aw → length now ≡ limit →
        PutFits x aw (Full (length now)) r s →
        ActFits limit me old now act.Count (Replied me r) (kept_of s stage.Idle) now
    puts_full words is agrees full puts =
        let p = puts_step st aw words is agrees in
        put_ends act.Count (Full (length now)) now p.pending p.awaited puts
        (full_fits limit me now here p.pending p.step_so full)

    -- a session that is to claim a place, finds another count than before and replies does what a session may do
    pub puts_raced : (words : Words) (c n : ℕ) → st ≡ stage.Claims words c → Agrees st aw →
        n ≡ length now → (n ≡ c → ⊥) → PutFits x aw (Raced n) r s →
        ActFits limit me old now act.Claim (Replied me r) (kept_of s stage.Idle) now
    puts_raced words c n is agrees counted lost puts =
        let p = claims_step st aw words c is agrees in
        put_ends act.Claim (Raced (length now)) now p.pending p.awaited
        (subst (λ m. PutFits x aw (Raced m) r s) counted puts)
        (raced_fits limit me now here p.pending c p.step_so (subst (λ m. m ≡ c → ⊥) counted lost))

    -- a session that writes its words into the place that it claimed and replies does what a session may do
    pub puts_done : (words : Words) (k : ℕ) (next : List ExactPlace) → st ≡ stage.Writes words k → Agrees st aw →
        PutFits x aw (Published k) r s →
        next ≡ with_place now k (place.Done words) →
        ActFits limit me old now act.Done (Replied me r) (kept_of s stage.Idle) next
    puts_done words k next is agrees puts places =
        let p = writes_step st aw words k is agrees in
        put_ends act.Done (Published k) next p.pending p.awaited puts
        (subst (λ ps. ActFits limit me here now act.Done (Replied me (answered x p.pending.end))
        (record { state = after_put x p.pending (Published k); step = Idle }) ps)
        (sym (places ∙ ap (λ ws. with_place now k (place.Done ws)) (sym p.words_so)))
        (done_fits limit me now here p.pending k p.step_so))

  -- a session that is to publish and counts fewer claimed places than there are does what a session may do
  pub puts_claim : (words : Words) → st ≡ stage.Puts words → Agrees st aw → (length now ≡ limit → ⊥) →
      ActFits limit me old now act.Count Quiet
      (record { state = x; step = step_of (stage.Claims words (length now)) aw }) now
  puts_claim words is agrees room =
      let p = puts_step st aw words is agrees in
      at_old act.Count Quiet (record { state = x; step = step_of (stage.Claims words (length now)) aw }) now
      (subst (λ w. ActFits limit me here now act.Count Quiet
      (record { state = x; step = step_of (stage.Claims words (length now)) w }) now) (sym p.awaited)
      (claims_fit limit me now here p.pending p.step_so room))

  -- a session that claims the place of the number that it counted does what a session may do
  pub claims_win : (words : Words) (c : ℕ) (next : List ExactPlace) → st ≡ stage.Claims words c → Agrees st aw →
      length now ≡ c → next ≡ now ++ place.Claimed me ∷ [] →
      ActFits limit me old now act.Claim Quiet (record { state = x; step = step_of (stage.Writes words c) aw }) next
  claims_win words c next is agrees won places =
      let p = claims_step st aw words c is agrees in
      at_old act.Claim Quiet (record { state = x; step = step_of (stage.Writes words c) aw }) next
      (subst (λ ps. ActFits limit me here now act.Claim Quiet
      (record { state = x; step = step_of (stage.Writes words c) aw }) ps) (sym places)
      (subst (λ w. ActFits limit me here now act.Claim Quiet
      (record { state = x; step = step_of (stage.Writes words c) w }) (now ++ place.Claimed me ∷ [])) (sym p.awaited)
      (wins_fit limit me now here p.pending c p.step_so won)))

-- ---- what the session awaits afterwards

-- where it is in a look
pub sees_agree : (st : Stage) (aw : Awaits) (shape : Words) (k : ℕ) → st ≡ stage.Sees shape k → Agrees st aw →
    aw ≡ WhatIsFound shape
sees_agree st aw shape k e a = subst (λ t. Agrees t aw) e a

-- the state of looking up a shape below place n fits a session that waits for what the look-up of that shape finds
looking_agrees : (shape : Words) (n : ℕ) (st : Stage) (aw : Awaits) → aw ≡ WhatIsFound shape →
    st ≡ looking_at shape n → Agrees st aw
looking_agrees shape n st aw e is = subst (λ t. Agrees t aw) (sym is) (by (nat_eq n 0))
  where
    by : (t : Bool) → Agrees (cond t (stage.Solving None) (stage.Sees shape (n - 1))) aw
    by true = subst (λ w. MayBeFound w None) (sym e) tt
    by false = e

-- what is seen of a place has the shape, and is well formed
pub seen_agrees : (shape : Words) (k : ℕ) (now : List ExactPlace) (words : Option Words) (st : Stage) (aw : Awaits) →
    aw ≡ WhatIsFound shape → AreFormed now → words ≡ words_at now k → st ≡ seen_at shape k words → Agrees st aw
seen_agrees shape k now words st aw e formed read is =
    subst (λ t. Agrees t aw) (sym (is ∙ ap (seen_at shape k) read)) (by (place_at now k) refl)
  where
    by_shape : (ws : Words) → place_at now k ≡ Some (place.Done ws) → (t : Bool) → has_shape shape ws ≡ t →
        Agrees (cond t (stage.Solving (Some (record { place = k; words = ws }))) (looking_at shape k)) aw
    by_shape ws at true h =
        subst (λ w. MayBeFound w (Some (record { place = k; words = ws }))) (sym e)
        (formed k ws at, (same_is_equal (front ws) shape).0 h)
    by_shape ws at false h = looking_agrees shape k (looking_at shape k) aw e refl

    by : (p : Option ExactPlace) → place_at now k ≡ p → Agrees (seen_at shape k (looks.words_in p)) aw
    by None at = looking_agrees shape k (looking_at shape k) aw e refl
    by (Some (place.Claimed owner)) at = looking_agrees shape k (looking_at shape k) aw e refl
    by (Some (place.Done ws)) at = by_shape ws at (has_shape shape ws) refl

-- a put goes on with the same words
pub writes_agree : (st : Stage) (aw : Awaits) (words : Words) (k : ℕ) → st ≡ stage.Writes words k → Agrees st aw →
    IsPending aw words
writes_agree st aw words k e a = subst (λ t. Agrees t aw) e a

pub pending_formed : (aw : Awaits) (words : Words) → IsPending aw words → IsWellFormed words
pending_formed Nothing words p = absurd p
pending_formed (WhatIsFound shape) words p = absurd p
pending_formed (WhatBecameOf pending) words p = p.1
