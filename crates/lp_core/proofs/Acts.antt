-- What each act of the core leaves is what it may leave of a world's session.
use Rattle.std.proofs.Common.{◌≡◌, ℕ, zero, suc, ◌-◌, Bool, true, false, List, [], ◌∷◌, ◌++◌, length, Option, Some}
use Rattle.std.proofs.Common.{None, refl, sym, ap, ◌∙◌, subst, nat_eq, cond, arith}
use Rattle.std.proofs.lemmas.Bool.{eq-eqb, ne_eqb}
use Rattle.spec_text.specs.Words.{same}
use Rattle.spec_board.specs.declared.place.Place.TheVariants as place
use Rattle.spec_board.specs.declared.read.Put.TheVariants.{Published, Full, Raced}
use Rattle.spec_board.specs.declared.read.Read.TheVariants as read
use Rattle.spec_board.specs.Places.{ExactPlace, place_at, with_place}
use Rattle.spec_board.specs.Reads.{ExactRead, Looked, front, has_shape, shown}
use Rattle.spec_server.specs.Machine.{ExactAsk}
use Rattle.spec_server.specs.Halves.{Awaits}
use Rattle.spec_server.specs.Machine.{ExactReply, State}
use Rattle.spec_server.specs.Step.{Looks, Begins, Pending, Ends, Publishes, Works, answered, after_put}
use Rattle.spec_server.specs.Step as parts
use Rattle.spec_world.specs.declared.event.Act.TheVariants as act
use Rattle.spec_world.specs.declared.event.StepEnd.TheVariants.{Quiet, Replied}
use Rattle.spec_world.specs.World as world
use Rattle.spec_world.specs.World.{ExactAct, ExactEnd, Session, fits_stage, Left, Leaves, at_stage, begun_left}
use Rattle.spec_world.specs.World.{counted_left, looking, read_of, seen_left, seen_stage, worked_left, put_left}
use Rattle.spec_world.specs.World.{done_left, end_of}
use Rattle.spec_world.specs.World.{Server}
use Rattle.spec_world.proofs.Acts.{front_front}
use Rattle.lp_core.specs.declared.stage.Stage.TheVariants as stage
use Rattle.lp_core.specs.Stages.{looking_at}
use Rattle.lp_core.specs.Looks.{seen_at, words_at}
use Rattle.lp_core.specs.Looks as looks
use Rattle.lp_core.specs.Core.{Idle, Counts, Sees, Solving, Puts, Claims, Writes, shown_step, step_of, Kept, Keeps}
use Rattle.lp_core.specs.Core.{ActBy, ActFits}

-- ---- the stage of a session of which a step is held

-- a session that is idle in the code is idle in the definition
stage_idle : (s : world.Stage) → shown_step s ≡ Idle → s ≡ world.Idle
stage_idle world.Idle e = refl
stage_idle (world.Counts shape) e = cc
stage_idle (world.Sees shape k reads) e = cc
stage_idle (world.Solving found reads) e = cc
stage_idle (world.Puts pending reads) e = cc
stage_idle (world.Claims pending c reads) e = cc
stage_idle (world.Writes pending k reads) e = cc

-- a session that in the code is about to count places for a shape is so in the definition
stage_counts : (s : world.Stage) (shape : List ℕ) → shown_step s ≡ Counts shape → s ≡ world.Counts shape
stage_counts world.Idle shape e = cc
stage_counts (world.Counts other) shape e = cc
stage_counts (world.Sees other k reads) shape e = cc
stage_counts (world.Solving found reads) shape e = cc
stage_counts (world.Puts pending reads) shape e = cc
stage_counts (world.Claims pending c reads) shape e = cc
stage_counts (world.Writes pending k reads) shape e = cc

-- a session that in the code is about to read place k for a shape is so in the definition
stage_sees : (s : world.Stage) (shape : List ℕ) (k : ℕ) → shown_step s ≡ Sees shape k →
    (reads : _) × (s ≡ world.Sees shape k reads)
stage_sees world.Idle shape k e = cc
stage_sees (world.Counts other) shape k e = cc
stage_sees (world.Sees other j reads) shape k e = (reads, cc)
stage_sees (world.Solving found reads) shape k e = cc
stage_sees (world.Puts pending reads) shape k e = cc
stage_sees (world.Claims pending c reads) shape k e = cc
stage_sees (world.Writes pending j reads) shape k e = cc

-- a session that in the code is about to solve is so in the definition
stage_solving : (s : world.Stage) (found : Looked) → shown_step s ≡ Solving found →
    (reads : _) × (s ≡ world.Solving found reads)
stage_solving world.Idle found e = cc
stage_solving (world.Counts other) found e = cc
stage_solving (world.Sees other j reads) found e = cc
stage_solving (world.Solving other reads) found e = (reads, cc)
stage_solving (world.Puts pending reads) found e = cc
stage_solving (world.Claims pending c reads) found e = cc
stage_solving (world.Writes pending j reads) found e = cc

-- a session that in the code is about to count places to publish words is so in the definition
stage_puts : (s : world.Stage) (pending : Pending) → shown_step s ≡ Puts pending →
    (reads : _) × (s ≡ world.Puts pending reads)
stage_puts world.Idle pending e = cc
stage_puts (world.Counts other) pending e = cc
stage_puts (world.Sees other j reads) pending e = cc
stage_puts (world.Solving other reads) pending e = cc
stage_puts (world.Puts other reads) pending e = (reads, cc)
stage_puts (world.Claims other c reads) pending e = cc
stage_puts (world.Writes other j reads) pending e = cc

-- a session that in the code is about to claim a place is so in the definition
stage_claims : (s : world.Stage) (pending : Pending) (c : ℕ) → shown_step s ≡ Claims pending c →
    (reads : _) × (s ≡ world.Claims pending c reads)
stage_claims world.Idle pending c e = cc
stage_claims (world.Counts other) pending c e = cc
stage_claims (world.Sees other j reads) pending c e = cc
stage_claims (world.Solving other reads) pending c e = cc
stage_claims (world.Puts other reads) pending c e = cc
stage_claims (world.Claims other d reads) pending c e = (reads, cc)
stage_claims (world.Writes other j reads) pending c e = cc

-- a session that in the code is about to write a place is so in the definition
stage_writes : (s : world.Stage) (pending : Pending) (k : ℕ) → shown_step s ≡ Writes pending k →
    (reads : _) × (s ≡ world.Writes pending k reads)
stage_writes world.Idle pending k e = cc
stage_writes (world.Counts other) pending k e = cc
stage_writes (world.Sees other j reads) pending k e = cc
stage_writes (world.Solving other reads) pending k e = cc
stage_writes (world.Puts other reads) pending k e = cc
stage_writes (world.Claims other d reads) pending k e = cc
stage_writes (world.Writes other j reads) pending k e = (reads, cc)

-- ---- an act that is taken

-- an act that is the session's next one, and leaves what it may, fits the definition
taken : (server : Server) (me : ℕ) (old : Kept) (now : List ExactPlace) (s : Session) (a : ExactAct) (end : ExactEnd)
    (new : Kept) (next : List ExactPlace) (st : world.Stage) (left : Left) →
    s.stage ≡ st → fits_stage st a ≡ true → Leaves server me now s st a left → Keeps new left.session →
    next ≡ left.places → end ≡ end_of me left.replied →
    ActBy (fits_stage s.stage a) server me old now s a end new next
taken server me old now s a end new next st left e f leaves keeps places ends =
    subst (λ t. ActBy t server me old now s a end new next) (sym (ap (λ x. fits_stage x a) e ∙ f))
    (record {
      left = left;
      leaves = subst (λ x. Leaves server me now s x a left) (sym e) leaves;
      keeps =
          keeps;
      places_so = places;
      end_so = ends;
    })

-- where a test is true, the choice is the first of the two
where_true : (t : Bool) (x y : Left) → t ≡ true → x ≡ cond t x y
where_true t x y e = sym (ap (λ b. cond b x y) e)

-- where a test is false, the choice is the second of the two
where_false : (t : Bool) (x y : Left) → t ≡ false → y ≡ cond t x y
where_false t x y e = sym (ap (λ b. cond b x y) e)

module _ (limit me : ℕ) (now : List ExactPlace) where
  -- a server of so many sessions, with `limit` places
  abbrev server : ℕ → Server
  server sessions = record { sessions = sessions; places = limit }

  -- ---- asks
  -- an idle session may take a request to which it replies at once, and is idle again
  pub reply_fits : (old : Kept) (asked : ExactAsk) (replied : ExactReply) (new : State) → old.step ≡ Idle →
      Begins old.state asked (parts.Answers replied new) →
      ActFits limit me old now (act.Ask asked) (Replied me replied) (record { state = new; step = Idle }) now
  reply_fits old asked replied new idle begins sessions s keeps =
      taken (server sessions) me old now s (act.Ask asked) (Replied me replied)
      (record { state = new; step = Idle }) now world.Idle (begun_left me now s asked (parts.Answers replied new))
      (stage_idle s.stage (keeps.step_so ∙ idle)) refl (
        parts.Answers replied new,
        subst (λ x. Begins x asked (parts.Answers replied new))
            (sym keeps.state_so) begins,
        refl,
      )
      (record { state_so = refl; step_so = refl }) refl refl

  -- an idle session may take a request that begins with a look, and is then about to count the places for it
  pub look_fits : (old : Kept) (asked : ExactAsk) (shape : List ℕ) → old.step ≡ Idle →
      Begins old.state asked (Looks shape) →
      ActFits limit me old now (act.Ask asked) Quiet (record { state = old.state; step = Counts shape }) now
  look_fits old asked shape idle begins sessions s keeps =
      taken (server sessions) me old now s (act.Ask asked) Quiet
      (record { state = old.state; step = Counts shape }) now world.Idle (begun_left me now s asked (Looks shape))
      (stage_idle s.stage (keeps.step_so ∙ idle)) refl
      (Looks shape, subst (λ x. Begins x asked (Looks shape)) (sym keeps.state_so) begins, refl)
      (record { state_so = keeps.state_so; step_so = refl }) refl refl

  -- ---- looks

  -- where a look goes on from k places in the definition, without its reads, is where it goes on in the code
  shown_looking : (shape : List ℕ) (k : ℕ) (reads : List ExactRead) (aw : Awaits) →
      shown_step (looking shape k reads) ≡ step_of (looking_at shape k) aw
  shown_looking shape zero reads aw = refl
  shown_looking shape (suc k) reads aw =
      let e : k ≡ suc k - 1 = omega arith in
      ap (Sees shape) e ∙ sym
      (ap (λ t. step_of (cond t (stage.Solving None) (stage.Sees shape (suc k - 1))) aw)
      (ne_eqb (suc k) 0 (λ z. omega arith)))

  -- a session whose look begins may count the claimed places, and then goes on with the newest of them
  pub count_fits : (old : Kept) (shape : List ℕ) (aw : Awaits) → old.step ≡ Counts shape →
      ActFits limit me old now act.Count Quiet
      (record { state = old.state; step = step_of (looking_at shape (length now)) aw }) now
  count_fits old shape aw is sessions s keeps =
      taken (server sessions) me old now s act.Count Quiet
      (record { state = old.state; step = step_of (looking_at shape (length now)) aw }) now (world.Counts shape)
      (counted_left now s shape)
      (stage_counts s.stage shape (keeps.step_so ∙ is)) refl refl
      (record {
        state_so = keeps.state_so;
        step_so =
            shown_looking shape (length now) (read.Count (length now) ∷ []) aw;
      }) refl refl

  -- after a look's read of a done place k, the stage of the definition without its reads is that of the code, by
  -- whether the place has the shape
  shown_seen : (shape payload : List ℕ) (k : ℕ) (reads : List ExactRead) (aw : Awaits) (t : Bool) →
      has_shape shape payload ≡ t →
      shown_step (cond (has_shape shape (cond t payload (front payload)))
      (world.Solving (Some (record { place = k; words = cond t payload (front payload) })) reads)
      (looking shape k reads)) ≡
      step_of (cond t (stage.Solving (Some (record { place = k; words = payload }))) (looking_at shape k)) aw
  shown_seen shape payload k reads aw true e =
      ap (λ b. shown_step (cond b (world.Solving (Some (record { place = k; words = payload })) reads)
      (looking shape k reads))) e
  shown_seen shape payload k reads aw false e =
      ap (λ b. shown_step (cond b (world.Solving (Some (record { place = k; words = front payload })) reads)
      (looking shape k reads))) (ap (λ ws. same ws shape) (front_front payload) ∙ e)
      ∙ shown_looking shape k reads aw

  -- where a look goes on after its read of place k in the definition, without its reads, is where it goes on in the
  -- code
  shown_place : (shape : List ℕ) (k : ℕ) (reads : List ExactRead) (aw : Awaits) (p : Option ExactPlace) →
      shown_step (seen_stage shape k (reads ++ read_of shape k p ∷ []) (read_of shape k p)) ≡ step_of
      (seen_at shape k (looks.words_in p)) aw
  shown_place shape k reads aw None = shown_looking shape k (reads ++ read.NotDone k ∷ []) aw
  shown_place shape k reads aw (Some (place.Claimed owner)) = shown_looking shape k (reads ++ read.NotDone k ∷ []) aw
  shown_place shape k reads aw (Some (place.Done payload)) =
      shown_seen shape payload k (reads ++ read.Seen k (shown shape payload) ∷ []) aw (has_shape shape payload) refl

  -- a session whose look has come to place k may read this place, and ends its look there or goes on below it
  pub see_fits : (old : Kept) (shape : List ℕ) (k j : ℕ) (aw : Awaits) → old.step ≡ Sees shape k → j ≡ k →
      ActFits limit me old now (act.See j) Quiet
      (record { state = old.state; step = step_of (seen_at shape k (words_at now k)) aw }) now
  see_fits old shape k j aw is same_place sessions s keeps =
      let at = stage_sees s.stage shape k (keeps.step_so ∙ is) in
      taken (server sessions) me old now s (act.See j) Quiet
      (record { state = old.state; step = step_of (seen_at shape k (words_at now k)) aw }) now
      (world.Sees shape k at.0)
      (seen_left now s shape k at.0 (read_of shape k (place_at now k))) at.1 (eq-eqb j k same_place) refl
      (record { state_so = keeps.state_so; step_so = shown_place shape k at.0 aw (place_at now k) }) refl refl

  -- ---- solves

  -- a session whose look has ended may solve and reply, and is then idle
  pub ends_fit : (old : Kept) (found : Looked) (replied : ExactReply) (new : State) → old.step ≡ Solving found →
      Works old.state found (Ends replied new) →
      ActFits limit me old now act.Work (Replied me replied) (record { state = new; step = Idle }) now
  ends_fit old found replied new is works sessions s keeps =
      let at = stage_solving s.stage found (keeps.step_so ∙ is) in
      taken (server sessions) me old now s act.Work (Replied me replied) (record { state = new; step = Idle }) now
      (world.Solving found at.0) (worked_left me now s at.0 (Ends replied new)) at.1 refl
      (Ends replied new, subst (λ x. Works x found (Ends replied new)) (sym keeps.state_so) works, refl)
      (record { state_so = refl; step_so = refl }) refl refl

  -- a session whose look has ended may solve with words to publish, and is then about to count the places for them
  pub publishes_fit : (old : Kept) (found : Looked) (pending : Pending) → old.step ≡ Solving found →
      Works old.state found (Publishes pending) →
      ActFits limit me old now act.Work Quiet (record { state = old.state; step = Puts pending }) now
  publishes_fit old found pending is works sessions s keeps =
      let at = stage_solving s.stage found (keeps.step_so ∙ is) in
      taken (server sessions) me old now s act.Work Quiet (record { state = old.state; step = Puts pending }) now
      (world.Solving found at.0) (worked_left me now s at.0 (Publishes pending)) at.1 refl
      (Publishes pending, subst (λ x. Works x found (Publishes pending)) (sym keeps.state_so) works, refl)
      (record { state_so = keeps.state_so; step_so = refl }) refl refl

  -- ---- puts

  -- a session that is to publish and counts as many claimed places as there are places replies, and keeps its answer
  -- with `Full`
  pub full_fits : (old : Kept) (pending : Pending) → old.step ≡ Puts pending → length now ≡ limit →
      ActFits limit me old now act.Count (Replied me (answered old.state pending.end))
      (record { state = after_put old.state pending (Full (length now)); step = Idle }) now
  full_fits old pending is full sessions s keeps =
      let at = stage_puts s.stage pending (keeps.step_so ∙ is) in
      taken (server sessions) me old now s act.Count (Replied me (answered old.state pending.end))
      (record { state = after_put old.state pending (Full (length now)); step = Idle }) now
      (world.Puts pending at.0) (put_left me now s pending at.0 (read.Count (length now)) (Full (length now))) at.1 refl
      (where_true (nat_eq (length now) limit) _ _ (eq-eqb (length now) limit full))
      (record { state_so = ap (λ x. after_put x pending (Full (length now))) keeps.state_so; step_so = refl }) refl
      (ap (λ x. Replied me (answered x pending.end)) (sym keeps.state_so))

  -- a session that is to publish and counts fewer claimed places than there are places is then about to claim the next
  -- one
  pub claims_fit : (old : Kept) (pending : Pending) → old.step ≡ Puts pending → (length now ≡ limit → ⊥) →
      ActFits limit me old now act.Count Quiet (record { state = old.state; step = Claims pending (length now) }) now
  claims_fit old pending is room sessions s keeps =
      let at = stage_puts s.stage pending (keeps.step_so ∙ is) in
      taken (server sessions) me old now s act.Count Quiet
      (record { state = old.state; step = Claims pending (length now) }) now (world.Puts pending at.0)
      (record {
        session = at_stage s (world.Claims pending (length now) (at.0 ++ read.Count (length now) ∷ []));
        places = now;
        reads = read.Count (length now) ∷ [];
        replied = None;
      }) at.1 refl
      (where_false (nat_eq (length now) limit) _ _ (ne_eqb (length now) limit room))
      (record { state_so = keeps.state_so; step_so = refl }) refl refl

  -- a session that is to claim place c, where c places are claimed, gets it as a claimed one, and is about to write it
  pub wins_fit : (old : Kept) (pending : Pending) (c : ℕ) → old.step ≡ Claims pending c → length now ≡ c →
      ActFits limit me old now act.Claim Quiet (record { state = old.state; step = Writes pending c })
      (now ++ place.Claimed me ∷ [])
  wins_fit old pending c is won sessions s keeps =
      let at = stage_claims s.stage pending c (keeps.step_so ∙ is) in
      taken (server sessions) me old now s act.Claim Quiet (record { state = old.state; step = Writes pending c })
      (now ++ place.Claimed me ∷ []) (world.Claims pending c at.0)
      (record {
        session = at_stage s (world.Writes pending c (at.0 ++ read.Claim c ∷ []));
        places =
            now ++ place.Claimed me ∷ [];
        reads = read.Claim c ∷ [];
        replied = None;
      }) at.1 refl
      (where_true (nat_eq (length now) c) _ _ (eq-eqb (length now) c won))
      (record { state_so = keeps.state_so; step_so = refl }) refl refl

  -- a session that is to claim place c, where not c places are claimed, replies, and keeps its answer with `Raced`
  pub raced_fits : (old : Kept) (pending : Pending) (c : ℕ) → old.step ≡ Claims pending c → (length now ≡ c → ⊥) →
      ActFits limit me old now act.Claim (Replied me (answered old.state pending.end))
      (record { state = after_put old.state pending (Raced (length now)); step = Idle }) now
  raced_fits old pending c is lost sessions s keeps =
      let at = stage_claims s.stage pending c (keeps.step_so ∙ is) in
      taken (server sessions) me old now s act.Claim (Replied me (answered old.state pending.end))
      (record { state = after_put old.state pending (Raced (length now)); step = Idle }) now
      (world.Claims pending c at.0)
      (put_left me now s pending at.0 (read.Lost (length now)) (Raced (length now))) at.1 refl
      (where_false (nat_eq (length now) c) _ _ (ne_eqb (length now) c lost))
      (record { state_so = ap (λ x. after_put x pending (Raced (length now))) keeps.state_so; step_so = refl }) refl
      (ap (λ x. Replied me (answered x pending.end)) (sym keeps.state_so))

  -- a session that is to write place k writes its words there, replies, and keeps its answer with `Published`
  pub done_fits : (old : Kept) (pending : Pending) (k : ℕ) → old.step ≡ Writes pending k →
      ActFits limit me old now act.Done (Replied me (answered old.state pending.end))
      (record { state = after_put old.state pending (Published k); step = Idle })
      (with_place now k (place.Done pending.words))
  done_fits old pending k is sessions s keeps =
      let at = stage_writes s.stage pending k (keeps.step_so ∙ is) in
      taken (server sessions) me old now s act.Done (Replied me (answered old.state pending.end))
      (record { state = after_put old.state pending (Published k); step = Idle })
      (with_place now k (place.Done pending.words)) (world.Writes pending k at.0)
      (done_left me now s pending k at.0) at.1 refl refl
      (record { state_so = ap (λ x. after_put x pending (Published k)) keeps.state_so; step_so = refl }) refl
      (ap (λ x. Replied me (answered x pending.end)) (sym keeps.state_so))
