-- Each kind of step keeps the whole rule, and notes what is so when it is taken.
--
-- `only_so`: where a step notes a read and leaves its word as it was, the read is true of the words, if the rule holds
--   before and after.
-- `allowed_so`: a kind of load that notes one read is allowed only where the read is true of the board's words.
use Rattle.std.proofs.Common.{◌≡◌, ◌≢◌, ℕ, zero, suc, ◌+◌, ◌-◌, ◌*◌, ◌/◌, ◌<◌, List, [], ◌∷◌, ◌++◌, length}
use Rattle.std.proofs.Common.{get_or, set}
use Rattle.std.proofs.Common.{Some, None, eqb, map, sym, refl, ap, ◌∙◌, subst, ⊎_elim, inl, inr, arith}
use Rattle.std.proofs.Common.{get_or-set_same, get_or-set_other, eq-eqb, ne_eqb}
use Rattle.std.proofs.lemmas.Bool.{cases_eq}
use mathlib.Core.Option.{none, some, some-injective, some-ne-none}
use lib.ListN.{get_elem?}
use lib.Seq.{set-get_or}
use prog.Atomic.{either}
use Rattle.atomic_table.specs.Table.{State, Me, Act, stepped, step, Allows, Splits, Joins, opening, homes_after}
use Rattle.atomic_table.specs.Table.{carried_after}
use Rattle.spec_board.specs.Words.{IsWellFormed}
use Rattle.atomic_table.proofs.Lists.{at_set}
use Rattle.basis_board.specs.declared.seats.View.{View}
use Rattle.basis_board.specs.declared.seats.Sight.{Sight}
use Rattle.basis_board.specs.declared.seats.RawRead.{RawRead}
use Rattle.basis_board.specs.declared.seats.RawRead.TheVariants.{Count, Open, See, Claim, Lost, Done}
use Rattle.basis_board.specs.Moments.{IsBetween, IsOneLog, learned_in_time, Note, notes, notes_in}
use Rattle.basis_board.specs.Moments.{Turns, IsLike, ClaimsPlace, FinishesPlace}
use Rattle.basis_board.specs.Board.{Each, Has, count, done, grown_read, grown_reads, finished, spent, cut_right}
use Rattle.basis_board.specs.Rule.{Kept, counted, claimed, wrote, published, saw}
use Rattle.basis_board.specs.Rule.{word_read, learned}
use Rattle.basis_board.specs.Calls.{IsReading}
use Rattle.basis_board.specs.Moments.{Moment, sight, Grows, IsTrueOf, WereTrue, Timed, viewed, KeptInTime, Later}
use Rattle.basis_board.specs.Moments.{seen_of, in_time, first_sight, left_sight, right_sight, met_sight, spent_sight}
use Rattle.basis_board.proofs.Frames.{done_set, others_spent}
use Rattle.basis_board.proofs.Counting.{counts as count_kept, claims as claim_kept}
use Rattle.basis_board.proofs.Writing.{writes as write_kept, finishes as finish_kept, holds}
use Rattle.basis_board.proofs.Reading.{sees as see_kept, reads_next as read_kept}
use Rattle.basis_board.proofs.Sharing.{splits as split_kept, joins as join_kept, learns as learn_kept, begins}
use Rattle.basis_board.proofs.Timing.{grows_same, note, hush, timed_splits, timed_joins, timed_first, true_long}
use Rattle.basis_board.proofs.Timing.{made_then, one_log, set_here, same_notes, HadAlike}

-- ---- views among sights

-- leaving out the times of reads leaves the place of each pass in the list of passes
get_view : (vs : List Sight) (i : ℕ) (v : Sight) → get_elem? vs i ≡ some v →
    get_elem? (map (λ (u : Sight). u.view) vs) i ≡ some v.view
get_view [] i v e = absurd (some-ne-none v (sym e))
get_view (z ∷ zs) zero v e = ap (λ (u : Sight). some u.view) (some-injective z v e)
get_view (z ∷ zs) (suc i) v e = get_view zs i v e

-- leaving out the times of reads and replacing what one pass knows may be done in either order
set_view : (vs : List Sight) (i : ℕ) (w : Sight) →
    map (λ (u : Sight). u.view) (set vs i w) ≡ set (map (λ (u : Sight). u.view) vs) i w.view
set_view [] i w = refl
set_view (z ∷ zs) zero w = refl
set_view (z ∷ zs) (suc i) w = ap (λ l. z.view ∷ l) (set_view zs i w)

-- leaving out the times of reads and appending one more pass may be done in either order
push_view : (vs : List Sight) (w : Sight) →
    map (λ (u : Sight). u.view) (vs ++ w ∷ []) ≡ map (λ (u : Sight). u.view) vs ++ w.view ∷ []
push_view [] w = refl
push_view (z ∷ zs) w = ap (λ l. z.view ∷ l) (push_view zs w)

-- words grow to words that are equal to them
grows_is : (ws us : List ℕ) → us ≡ ws → Grows ws us
grows_is ws us e = subst (Grows ws) (sym e) (grows_same ws)

-- words that are equal to others have as many claimed places and the same done ones
like_is : (ws us : List ℕ) → us ≡ ws → IsLike ws us
like_is ws us e = record { counted = ap count e; dones = λ k. ap (λ l. done l k) e }

-- words that are equal to others grow to those
grows_back : (ws us : List ℕ) → us ≡ ws → Grows us ws
grows_back ws us e = subst (λ l. Grows l ws) (sym e) (grows_same ws)

-- reads that were true when they were noted are so when the newest one has one word more
true_grown : (ms : List Moment) (rs : List RawRead) (b : ℕ) → WereTrue ms rs → WereTrue ms (grown_reads rs b)
true_grown [] [] b h = tt
true_grown [] (r ∷ rs) b h = absurd h
true_grown (m ∷ ms) [] b h = absurd h
true_grown (m ∷ ms) (r ∷ rs) b h = (one r h.0, h.1)
  where
    one : (r : RawRead) → IsTrueOf m.1 r → IsTrueOf m.1 (grown_read r b)
    one (Count c) t = t
    one (Open k) t = t
    one (See k xs) t = t
    one (Claim k) t = t
    one (Lost c) t = t
    one (Done k xs) t = t

-- where a read turns the words ws into us, so does the read with one word more
alike_grown : (r : RawRead) (b : ℕ) (ws us : List ℕ) → Turns r ws us → Turns (grown_read r b) ws us
alike_grown (Count c) b ws us t = t
alike_grown (Open k) b ws us t = t
alike_grown (See k xs) b ws us t = t
alike_grown (Claim k) b ws us t = t
alike_grown (Lost c) b ws us t = t
alike_grown (Done k xs) b ws us t = t

-- each note of reads whose newest one has one word more stood there before, with an alike read
grown_notes : (ms : List Moment) (rs : List RawRead) (b : ℕ) (n : Note) → Has (notes ms (grown_reads rs b)) n →
    HadAlike (notes ms rs) n
grown_notes [] rs b n h = absurd h
grown_notes (m ∷ ms) [] b n h = absurd h
grown_notes (m ∷ ms) (r ∷ rs) b n h =
    ⊎_elim (λ (e : record { number = m.0; words = m.1; read = grown_read r b } ≡ n).
    subst (λ (z : Note). HadAlike (notes (m ∷ ms) (r ∷ rs)) z) e (r, inl refl, alike_grown r b))
    (λ (q : Has (notes ms rs) n). (n.read, inr q, λ ws us t. t)) h

module _ (places : ℕ) where
  -- a kind of step that the rule `Kept` allows is allowed by the rule `KeptInTime`, if for each state that keeps both
  -- it gives the pass times with which the rule of moments holds
  lift : (slots id : ℕ) (me : Me ℕ Sight) (i : ℕ) (f : ℕ → ℕ) (told : ℕ → Me ℕ View → Type 0) (tells : Sight → Type 0) →
      Allows (Kept places) slots id (seen_of me) i f told →
      ((s : State ℕ Sight) → Kept places (viewed s) → Timed s.words s.views → get_elem? s.views id ≡ some me.0 →
      (w : View) (cs : List (ℕ × ℕ)) → told (get_or s.words i 0) (w, cs) →
      (ms : List Moment) × Timed (set s.words i (f (get_or s.words i 0))) (set s.views id (sight w ms))
      × tells (sight w ms)) →
      Allows (KeptInTime places) slots id me i f (λ n m. told n (seen_of m) × tells m.0)
  lift slots id me i f told tells old more s r homes at small =
      let a = old (viewed s) r.kept homes (get_view s.views id me.0 at) small in
      let b = more s r.kept r.timed at a.0 (carried_after me.1 a.1) a.4 in
      let now : Sight = sight a.0 b.0 in (
        now,
        a.1,
        a.2,
        record {
          kept = subst (λ (l : List View). Kept places record {
            words = set s.words i (f (get_or s.words i 0));
            homes = homes_after s.homes me.1 a.1;
            views = l;
          })
              (sym (set_view s.views id now)) a.3;
          timed = b.1;
        },
        (a.4, b.2),
      )

  -- a pass that holds no place may load the count: the rule `KeptInTime` allows this step
  pub counts : (slots id : ℕ) (me : Me ℕ Sight) → me.0.view.held ≡ None → 0 < me.0.view.share →
      Allows (KeptInTime places) slots id me 0 (λ n. n) (in_time counted (step slots 0 0 0 none) me)
  counts slots id me held share =
      lift slots id me 0 (λ n. n) (counted (step slots 0 0 0 none) (seen_of me)) (Later me.0)
      (count_kept places slots id (seen_of me) held share)
      (λ s k r at w cs t.
      (let same : set s.words 0 (get_or s.words 0 0) ≡ s.words = set-get_or s.words 0 0 in
      note s.words (set s.words 0 (get_or s.words 0 0)) s.views id me.0 w (Count (get_or s.words 0 0)) r at
      (like_is s.words (set s.words 0 (get_or s.words 0 0)) same) (ap (λ (v : View). v.reads) t.0.view)
      (ap count same)))

  -- a pass that holds no place, and has just read the count c, below the number of places, may claim place c: the rule
  -- `KeptInTime` allows the compare-exchange of the count from c to c + 1
  pub claims : (slots id : ℕ) (me : Me ℕ Sight) (c new : ℕ) (rest : List RawRead) →
      me.0.view.held ≡ None → 0 < me.0.view.share → c < places → new ≡ c + 1 → me.0.view.reads ≡ Count c ∷ rest →
      Allows (KeptInTime places) slots id me 0 (λ n. either (eqb n c) new n)
      (in_time claimed (step slots 0 c new none) me)
  claims slots id me c new rest held share inside up read =
      lift slots id me 0 (λ n. either (eqb n c) new n) (claimed (step slots 0 c new none) (seen_of me)) (Later me.0)
      (claim_kept places slots id (seen_of me) c new rest held share inside up read)
      (λ s k r at w cs t.
      (let ws : List ℕ = s.words in
      let n : ℕ = get_or ws 0 0 in
      ⊎_elim
      (λ (hit : n ≡ c).
      let wide = k.wide in
      let us : List ℕ = set ws 0 (either (eqb n c) new n) in
      let writes : us ≡ set ws 0 new = ap (λ b. set ws 0 (either b new n)) (eq-eqb n c hit) in
      let now : count (set ws 0 new) ≡ new = get_or-set_same ws 0 new 0 (omega arith) in
      let turns : ClaimsPlace c ws (set ws 0 new) = record {
        before = hit;
        after = now ∙ up;
        dones = λ j. done_set ws 0 new j (λ e. omega arith);
      } in
      note ws us s.views id me.0 w (Claim c) r at (subst (ClaimsPlace c ws) (sym writes) turns)
      (ap (λ (v : View). v.reads) (t.0.won hit)) (ap count writes ∙ now ∙ up))
      (λ (miss : n ≡ c → ⊥).
      let us : List ℕ = set ws 0 (either (eqb n c) new n) in
      let same : us ≡ ws = ap (λ b. set ws 0 (either b new n)) (ne_eqb n c miss) ∙ set-get_or ws 0 0 in
      note ws us s.views id me.0 w (Lost n) r at (like_is ws us same)
      (ap (λ (v : View). v.reads) (t.0.lost miss).0) (ap count same))
      (cases_eq n c)))

  -- a pass that holds place k, and has written fewer than 49 words there, may store the next one: the rule `KeptInTime`
  -- allows this step
  pub writes : (slots id : ℕ) (me : Me ℕ Sight) (i b k : ℕ) (xs : List ℕ) →
      me.0.view.held ≡ Some (k, xs) → 0 < me.0.view.share → length xs < 49 → i ≡ 50 * k + 1 + length xs →
      Allows (KeptInTime places) slots id me i (λ _. b) (λ _. in_time wrote (step slots i b 0 none) me b)
  writes slots id me i b k xs held share room is =
      lift slots id me i (λ _. b) (λ _. wrote (step slots i b 0 none) (seen_of me) b) (Later me.0)
      (write_kept places slots id (seen_of me) i b k xs held share room is)
      (λ s kept r at w cs t.
      (let ws : List ℕ = s.words in
      let now : count (set ws i b) ≡ count ws = get_or-set_other ws i 0 b 0 (λ e. omega arith) in
      let d : (j : ℕ) → done (set ws i b) j ≡ done ws j = λ j. done_set ws i b j (λ e. omega arith) in
      hush ws (set ws i b) s.views id me.0 w r at
      (record { counted = omega arith; dones = λ j. (let e = d j in omega arith) })
      (record { counted = omega arith; dones = λ j. (let e = d j in omega arith) })
      (same_notes me.0.moments me.0.view.reads w.reads (ap (λ (v : View). v.reads) t.0))
      (λ h. subst (λ (v : View). WereTrue me.0.moments v.reads) (sym t.0) h)))

  -- a pass that holds place k, and has written well-formed words there, may set the done word of place k to 1: the rule
  -- `KeptInTime` allows this step
  pub finishes : (slots id : ℕ) (me : Me ℕ Sight) (i k : ℕ) (xs : List ℕ) →
      me.0.view.held ≡ Some (k, xs) → 0 < me.0.view.share → IsWellFormed xs → i ≡ 50 * k + 50 →
      Allows (KeptInTime places) slots id me i (λ _. 1) (λ _. in_time published (step slots i 1 0 none) me 1)
  finishes slots id me i k xs held share formed is =
      lift slots id me i (λ _. 1) (λ _. published (step slots i 1 0 none) (seen_of me) 1) (Later me.0)
      (finish_kept places slots id (seen_of me) i k xs held share formed is)
      (λ s kept r at w cs t.
      (let ws : List ℕ = s.words in
      let us : List ℕ = set ws i 1 in
      let h = holds places (viewed s) kept id me.0.view k xs (get_view s.views id me.0 at) held in
      let wide = kept.wide in
      let bound = kept.bounded in
      let inside : i < length ws = (let a = h.inside in omega arith) in
      let now : count us ≡ count ws = get_or-set_other ws i 0 1 0 (λ e. omega arith) in
      let here : done us k ≡ 1 = ap (λ (z : ℕ). get_or us z 0) (sym is) ∙ get_or-set_same ws i 1 0 inside in
      let turns : FinishesPlace k ws us = record {
        counted = now;
        before = h.undone;
        after = here;
        others = λ j apart. done_set ws i 1 j (λ e. apart (omega arith));
      } in
      let is_finished : w ≡ finished (Some (k, xs)) me.0.view = t.0 ∙ ap (λ o. finished o me.0.view) held in
      note ws us s.views id me.0 w (Done k xs) r at turns (ap (λ (v : View). v.reads) is_finished) here))

  -- a pass may load the done word of place k: the rule `KeptInTime` allows this step
  pub sees : (slots id : ℕ) (me : Me ℕ Sight) (i k : ℕ) → 0 < me.0.view.share → i ≡ 50 * k + 50 →
      Allows (KeptInTime places) slots id me i (λ n. n) (in_time saw (step slots i 0 0 none) me)
  sees slots id me i k share is =
      lift slots id me i (λ n. n) (saw (step slots i 0 0 none) (seen_of me)) (Later me.0)
      (see_kept places slots id (seen_of me) i k share is)
      (λ s kept r at w cs t.
      (let ws : List ℕ = s.words in
      let n : ℕ = get_or ws i 0 in
      let us : List ℕ = set ws i n in
      let same : us ≡ ws = set-get_or ws i 0 in
      let j : ℕ = i / 50 - 1 in
      let back : j ≡ k = omega arith in
      let here : done us j ≡ n =
      ap (done us) back ∙ (ap (λ l. done l k) same ∙ ap (λ (z : ℕ). get_or ws z 0) (sym is)) in
      let bit = t.0.bit in
      ⊎_elim
      (λ (yes_is : n ≡ 1). note ws us s.views id me.0 w (See j []) r at (like_is ws us same)
      (ap (λ (v : View). v.reads) (t.0.yes yes_is)) (here ∙ yes_is))
      (λ (miss : n ≡ 1 → ⊥).
      let none_is : n ≡ 0 = omega arith in
      note ws us s.views id me.0 w (Open j) r at (like_is ws us same)
      (ap (λ (v : View). v.reads) (t.0.not_done none_is)) (here ∙ none_is))
      (cases_eq n 1)))

  -- a pass that has read j words of place k, where j is below 49, may load word j of the place: the rule `KeptInTime`
  -- allows this step
  pub reads_next : (slots id : ℕ) (me : Me ℕ Sight) (v : View) (words : List ℕ) (i k j : ℕ) →
      IsReading k j words v me.0.view → 0 < v.share → j < 49 → i ≡ 50 * k + 1 + j →
      Allows (KeptInTime places) slots id me i (λ n. n) (in_time word_read (step slots i 0 0 none) me)
  reads_next slots id me v words i k j h share room is =
      lift slots id me i (λ n. n) (word_read (step slots i 0 0 none) (seen_of me)) (Later me.0)
      (read_kept places slots id (seen_of me) v words i k j h share room is)
      (λ s kept r at w cs t.
      (let ws : List ℕ = s.words in
      let n : ℕ = get_or ws i 0 in
      let us : List ℕ = set ws i n in
      let same : us ≡ ws = set-get_or ws i 0 in
      hush ws us s.views id me.0 w r at (grows_is ws us same) (grows_back ws us same)
      (λ m a. grown_notes me.0.moments me.0.view.reads n m
      (subst (λ (u : View). Has (notes me.0.moments u.reads) m) t.0.view a))
      (λ h. subst (λ (u : View). WereTrue me.0.moments u.reads) (sym t.0.view)
      (true_grown me.0.moments me.0.view.reads n h))))

  -- a pass with a share above 1 may be cut in two: the rule `KeptInTime` allows this step
  pub splits : (id : ℕ) (v : Sight) → 1 < v.view.share →
      Splits (KeptInTime places) id v (left_sight v) (right_sight v)
  splits id v share s r at =
      record {
        kept = subst (λ (l : List View). Kept places record { words = s.words; homes = s.homes; views = l })
            (sym (push_view (set s.views id (left_sight v)) (right_sight v)
            ∙ ap (λ (l : List View). l ++ cut_right v.view ∷ []) (set_view s.views id (left_sight v))))
            (split_kept places id v.view share (viewed s) r.kept (get_view s.views id v at));
        timed = timed_splits s.words s.views id v r.timed at;
      }

  -- two passes, of which the second holds no place, may be merged into the first: the rule `KeptInTime` allows this
  -- step
  pub joins : (id : ℕ) (v : Sight) (other : ℕ) (w : Sight) → 0 < v.view.share → 0 < w.view.share →
      w.view.held ≡ None → Joins (KeptInTime places) id v other w (met_sight v w) spent_sight
  joins id v other w share more held s r at apart there =
      let both : Sight = met_sight v w in
      let first : map (λ (u : Sight). u.view) (set s.views id both)
      ≡ set (map (λ (u : Sight). u.view) s.views) id both.view = set_view s.views id both in
      record {
        kept = subst (λ (l : List View). Kept places record { words = s.words; homes = s.homes; views = l })
            (sym (set_view (set s.views id both) other spent_sight
            ∙ ap (λ (l : List View). set l other spent) first))
            (join_kept places id v.view other w.view share more held (viewed s) r.kept (get_view s.views id v at) apart
            (subst (λ (l : List View). get_elem? l other ≡ some w.view) first
            (get_view (set s.views id both) other w there)));
        timed = timed_joins s.words s.views id other v w r.timed at apart there;
      }

  -- a pass that holds no place may load the count and learn of what it owns: the rule `KeptInTime` allows this step
  pub learns : (slots id : ℕ) (me : Me ℕ Sight) → me.0.view.held ≡ None → 0 < me.0.view.share →
      Allows (KeptInTime places) slots id me 0 (λ n. n) (learned_in_time (step slots 0 0 0 none) me)
  learns slots id me held share =
      lift slots id me 0 (λ n. n) (learned (step slots 0 0 0 none) (seen_of me))
      (λ (x : Sight). Later me.0 x × (x.view.share ≡ 64 → IsOneLog (notes_in x)))
      (learn_kept places slots id (seen_of me) held share)
      (λ s k r at w cs t.
      (let ws : List ℕ = s.words in
      let us : List ℕ = set ws 0 (get_or ws 0 0) in
      let same : us ≡ ws = set-get_or ws 0 0 in
      let h = hush ws us s.views id me.0 w r at (grows_is ws us same) (grows_back ws us same)
      (same_notes me.0.moments me.0.view.reads w.reads (ap (λ (v : View). v.reads) t.0.view))
      (λ h. subst (λ (v : View). WereTrue me.0.moments v.reads) (sym t.0.view) h) in (
        h.0,
        h.1,
        (
          h.2,
          λ whole. one_log us (set s.views id (sight w h.0)) id (sight w h.0) h.1
              (set_here s.views id me.0 (sight w h.0) at)
              (λ j u apart e. ⊎_elim
              (λ (q : (j ≡ id) × (sight w h.0 ≡ u)). absurd (apart q.0))
              (λ (q : (j ≢ id) × (get_elem? s.views j ≡ some u)).
              others_spent places (viewed s) k id me.0.view (get_view s.views id me.0 at)
              (sym (ap (λ (v : View). v.share) t.0.view) ∙ whole) j u.view apart (get_view s.views j u q.1))
              (at_set s.views id j (sight w h.0) u e)),
        ),
      )))

  -- a board whose words are all 0, with one pass that has read nothing, keeps the rule `KeptInTime`
  pub begins_in_time : (ws : List ℕ) (xs : List ℕ) → length ws ≡ 50 * places + 1 → ((i : ℕ) → get_or ws i 0 ≡ 0) →
      KeptInTime places (opening ws xs (first_sight places))
  begins_in_time ws xs wide zero_word =
      record {
        kept = begins places ws xs wide zero_word;
        timed = timed_first ws places
            (record {
              counted = (let z = zero_word 0 in omega arith);
              dones = λ k. (let z = zero_word (50 * k + 50) in omega arith);
            });
      }

-- ---- what no kind of step can do

-- where two words grow to each other, a read that is true of the second is true of the first
true_alike : (ws us : List ℕ) (r : RawRead) → Grows ws us → Grows us ws → IsTrueOf us r → IsTrueOf ws r
true_alike ws us (Count c) a b t = let x = a.counted in let y = b.counted in omega arith
true_alike ws us (Open k) a b t = let x = a.dones k in let y = b.dones k in omega arith
true_alike ws us (See k xs) a b t = let x = a.dones k in let y = b.dones k in omega arith
true_alike ws us (Claim k) a b t = let x = a.counted in let y = b.counted in omega arith
true_alike ws us (Lost c) a b t = let x = a.counted in let y = b.counted in omega arith
true_alike ws us (Done k xs) a b t = let x = a.dones k in let y = b.dones k in omega arith

-- where all times that were added lie between two states of the board with the same words, the newest read is true of
-- these words
newest_is : (ws us : List ℕ) (r : RawRead) (rs : List RawRead) (more old : List Moment) → us ≡ ws →
    Each (IsBetween ws us) more → WereTrue (more ++ old) (r ∷ rs) → WereTrue old rs → IsTrueOf ws r
newest_is ws us r rs [] old same between now was =
    absurd (let a = true_long old (r ∷ rs) now in let b = true_long old rs was in omega arith)
newest_is ws us r rs (m ∷ ms) old same between now was =
    true_alike ws m.1 r between.0.after (subst (Grows m.1) same between.0.before) now.0

pub only_so : (places i n id : ℕ) (s : State ℕ Sight) (v w : Sight) (slots : List (ℕ × ℕ)) (act : Act ℕ)
    (read : RawRead) → KeptInTime places s → get_elem? s.views id ≡ some v → n ≡ get_or s.words i 0 →
    KeptInTime places (stepped s i n id slots w act) → Later v w → w.view.reads ≡ read ∷ v.view.reads →
    IsTrueOf s.words read
only_so places i n id s v w slots act read r at left r' l more =
    let us : List ℕ = set s.words i n in
    let same : us ≡ s.words = ap (set s.words i) left ∙ set-get_or s.words i 0 in
    newest_is s.words us read v.view.reads l.notes.more v.moments same
    (made_then s.words us s.views id v w l.notes.more r.timed at r'.timed l.notes.all)
    (subst (WereTrue (l.notes.more ++ v.moments)) more
    (subst (λ (x : List Moment). WereTrue x w.view.reads) l.notes.all l.were_true))
    (r.timed.were_true id v at)

pub allowed_so : (places slots id i : ℕ) (me : Me ℕ Sight) (f : ℕ → ℕ) (read : ℕ → RawRead) →
    Allows (KeptInTime places) slots id me i f
    (λ n m. (m.0.view.reads ≡ read n ∷ me.0.view.reads) × Later me.0 m.0) →
    (s : State ℕ Sight) → KeptInTime places s → length s.homes ≡ slots → get_elem? s.views id ≡ some me.0 →
    get_or s.words i 0 < 18446744073709551616 → f (get_or s.words i 0) ≡ get_or s.words i 0 →
    IsTrueOf s.words (read (get_or s.words i 0))
allowed_so places slots id i me f read allows s r homes at small left =
    let a = allows s r homes at small in
    only_so places i (f (get_or s.words i 0)) id s me.0 a.0 me.1 a.1 (read (get_or s.words i 0)) r at left a.3 a.4.1
    a.4.0
