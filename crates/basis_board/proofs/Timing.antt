-- The rule of moments: what a step, a split and a meeting keep of it.
--
-- `grows_same`: the words of a board are no older than themselves.
-- `set_here`: the pass for which other knowledge is set has this knowledge.
-- `notes_none`: where the times of a pass are the same, the pass noted nothing more.
-- `note`: a step that notes one read, which is true and tells what befell the places, keeps the rule of times.
-- `hush`: a step that notes nothing and changes neither the count nor a done word keeps the rule of times.
-- `same_notes`: each note of the same reads is one that was there, of the same kind.
-- `notes_on`: noting more twice is noting more.
-- `later_on`: a pass that is later than a later one is later.
-- `timed_splits`: splitting a pass in two keeps the rule of times.
-- `true_join`: reads that were true when they were noted are so behind others that were.
-- `notes_join`: the notes of two passes together are those of one behind those of the other.
-- `true_long`: where each read was true at its time, there are as many times as reads.
-- `notes_nothing`: a pass that goes on with the same reads has the same times.
-- `timed_joins`: merging two passes into one keeps the rule of times.
-- `timed_first`: the rule of times holds of a new board, whose only pass has noted nothing.
-- `one_log`: where one pass alone is left, its notes are one log: numbered in order, and each read was true when it was
--   noted.
-- `made_then`: a note that a step made is of words between those before the step and those after it.
use Rattle.std.proofs.Common.{◌≡◌, ◌≢◌, ◌⊎◌, ℕ, zero, suc, ◌+◌, ◌-◌, ◌<◌, ◌≤◌, List, [], ◌∷◌, ◌++◌, set, eqb}
use Rattle.std.proofs.Common.{sym, refl, ap, ◌∙◌, subst, ⊎_elim, inl, inr, arith, append_assoc, length, length-append}
use Rattle.std.proofs.lemmas.Bool.{cases_lt, cases_eq}
use mathlib.Core.Option.{some, some-injective, some-ne-none}
use lib.ListN.{get_elem?}
use Rattle.atomic_table.proofs.Lists.{at_set, at_snoc}
use Rattle.basis_board.specs.declared.seats.View.{View}
use Rattle.basis_board.specs.declared.seats.Sight.{Sight}
use Rattle.basis_board.specs.declared.seats.RawRead.{RawRead}
use Rattle.basis_board.specs.declared.seats.RawRead.TheVariants.{Count, Open, See, Claim, Lost, Done}
use Rattle.basis_board.specs.Board.{Each, Has, total, one_if, done, spent}
use Rattle.basis_board.specs.Moments.{Moment, sight, Grows, IsTrueOf, WereTrue, stamped_in, stamped, IsNoted, Timed}
use Rattle.basis_board.specs.Moments.{ComeAfter, NotesMore, Later, left_sight, right_sight, met_sight, spent_sight}
use Rattle.basis_board.specs.Moments.{first_sight, IsBetween, IsOneLog, Note, notes, notes_in, HasNote, numbered}
use Rattle.basis_board.specs.Moments.{Turns, IsLike, ClaimsPlace, FinishesPlace}
use Rattle.basis_board.proofs.Totals.{total_alone, total_set, total_push, total_at, times_here, times_else, has_left}
use Rattle.basis_board.proofs.Totals.{has_right}

pub grows_same : (ws : List ℕ) → Grows ws ws
grows_same ws = record { counted = omega arith; dones = λ k. omega arith }

-- words that grow to others, which grow to third ones, grow to the third ones
grows_on : (ws us vs : List ℕ) → Grows ws us → Grows us vs → Grows ws vs
grows_on ws us vs a b =
    let x = a.counted in let y = b.counted in
    record { counted = omega arith; dones = λ k. (let p = a.dones k in let q = b.dones k in omega arith) }

-- words that have grown from each other are alike
like_both : (ws us : List ℕ) → Grows ws us → Grows us ws → IsLike ws us
like_both ws us a b =
    let x = a.counted in let y = b.counted in
    record { counted = omega arith; dones = λ k. (let p = a.dones k in let q = b.dones k in omega arith) }

-- words that are like others, which are like third ones, are like the third ones
like_on : (vs ws us : List ℕ) → IsLike vs ws → IsLike ws us → IsLike vs us
like_on vs ws us a b = record { counted = b.counted ∙ a.counted; dones = λ k. b.dones k ∙ a.dones k }

-- words grow to words that are like them
like_grows : (ws us : List ℕ) → IsLike ws us → Grows ws us
like_grows ws us a =
    let x = a.counted in record { counted = omega arith; dones = λ k. (let p = a.dones k in omega arith) }

-- from the words before a read is noted, the words grow to those after it
turns_grow : (r : RawRead) (ws us : List ℕ) → Turns r ws us → Grows ws us
turns_grow (Count c) ws us t = like_grows ws us t
turns_grow (Open k) ws us t = like_grows ws us t
turns_grow (See k xs) ws us t = like_grows ws us t
turns_grow (Lost c) ws us t = like_grows ws us t
turns_grow (Claim k) ws us t =
    let x = t.before in let y = t.after in
    record { counted = omega arith; dones = λ j. (let p = t.dones j in omega arith) }
turns_grow (Done k xs) ws us t =
    let x = t.counted in let a = t.before in record {
      counted = omega arith;
      dones = λ j. ⊎_elim
          (λ (e : j ≡ k). let z : done ws j ≡ 0 = ap (done ws) e ∙ a in omega arith)
          (λ (n : j ≡ k → ⊥). let p = t.others j n in omega arith) (cases_eq j k);
    }

-- a read that turns ws into us turns any words like ws into us
turns_from : (vs ws us : List ℕ) (r : RawRead) → IsLike vs ws → Turns r ws us → Turns r vs us
turns_from vs ws us (Count c) a t = like_on vs ws us a t
turns_from vs ws us (Open k) a t = like_on vs ws us a t
turns_from vs ws us (See k xs) a t = like_on vs ws us a t
turns_from vs ws us (Lost c) a t = like_on vs ws us a t
turns_from vs ws us (Claim k) a t = record {
  before = sym a.counted ∙ t.before;
  after = t.after;
  dones = λ j. t.dones j ∙ a.dones j;
}
turns_from vs ws us (Done k xs) a t = record {
  counted = t.counted ∙ a.counted;
  before = sym (a.dones k) ∙ t.before;
  after = t.after;
  others = λ j n. t.others j n ∙ a.dones j;
}

-- ---- which notes there are

-- the number of a time is in a list that has the time at least once
has_stamp : (ms : List Moment) (m : Moment) → Has ms m → 1 ≤ stamped_in m.0 ms
has_stamp [] m h = absurd h
has_stamp (n ∷ ms) m h =
    ⊎_elim
    (λ (e : n ≡ m). let one : one_if (eqb n.0 m.0) ≡ 1 =
    subst (λ (z : Moment). one_if (eqb n.0 z.0) ≡ 1) e (times_here n.0) in omega arith)
    (λ (r : Has ms m). let x = has_stamp ms m r in omega arith) h

-- where a number is in a list of times, the list has a time of that number
stamp_has : (t : ℕ) (ms : List Moment) → 1 ≤ stamped_in t ms → (m : Moment) × Has ms m × (m.0 ≡ t)
stamp_has t [] l = absurd (omega arith)
stamp_has t (n ∷ ms) l =
    ⊎_elim (λ (e : n.0 ≡ t). (n, inl refl, e))
    (λ (e : n.0 ≡ t → ⊥). let none : one_if (eqb n.0 t) ≡ 0 = times_else n.0 t e in
    let r = stamp_has t ms (omega arith) in (r.0, inr r.1, r.2))
    (cases_eq n.0 t)

-- a number is in two lists of times together as often as in both added up
stamps_join : (t : ℕ) (ms ns : List Moment) → stamped_in t (ms ++ ns) ≡ stamped_in t ms + stamped_in t ns
stamps_join t [] ns = omega arith
stamps_join t (m ∷ ms) ns = let h = stamps_join t ms ns in omega arith

-- what two lists together have is in one or in the other
has_either : {X : Type 0} (xs ys : List X) (x : X) → Has (xs ++ ys) x → Has xs x ⊎ Has ys x
has_either [] ys x h = inr h
has_either {X} (z ∷ xs) ys x h =
    ⊎_elim (λ (e : z ≡ x). inl (inl e))
    (λ (q : Has (xs ++ ys) x).
    ⊎_elim (λ (a : Has xs x). inl (inr a)) (λ (b : Has ys x). inr b) (has_either xs ys x q)) h

-- the time of a note of a pass is one of the times of its reads
has_moment : (ms : List Moment) (rs : List RawRead) (n : Note) → Has (notes ms rs) n → Has ms (n.number, n.words)
has_moment [] rs n h = absurd h
has_moment (m ∷ ms) [] n h = absurd h
has_moment (m ∷ ms) (r ∷ rs) n h =
    ⊎_elim (λ (e : record { number = m.0; words = m.1; read = r } ≡ n). inl (ap (λ (z : Note). (z.number, z.words)) e))
    (λ (q : Has (notes ms rs) n). inr (has_moment ms rs n q)) h

-- the time of a note that some pass has is a time of some pass
note_noted : (vs : List Sight) (n : Note) → HasNote vs n → IsNoted vs (n.number, n.words)
note_noted vs n h = (h.0, h.1, h.2, has_moment h.1.moments h.1.view.reads n h.3)

-- from whatever words to whatever words q turns the board, r does too
abbrev TurnsAlike : RawRead → RawRead → Type 0
TurnsAlike q r = (ws us : List ℕ) → Turns q ws us → Turns r ws us

-- the old notes have a note of the same number and words, whose read turns the board as that of n does
abbrev pub HadAlike : List Note → Note → Type 0
HadAlike old n = (q : RawRead) × Has old (record n { read = q }) × TurnsAlike q n.read

-- some pass has a note of the same number and words, whose read turns the board as that of n does
abbrev WasNote : List Sight → Note → Type 0
WasNote vs n = (q : RawRead) × HasNote vs (record n { read = q }) × TurnsAlike q n.read

-- the number of a time of some pass is counted at least once over all passes
noted_total : (vs : List Sight) (m : Moment) → IsNoted vs m → 1 ≤ total (stamped m.0) vs
noted_total vs m n =
    let a = has_stamp n.1.moments m n.3 in
    let b = total_at (stamped m.0) vs n.0 n.1 n.2 in omega arith

-- a number that is counted over all passes is the number of a time of some pass
total_noted : (t : ℕ) (vs : List Sight) → 1 ≤ total (stamped t) vs → (m : Moment) × IsNoted vs m × (m.0 ≡ t)
total_noted t [] l = absurd (omega arith)
total_noted t (v ∷ vs) l =
    ⊎_elim
    (λ (some_here : 0 < stamped t v). let h = stamp_has t v.moments (omega arith) in (h.0, (0, v, refl, h.1), h.2))
    (λ (none : stamped t v ≤ 0). let r = total_noted t vs (omega arith) in
    (r.0, (suc r.1.0, r.1.1, r.1.2, r.1.3), r.2))
    (cases_lt 0 (stamped t v))

-- after what one pass knows is replaced, each time is one of the new ones or was a time of some pass before
noted_set : (vs : List Sight) (id : ℕ) (w : Sight) (m : Moment) → IsNoted (set vs id w) m →
    Has w.moments m ⊎ IsNoted vs m
noted_set vs id w m n =
    ⊎_elim (λ (t : (n.0 ≡ id) × (w ≡ n.1)). inl (subst (λ (u : Sight). Has u.moments m) (sym t.1) n.3))
    (λ (t : (n.0 ≢ id) × (get_elem? vs n.0 ≡ some n.1)). inr (n.0, n.1, t.1, n.3))
    (at_set vs id n.0 w n.1 n.2)

-- after what one pass knows is replaced, each note is one of the new ones or was there before
note_set : (vs : List Sight) (id : ℕ) (w : Sight) (n : Note) → HasNote (set vs id w) n →
    Has (notes_in w) n ⊎ HasNote vs n
note_set vs id w n h =
    ⊎_elim (λ (t : (h.0 ≡ id) × (w ≡ h.1)). inl (subst (λ (u : Sight). Has (notes_in u) n) (sym t.1) h.3))
    (λ (t : (h.0 ≢ id) × (get_elem? vs h.0 ≡ some h.1)). inr (h.0, h.1, t.1, h.3))
    (at_set vs id h.0 w h.1 h.2)

-- a property of what each pass knows stays where what one pass knows is replaced by knowledge with the property
sights_stay : (P : Sight → Type 0) (vs : List Sight) (id : ℕ) (w : Sight) → P w →
    ((j : ℕ) (u : Sight) → get_elem? vs j ≡ some u → P u) → (j : ℕ) (u : Sight) →
    get_elem? (set vs id w) j ≡ some u → P u
sights_stay P vs id w mine others j u e =
    ⊎_elim (λ (t : (j ≡ id) × (w ≡ u)). subst P t.1 mine)
    (λ (t : (j ≢ id) × (get_elem? vs j ≡ some u)). others j u t.1) (at_set vs id j w u e)

pub set_here : (vs : List Sight) (i : ℕ) (x y : Sight) → get_elem? vs i ≡ some x → get_elem? (set vs i y) i ≡ some y
set_here [] i x y e = absurd (some-ne-none x (sym e))
set_here (z ∷ zs) zero x y e = refl
set_here (z ∷ zs) (suc i) x y e = set_here zs i x y e

-- where another place of a list is written, an element stays where it is
set_there : (vs : List Sight) (i j : ℕ) (x y : Sight) → j ≢ i → get_elem? vs j ≡ some x →
    get_elem? (set vs i y) j ≡ some x
set_there [] i j x y n e = absurd (some-ne-none x (sym e))
set_there (z ∷ zs) zero zero x y n e = absurd (n refl)
set_there (z ∷ zs) zero (suc j) x y n e = e
set_there (z ∷ zs) (suc i) zero x y n e = e
set_there (z ∷ zs) (suc i) (suc j) x y n e = set_there zs i j x y (λ q. n (ap suc q)) e

-- the number of each time is below the count of all reads that were noted
noted_before : (ws : List ℕ) (vs : List Sight) (r : Timed ws vs) (m : Moment) → IsNoted vs m → m.0 < r.now
noted_before ws vs r m n =
    ⊎_elim (λ (l : m.0 < r.now). l)
    (λ (l : r.now ≤ m.0). let a = noted_total vs m n in let b = r.no_later m.0 l in absurd (omega arith))
    (cases_lt m.0 r.now)

-- ---- steps

-- the rule of times stays where the same reads are noted, however they are divided among the passes
timed_same : (ws us : List ℕ) (vs vs' : List Sight) → Timed ws vs → Grows ws us → Grows us ws →
    ((t : ℕ) → total (stamped t) vs' ≡ total (stamped t) vs) → ((m : Moment) → IsNoted vs' m → IsNoted vs m) →
    ((n : Note) → HasNote vs' n → WasNote vs n) →
    ((j : ℕ) (v : Sight) → get_elem? vs' j ≡ some v → WereTrue v.moments v.view.reads) → Timed us vs'
timed_same ws us vs vs' r more less same back was true_then =
    record {
      now = r.now;
      once = λ t l. same t ∙ r.once t l;
      no_later = λ t l. same t ∙ r.no_later t l;
      ordered = λ m n a b l. r.ordered m n (back m a) (back n b) l;
      past = λ m a. grows_on m.1 ws us (r.past m (back m a)) more;
      latest = λ m a e. grows_on us ws m.1 less (r.latest m (back m a) e);
      unnoted = λ e. grows_on us ws [] less (r.unnoted e);
      first = λ n h e. (let q = was n h in q.2 [] n.words (r.first (record n { read = q.0 }) q.1 e));
      next = λ m n a b e. (let q = was n b in
          q.2 m.1 n.words (r.next m (record n { read = q.0 }) (back m a) q.1 e));
      were_true = true_then;
    }

-- where what one pass knows is replaced and its times stay, each time of the passes was there before
noted_quiet : (vs : List Sight) (id : ℕ) (v w : Sight) → get_elem? vs id ≡ some v → w.moments ≡ v.moments →
    (m : Moment) → IsNoted (set vs id w) m → IsNoted vs m
noted_quiet vs id v w at same m n =
    ⊎_elim (λ (h : Has w.moments m). (id, v, at, subst (λ (l : List Moment). Has l m) same h))
    (λ (h : IsNoted vs m). h) (noted_set vs id w m n)

-- where what one pass knows is replaced and each of its notes had a like one before, each note of the passes had one
was_quiet : (vs : List Sight) (id : ℕ) (v w : Sight) → get_elem? vs id ≡ some v →
    ((n : Note) → Has (notes_in w) n → HadAlike (notes_in v) n) → (n : Note) → HasNote (set vs id w) n → WasNote vs n
was_quiet vs id v w at had n h =
    ⊎_elim (λ (a : Has (notes_in w) n). let q = had n a in (q.0, (id, v, at, q.1), q.2))
    (λ (b : HasNote vs n). (n.read, b, λ ws us t. t)) (note_set vs id w n h)

-- where a step of a pass notes nothing, and the words before and after it are alike, the rule of moments is kept
timed_quiet : (ws us : List ℕ) (vs : List Sight) (id : ℕ) (v w : Sight) → Timed ws vs → get_elem? vs id ≡ some v →
    Grows ws us → Grows us ws → w.moments ≡ v.moments → ((n : Note) → Has (notes_in w) n → HadAlike (notes_in v) n) →
    WereTrue w.moments w.view.reads → Timed us (set vs id w)
timed_quiet ws us vs id v w r at more less same had true_then =
    timed_same ws us vs (set vs id w) r more less
    (λ t. (let a = total_set (stamped t) vs id v w at in
    let b : stamped t w ≡ stamped t v = ap (stamped_in t) same in omega arith))
    (noted_quiet vs id v w at same) (was_quiet vs id v w at had)
    (sights_stay (λ u. WereTrue u.moments u.view.reads) vs id w true_then r.were_true)

-- where a step of a pass notes one read, with the next number and the words after it, the rule of moments is kept
timed_note : (ws us : List ℕ) (vs : List Sight) (id : ℕ) (v w : Sight) (read : RawRead) (r : Timed ws vs) →
    get_elem? vs id ≡ some v → Turns read ws us → w.moments ≡ (r.now, us) ∷ v.moments →
    w.view.reads ≡ read ∷ v.view.reads → WereTrue w.moments w.view.reads → Timed us (set vs id w)
timed_note ws us vs id v w read r at turns new is_read true_then =
    let more : Grows ws us = turns_grow read ws us turns in
    let note : Note = record { number = r.now; words = us; read = read } in
    let all : notes_in w ≡ note ∷ notes_in v =
    ap (λ ms. notes ms w.view.reads) new ∙ ap (notes ((r.now, us) ∷ v.moments)) is_read in
    let either_note : (n : Note) → HasNote (set vs id w) n → (note ≡ n) ⊎ HasNote vs n =
    λ n h. ⊎_elim (λ (a : Has (notes_in w) n).
    ⊎_elim (λ (e : note ≡ n). inl e) (λ (q : Has (notes_in v) n). inr (id, v, at, q))
    (subst (λ (l : List Note). Has l n) all a)) (λ (b : HasNote vs n). inr b) (note_set vs id w n h) in
    let either_one : (m : Moment) → IsNoted (set vs id w) m → ((r.now, us) ≡ m) ⊎ IsNoted vs m =
    λ m n. ⊎_elim (λ (h : Has w.moments m).
    ⊎_elim (λ (e : (r.now, us) ≡ m). inl e) (λ (q : Has v.moments m). inr (id, v, at, q))
    (subst (λ (l : List Moment). Has l m) new h)) (λ (h : IsNoted vs m). inr h) (noted_set vs id w m n) in
    let sums : (t : ℕ) → total (stamped t) (set vs id w) ≡ total (stamped t) vs + one_if (eqb r.now t) =
    λ t. (let a = total_set (stamped t) vs id v w at in
    let b : stamped t w ≡ one_if (eqb r.now t) + stamped t v = ap (stamped_in t) new in omega arith) in
    record {
      now = r.now + 1;
      once = λ t l. (let s = sums t in
          ⊎_elim
          (λ (e : r.now ≡ t). let one : one_if (eqb r.now t) ≡ 1 =
          subst (λ (z : ℕ). one_if (eqb r.now z) ≡ 1) e (times_here r.now) in
          let none = r.no_later t (omega arith) in omega arith)
          (λ (e : r.now ≡ t → ⊥). let zero_here : one_if (eqb r.now t) ≡ 0 = times_else r.now t e in
          let one = r.once t (omega arith) in omega arith)
          (cases_eq r.now t));
      no_later = λ t l. (let s = sums t in
          let apart : r.now ≢ t = (λ e. omega arith) in
          let zero_here : one_if (eqb r.now t) ≡ 0 = times_else r.now t apart in
          let none = r.no_later t (omega arith) in omega arith);
      ordered = λ m n a b l.
          ⊎_elim
          (λ (e : (r.now, us) ≡ m).
          ⊎_elim
          (λ (d : (r.now, us) ≡ n). subst (λ (z : Moment). Grows m.1 z.1) (sym e ∙ d) (grows_same m.1))
          (λ (q : IsNoted vs n). let x = noted_before ws vs r n q in
          let y : r.now ≡ m.0 = ap (λ (z : Moment). z.0) e in absurd (omega arith))
          (either_one n b))
          (λ (p : IsNoted vs m).
          ⊎_elim
          (λ (d : (r.now, us) ≡ n).
          subst (λ (z : Moment). Grows m.1 z.1) d (grows_on m.1 ws us (r.past m p) more))
          (λ (q : IsNoted vs n). r.ordered m n p q l)
          (either_one n b))
          (either_one m a);
      past = λ m a.
          ⊎_elim
          (λ (e : (r.now, us) ≡ m). subst (λ (z : Moment). Grows z.1 us) e (grows_same us))
          (λ (p : IsNoted vs m). grows_on m.1 ws us (r.past m p) more)
          (either_one m a);
      latest = λ m a is.
          ⊎_elim
          (λ (e : (r.now, us) ≡ m). subst (λ (z : Moment). Grows us z.1) e (grows_same us))
          (λ (p : IsNoted vs m). let x = noted_before ws vs r m p in absurd (omega arith))
          (either_one m a);
      unnoted = λ e. absurd (omega arith);
      first = λ n h e.
          ⊎_elim
          (λ (q : note ≡ n). let none : r.now ≡ 0 = ap (λ (z : Note). z.number) q ∙ e in
          subst (λ (z : Note). Turns z.read [] z.words) q
          (turns_from [] ws us read
          (like_both [] ws (record { counted = omega arith; dones = λ k. omega arith }) (r.unnoted none)) turns))
          (λ (b : HasNote vs n). r.first n b e)
          (either_note n h);
      next = λ m n a h e.
          ⊎_elim
          (λ (q : note ≡ n). let num : r.now ≡ n.number = ap (λ (z : Note). z.number) q in
          ⊎_elim
          (λ (d : (r.now, us) ≡ m). let same : r.now ≡ m.0 = ap (λ (z : Moment). z.0) d in absurd (omega arith))
          (λ (p : IsNoted vs m). subst (λ (z : Note). Turns z.read m.1 z.words) q
          (turns_from m.1 ws us read
          (like_both m.1 ws (r.past m p) (r.latest m p (omega arith))) turns))
          (either_one m a))
          (λ (b : HasNote vs n). let before = noted_before ws vs r (n.number, n.words) (note_noted vs n b) in
          ⊎_elim
          (λ (d : (r.now, us) ≡ m). let same : r.now ≡ m.0 = ap (λ (z : Moment). z.0) d in absurd (omega arith))
          (λ (p : IsNoted vs m). r.next m n p b e)
          (either_one m a))
          (either_note n h);
      were_true = sights_stay (λ u. WereTrue u.moments u.view.reads) vs id w true_then r.were_true;
    }

-- where each element of a list of times is before t, `Each` of the list is before t
each_before : (t : ℕ) (ms : List Moment) → ((m : Moment) → Has ms m → m.0 < t) → Each (λ n. n.0 < t) ms
each_before t [] h = tt
each_before t (m ∷ ms) h = (h m (inl refl), each_before t ms (λ n q. h n (inr q)))

pub notes_none : (ms ns : List Moment) → ns ≡ ms → NotesMore ms ns
notes_none ms ns e = record { more = []; all = e; later = tt }

-- what a step that notes one read comes to
pub note : (ws us : List ℕ) (vs : List Sight) (id : ℕ) (v : Sight) (w : View) (read : RawRead) → Timed ws vs →
    get_elem? vs id ≡ some v → Turns read ws us → w.reads ≡ read ∷ v.view.reads → IsTrueOf us read →
    (ms : List Moment) × Timed us (set vs id (sight w ms)) × Later v (sight w ms)
note ws us vs id v w read r at turns new is =
    let ms : List Moment = (r.now, us) ∷ v.moments in
    let all : WereTrue ms w.reads = subst (WereTrue ms) (sym new) (is, r.were_true id v at) in (
      ms,
      timed_note ws us vs id v (sight w ms) read r at turns refl new all,
      record {
        notes = record {
          more = (r.now, us) ∷ [];
          all = refl;
          later = (each_before r.now v.moments (λ m h. noted_before ws vs r m (id, v, at, h)), tt);
        };
        were_true = all;
      },
    )

-- what a step that notes nothing comes to
pub hush : (ws us : List ℕ) (vs : List Sight) (id : ℕ) (v : Sight) (w : View) → Timed ws vs →
    get_elem? vs id ≡ some v → Grows ws us → Grows us ws →
    ((n : Note) → Has (notes v.moments w.reads) n → HadAlike (notes_in v) n) →
    (WereTrue v.moments v.view.reads → WereTrue v.moments w.reads) →
    (ms : List Moment) × Timed us (set vs id (sight w ms)) × Later v (sight w ms)
hush ws us vs id v w r at more less had on =
    let all : WereTrue v.moments w.reads = on (r.were_true id v at) in (
      v.moments,
      timed_quiet ws us vs id v (sight w v.moments) r at more less refl had all,
      record { notes = notes_none v.moments v.moments refl; were_true = all },
    )

-- what is noted of reads is noted alike of equal reads
pub same_notes : (ms : List Moment) (rs qs : List RawRead) → qs ≡ rs → (n : Note) → Has (notes ms qs) n →
    HadAlike (notes ms rs) n
same_notes ms rs qs e n h = (n.read, subst (λ l. Has (notes ms l) n) e h, λ ws us t. t)

-- ---- calls

-- where later times come after older ones and those after old ones, both together come after the old ones
come_on : (cs bs old : List Moment) → ComeAfter bs old → ComeAfter cs (bs ++ old) → ComeAfter (cs ++ bs) old
come_on [] bs old b c = b
come_on (m ∷ cs) bs old b c = (
  subst (λ (l : List Moment). Each (λ n. n.0 < m.0) l) (sym (append_assoc cs bs old)) c.0,
  come_on cs bs old b c.1,
)

pub notes_on : (a b c : List Moment) → NotesMore a b → NotesMore b c → NotesMore a c
notes_on a b c p q =
    record {
      more = q.more ++ p.more;
      all = q.all ∙ ap (λ l. q.more ++ l) p.all ∙ sym (append_assoc q.more p.more a);
      later = come_on q.more p.more a p.later (subst (ComeAfter q.more) p.all q.later);
    }

pub later_on : (u v w : Sight) → Later u v → Later v w → Later u w
later_on u v w a b =
    record { notes = notes_on u.moments v.moments w.moments a.notes b.notes; were_true = b.were_true }

-- ---- passes that are cut in two and met

pub timed_splits : (ws : List ℕ) (vs : List Sight) (id : ℕ) (v : Sight) → Timed ws vs → get_elem? vs id ≡ some v →
    Timed ws (set vs id (left_sight v) ++ right_sight v ∷ [])
timed_splits ws vs id v r at =
    let left : Sight = left_sight v in
    let right : Sight = right_sight v in
    let us : List Sight = set vs id left in
    timed_same ws ws vs (us ++ right ∷ []) r (grows_same ws) (grows_same ws)
    (λ t. (let a = total_set (stamped t) vs id v left at in let b = total_push (stamped t) us right in omega arith))
    (λ m n. ⊎_elim (λ (h : get_elem? us n.0 ≡ some n.1). noted_quiet vs id v left at refl m (n.0, n.1, h, n.3))
    (λ (q : right ≡ n.1). absurd (subst (λ (u : Sight). Has u.moments m) (sym q) n.3))
    (at_snoc us right n.1 n.0 n.2))
    (λ n h. ⊎_elim (λ (a : get_elem? us h.0 ≡ some h.1).
    was_quiet vs id v left at (λ m b. (m.read, b, λ ws us t. t)) n (h.0, h.1, a, h.3))
    (λ (q : right ≡ h.1). absurd (subst (λ (u : Sight). Has (notes_in u) n) (sym q) h.3))
    (at_snoc us right h.1 h.0 h.2))
    (λ j u e. ⊎_elim
    (sights_stay (λ u. WereTrue u.moments u.view.reads) vs id left (r.were_true id v at) r.were_true j u)
    (λ (q : right ≡ u). subst (λ (u : Sight). WereTrue u.moments u.view.reads) q tt)
    (at_snoc us right u j e))

pub true_join : (ms ns : List Moment) (rs qs : List RawRead) → WereTrue ms rs → WereTrue ns qs →
    WereTrue (ms ++ ns) (rs ++ qs)
true_join [] ns [] qs a b = b
true_join [] ns (r ∷ rs) qs a b = absurd a
true_join (m ∷ ms) ns [] qs a b = absurd a
true_join (m ∷ ms) ns (r ∷ rs) qs a b = (a.0, true_join ms ns rs qs a.1 b)

-- the notes of both
pub notes_join : (ms ns : List Moment) (rs qs : List RawRead) → WereTrue ms rs →
    notes (ms ++ ns) (rs ++ qs) ≡ notes ms rs ++ notes ns qs
notes_join [] ns [] qs h = refl
notes_join [] ns (r ∷ rs) qs h = absurd h
notes_join (m ∷ ms) ns [] qs h = absurd h
notes_join (m ∷ ms) ns (r ∷ rs) qs h =
    ap (λ l. record { number = m.0; words = m.1; read = r } ∷ l) (notes_join ms ns rs qs h.1)

pub true_long : (ms : List Moment) (rs : List RawRead) → WereTrue ms rs → length ms ≡ length rs
true_long [] [] h = refl
true_long [] (r ∷ rs) h = absurd h
true_long (m ∷ ms) [] h = absurd h
true_long (m ∷ ms) (r ∷ rs) h = let l = true_long ms rs h.1 in omega arith

-- where the reads are those that there were, nothing was noted
pub notes_nothing : (v w : Sight) (old : List Moment) (rs : List RawRead) → Later v w → v.moments ≡ old →
    w.view.reads ≡ rs → WereTrue old rs → w.moments ≡ old
notes_nothing v w old rs l is same were =
    let a : length old ≡ length rs = true_long old rs were in
    let b : length w.moments ≡ length rs = true_long w.moments rs (subst (WereTrue w.moments) same l.were_true) in
    let all : w.moments ≡ l.notes.more ++ old = l.notes.all ∙ ap (λ x. l.notes.more ++ x) is in
    let c : length w.moments ≡ length l.notes.more + length old =
    ap length all ∙ length-append l.notes.more old in
    all ∙ none l.notes.more (omega arith)
  where
    none : (more : List Moment) → length more ≡ 0 → more ++ old ≡ old
    none [] e = refl
    none (m ∷ ms) e = absurd (omega arith)

pub timed_joins : (ws : List ℕ) (vs : List Sight) (id other : ℕ) (v w : Sight) → Timed ws vs →
    get_elem? vs id ≡ some v → (other ≡ id → ⊥) → get_elem? (set vs id (met_sight v w)) other ≡ some w →
    Timed ws (set (set vs id (met_sight v w)) other spent_sight)
timed_joins ws vs id other v w r at apart there =
    let both : Sight = met_sight v w in
    let us : List Sight = set vs id both in
    let there_too : get_elem? vs other ≡ some w = ⊎_elim (λ (t : (other ≡ id) × (both ≡ w)). absurd (apart t.0))
    (λ (t : (other ≢ id) × (get_elem? vs other ≡ some w)). t.1) (at_set vs id other both w there) in
    let all_true : WereTrue both.moments both.view.reads =
    true_join w.moments v.moments w.view.reads v.view.reads (r.were_true other w there_too) (r.were_true id v at) in
    timed_same ws ws vs (set us other spent_sight) r (grows_same ws) (grows_same ws)
    (λ t. (let a = total_set (stamped t) vs id v both at in
    let b = total_set (stamped t) us other w spent_sight there in
    let c = stamps_join t w.moments v.moments in omega arith))
    (λ m n. ⊎_elim (λ (h : Has spent_sight.moments m). absurd h)
    (λ (h : IsNoted us m).
    ⊎_elim (λ (h : Has both.moments m).
    ⊎_elim (λ (a : Has w.moments m). (other, w, there_too, a)) (λ (b : Has v.moments m). (id, v, at, b))
    (has_either w.moments v.moments m h))
    (λ (h : IsNoted vs m). h)
    (noted_set vs id both m h))
    (noted_set us other spent_sight m n))
    (λ n h. ⊎_elim (λ (a : Has (notes_in spent_sight) n). absurd a)
    (λ (b : HasNote us n).
    ⊎_elim (λ (c : Has (notes_in both) n).
    ⊎_elim (λ (d : Has (notes_in w) n). (n.read, (other, w, there_too, d), λ xs ys t. t))
    (λ (d : Has (notes_in v) n). (n.read, (id, v, at, d), λ xs ys t. t))
    (has_either (notes_in w) (notes_in v) n (subst (λ (l : List Note). Has l n)
    (notes_join w.moments v.moments w.view.reads v.view.reads (r.were_true other w there_too)) c)))
    (λ (c : HasNote vs n). (n.read, c, λ xs ys t. t))
    (note_set vs id both n b))
    (note_set us other spent_sight n h))
    (sights_stay (λ u. WereTrue u.moments u.view.reads) us other spent_sight tt
    (sights_stay (λ u. WereTrue u.moments u.view.reads) vs id both all_true r.were_true))

pub timed_first : (ws : List ℕ) (places : ℕ) → Grows ws [] → Timed ws (first_sight places ∷ [])
timed_first ws places none =
    record {
      now = 0;
      once = λ t l. absurd (omega arith);
      no_later = λ t l. refl;
      ordered = λ m n a b l. absurd (nothing m a);
      past = λ m a. absurd (nothing m a);
      latest = λ m a e. absurd (nothing m a);
      unnoted = λ e. none;
      first = λ n h e. absurd (nothing (n.number, n.words) (note_noted (first_sight places ∷ []) n h));
      next = λ m n a b e. absurd (nothing m a);
      were_true = one;
    }
  where
    nothing : (m : Moment) → IsNoted (first_sight places ∷ []) m → ⊥
    nothing m n = let a = noted_total (first_sight places ∷ []) m n in absurd (omega arith)

    one : (j : ℕ) (v : Sight) → get_elem? (first_sight places ∷ []) j ≡ some v → WereTrue v.moments v.view.reads
    one zero v e =
        subst (λ (u : Sight). WereTrue u.moments u.view.reads) (some-injective (first_sight places) v e) tt
    one (suc j) v e = absurd (some-ne-none v (sym e))

-- where the reads were true at their times, a number is in the notes as often as in the times
numbered_is : (t : ℕ) (ms : List Moment) (rs : List RawRead) → WereTrue ms rs →
    numbered t (notes ms rs) ≡ stamped_in t ms
numbered_is t [] rs h = refl
numbered_is t (m ∷ ms) [] h = absurd h
numbered_is t (m ∷ ms) (r ∷ rs) h = ap (λ x. one_if (eqb m.0 t) + x) (numbered_is t ms rs h.1)

-- where the reads were true at their times, each note's read is true of the note's words
note_true : (ms : List Moment) (rs : List RawRead) → WereTrue ms rs → (n : Note) → Has (notes ms rs) n →
    IsTrueOf n.words n.read
note_true [] rs h n x = absurd x
note_true (m ∷ ms) [] h n x = absurd x
note_true (m ∷ ms) (r ∷ rs) h n x =
    ⊎_elim (λ (e : record { number = m.0; words = m.1; read = r } ≡ n).
    subst (λ (z : Note). IsTrueOf z.words z.read) e h.0)
    (λ (q : Has (notes ms rs) n). note_true ms rs h.1 n q) x

-- where all others have noted nothing, a pass has all notes
pub one_log : (ws : List ℕ) (vs : List Sight) (id : ℕ) (v : Sight) → Timed ws vs → get_elem? vs id ≡ some v →
    ((j : ℕ) (u : Sight) → j ≢ id → get_elem? vs j ≡ some u → u.view ≡ spent) → IsOneLog (notes_in v)
one_log ws vs id v r at others =
    record {
      size = r.now;
      once = λ t l. numbered_is t v.moments v.view.reads mine ∙ sym (alone t) ∙ r.once t l;
      no_later = λ t l. numbered_is t v.moments v.view.reads mine ∙ sym (alone t) ∙ r.no_later t l;
      ordered = λ m n a b l. r.ordered (m.number, m.words) (n.number, n.words) (moment m a) (moment n b) l;
      first = λ n a e. r.first n (id, v, at, a) e;
      next = λ m n a b e. r.next (m.number, m.words) n (moment m a) (id, v, at, b) e;
      so = note_true v.moments v.view.reads mine;
    }
  where
    mine : WereTrue v.moments v.view.reads
    mine = r.were_true id v at

    moment : (n : Note) → Has (notes_in v) n → IsNoted vs (n.number, n.words)
    moment n a = note_noted vs n (id, v, at, a)

    bare : (t : ℕ) (ms : List Moment) → WereTrue ms [] → stamped_in t ms ≡ 0
    bare t [] h = refl
    bare t (m ∷ ms) h = absurd h

    alone : (t : ℕ) → total (stamped t) vs ≡ stamped t v
    alone t = total_alone (stamped t) vs id v at (λ j u apart e.
        bare t u.moments (subst (λ (x : View). WereTrue u.moments x.reads) (others j u apart e) (r.were_true j u e)))

-- ---- what no kind of step can do

-- a property of each element of a list of times is one of `Each` of the list
between_each : (P : Moment → Type 0) (ms : List Moment) → ((m : Moment) → Has ms m → P m) → Each P ms
between_each P [] h = tt
between_each P (m ∷ ms) h = (h m (inl refl), between_each P ms (λ n q. h n (inr q)))

pub made_then : (ws us : List ℕ) (vs : List Sight) (id : ℕ) (v w : Sight) (made : List Moment) → Timed ws vs →
    get_elem? vs id ≡ some v → Timed us (set vs id w) → w.moments ≡ made ++ v.moments →
    Each (IsBetween ws us) made
made_then ws us vs id v w made r at r' all = between_each (IsBetween ws us) made one
  where
    stays : (m : Moment) → IsNoted vs m → IsNoted (set vs id w) m
    stays m n =
        ⊎_elim
        (λ (e : n.0 ≡ id).
        let same : n.1 ≡ v = some-injective n.1 v (sym n.2 ∙ ap (get_elem? vs) e ∙ at) in
        let h : Has v.moments m = subst (λ (u : Sight). Has u.moments m) same n.3 in
        (id, w, set_here vs id v w at, subst (λ (l : List Moment). Has l m) (sym all) (has_right made v.moments m h)))
        (λ (e : n.0 ≡ id → ⊥). (n.0, n.1, set_there vs id n.0 n.1 w e n.2, n.3))
        (cases_eq n.0 id)

    one : (m : Moment) → Has made m → IsBetween ws us m
    one m h =
        let mine : IsNoted (set vs id w) m =
        (id, w, set_here vs id v w at, subst (λ (l : List Moment). Has l m) (sym all) (has_left made v.moments m h)) in
        let sums = total_set (stamped m.0) vs id v w at in
        let parts : stamped m.0 w ≡ stamped_in m.0 made + stamped m.0 v =
        ap (stamped_in m.0) all ∙ stamps_join m.0 made v.moments in
        let here = has_stamp made m h in
        let inside = noted_before us (set vs id w) r' m mine in
        let one_now = r'.once m.0 inside in
        let after_now : r.now ≤ m.0 = ⊎_elim
        (λ (l : m.0 < r.now). let was = r.once m.0 l in absurd (omega arith)) (λ (l : r.now ≤ m.0). l)
        (cases_lt m.0 r.now) in
        record {
          after =
              ⊎_elim
              (λ (none : r.now ≡ 0). grows_on ws [] m.1 (r.unnoted none)
              (record { counted = omega arith; dones = λ k. omega arith }))
              (λ (some_were : r.now ≡ 0 → ⊥).
              let before : r.now - 1 < r.now = omega arith in
              let was = r.once (r.now - 1) before in
              let last = total_noted (r.now - 1) vs (omega arith) in
              let is : last.0.0 ≡ r.now - 1 = last.2 in
              grows_on ws last.0.1 m.1 (r.latest last.0 last.1 (omega arith))
              (r'.ordered last.0 m (stays last.0 last.1) mine (omega arith)))
              (cases_eq r.now 0);
          before = r'.past m mine;
        }
