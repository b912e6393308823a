-- What workers read, each by a pass of its own, places answer in one order.
use Rattle.std.proofs.Common.{◌≡◌, ℕ, zero, suc, ◌+◌, ◌<◌, ◌≤◌, ◌%◌, List, [], ◌∷◌, ◌++◌, length, map, get_or}
use Rattle.std.proofs.Common.{reverse, nat_eq, eqb, cond, Bool, true, false, refl, sym, ap, ◌∙◌, subst, ⊎_elim}
use Rattle.std.proofs.Common.{inl, inr, arith}
use Rattle.std.specs.List.{flat_map, AllByRecursion, Contains}
use Rattle.std.proofs.lemmas.List.{map-append, reverse-append, reverse-reverse}
use Rattle.std.proofs.lemmas.List.Elements.{Contains-append_left, Contains-append_right}
use Rattle.spec_board.specs.declared.read.Read.TheVariants as read
use Rattle.spec_board.specs.Reads.{ExactRead}
use Rattle.spec_board.specs.Places.{Logged}
use Rattle.spec_board.specs.Orders.{AreBacked, HaveOneOrder, log_of_worker}
use Rattle.basis_board.specs.declared.seats.RawRead.{RawRead}
use Rattle.basis_board.specs.declared.seats.RawRead.TheVariants.{Count, Open, See, Claim, Lost, Done}
use Rattle.basis_board.specs.Board.{Each, Has, one_if, count}
use Rattle.basis_board.specs.Known.{Known, notes_of}
use Rattle.basis_board.specs.Moments.{Moment, Note, notes, numbered, ComeAfter, WereTrue, IsTrueOf, IsOneLog}
use Rattle.basis_board.proofs.Totals.{has_left, has_right}
use Rattle.basis_board.specs.PassReads.{exact_read, reads_of}
use Rattle.basis_board.specs.Played.{of_read, Supposes, AreFounded, IsOfWorker, IsLogOf}
use Rattle.basis_board.proofs.Merging.{Mark, logged_of, marked, Ascends, sum_of, Merged, part, merged, holds_of_all}
use Rattle.basis_board.proofs.Replaying.{IsFounded, replayed}
use Rattle.basis_board.proofs.Pushing.{all_push}

-- ---- lists

-- a list with a first element, put in reverse, ends with this element
reverse_first : {X : Type 0} (x : X) (xs : List X) → reverse (x ∷ xs) ≡ reverse xs ++ x ∷ []
reverse_first x xs = reverse-append (x ∷ []) xs

-- mapping a reversed list gives the mapped list reversed
map_reverse : {X Y : Type 0} (f : X → Y) (xs : List X) → map f (reverse xs) ≡ reverse (map f xs)
map_reverse f [] = refl
map_reverse f (x ∷ xs) =
    ap (map f) (reverse_first x xs) ∙ map-append f (reverse xs) (x ∷ [])
    ∙ ap (λ ys. ys ++ f x ∷ []) (map_reverse f xs) ∙ sym (reverse_first (f x) (map f xs))

-- what holds of each element of a list holds of each element of its reverse
all_reverse : {X : Type 0} (P : X → Type 0) (xs : List X) → AllByRecursion P xs → AllByRecursion P (reverse xs)
all_reverse P [] h = tt
all_reverse P (x ∷ xs) h =
    subst (AllByRecursion P) (sym (reverse_first x xs)) (all_push P (reverse xs) x (all_reverse P xs h.1) h.0)

-- what holds of each element of a mapped list holds of what f gives for each element
all_unmap : {X Y : Type 0} (f : X → Y) (P : Y → Type 0) (xs : List X) → AllByRecursion P (map f xs) →
    AllByRecursion (λ x. P (f x)) xs
all_unmap f P [] h = tt
all_unmap f P (x ∷ xs) h = (h.0, all_unmap f P xs h.1)

-- what holds of whatever a list has holds of each of its elements
all_of : {X : Type 0} (P : X → Type 0) (xs : List X) → ((x : X) → Has xs x → P x) → AllByRecursion P xs
all_of P [] h = tt
all_of P (x ∷ xs) h = (h x (inl refl), all_of P xs (λ y m. h y (inr m)))

-- what holds of each element of a list holds of whatever it has
of_all : {X : Type 0} (P : X → Type 0) (xs : List X) (x : X) → AllByRecursion P xs → Has xs x → P x
of_all P [] x h m = absurd m
of_all P (y ∷ xs) x h m = ⊎_elim (λ (e : y ≡ x). subst P e h.0) (λ (r : Has xs x). of_all P xs x h.1 r) m

-- an element of a reversed list is one of the list
has_reverse : {X : Type 0} (xs : List X) (x : X) → Has (reverse xs) x → Has xs x
has_reverse xs x h = of_all (Has xs) (reverse xs) x (all_reverse (Has xs) xs (all_of (Has xs) xs (λ y m. m))) h

-- what f gives for an element is in the mapped list
has_map : {X Y : Type 0} (f : X → Y) (xs : List X) (x : X) → Has xs x → Contains (map f xs) (f x)
has_map f [] x h = absurd h
has_map f (y ∷ xs) x h =
    ⊎_elim (λ (e : y ≡ x). (zero, omega arith, ap f e))
    (λ (r : Has xs x). Contains-append_right (f y ∷ []) (map f xs) (f x) (has_map f xs x r)) h

-- what is in a mapped list is what f gives for some element of the list
contains_map : {X Y : Type 0} (f : X → Y) (xs : List X) (y : Y) → Contains (map f xs) y →
    (x : X) × Has xs x × (f x ≡ y)
contains_map f [] y (i, l, e) = absurd (omega arith)
contains_map f (x ∷ xs) y (zero, l, e) = (x, inl refl, e)
contains_map f (x ∷ xs) y (suc i, l, e) =
    let r = contains_map f xs y (i, omega arith, e) in (r.0, inr r.1, r.2)

-- what is in the list that f gives for element i is in the lists that f gives for all elements, one after the other
has_flat : {X Y : Type 0} (f : X → List Y) (xs : List X) (i : ℕ) (d : X) (y : Y) → i < length xs →
    Has (f (get_or xs i d)) y → Has (flat_map f xs) y
has_flat f [] i d y l h = absurd (omega arith)
has_flat f (x ∷ xs) zero d y l h = has_left (f x) (flat_map f xs) y h
has_flat f (x ∷ xs) (suc i) d y l h = has_right (f x) (flat_map f xs) y (has_flat f xs i d y (omega arith) h)

-- what is in the list that f gives for element i is in all of these lists, one after the other
contains_flat : {X Y : Type 0} (f : X → List Y) (xs : List X) (i : ℕ) (d : X) (y : Y) → i < length xs →
    Contains (f (get_or xs i d)) y → Contains (flat_map f xs) y
contains_flat f [] i d y l h = absurd (omega arith)
contains_flat f (x ∷ xs) zero d y l h = Contains-append_left (f x) (flat_map f xs) y h
contains_flat f (x ∷ xs) (suc i) d y l h =
    Contains-append_right (f x) (flat_map f xs) y (contains_flat f xs i d y (omega arith) h)

-- ---- the notes of one pass, with the sessions of its reads

-- the reads of a pass, the newest first, each with its number among all reads of the board and as a logged read
marks : List Moment → List RawRead → List Logged → List Mark
marks [] rs ls = []
marks (m ∷ ms) [] ls = []
marks (m ∷ ms) (r ∷ rs) [] = []
marks (m ∷ ms) (r ∷ rs) (l ∷ ls) =
    record { number = m.0; words = m.1; session = l.session; read = r } ∷ marks ms rs ls

-- the note of a mark, without its session
abbrev note_of : Mark → Note
note_of x = record { number = x.number; words = x.words; read = x.read }

-- the reads are those of the log
abbrev AreReads : List RawRead → List Logged → Type 0
AreReads rs ls = map (λ (x : Logged). x.read) ls ≡ map exact_read rs

-- a logged read is its session with its read
one_logged : (l : Logged) (r : RawRead) → l.read ≡ exact_read r → of_read l.session (exact_read r) ≡ l
one_logged l r e = ap (of_read l.session) (sym e)

-- the logged reads in the list that `marks` makes of a pass are the pass's log
logged_are : (ms : List Moment) (rs : List RawRead) (ls : List Logged) → WereTrue ms rs → AreReads rs ls →
    map logged_of (marks ms rs ls) ≡ ls
unfolding marks
logged_are [] [] [] h e = refl
logged_are [] [] (l ∷ ls) h e = cc
logged_are [] (r ∷ rs) ls h e = absurd h
logged_are (m ∷ ms) [] ls h e = absurd h
logged_are (m ∷ ms) (r ∷ rs) [] h e = cc
logged_are (m ∷ ms) (r ∷ rs) (l ∷ ls) h e =
    let first : l.read ≡ exact_read r = cc in
    let rest : AreReads rs ls = cc in
    ap (λ (x : Logged). x ∷ map logged_of (marks ms rs ls)) (one_logged l r first)
    ∙ ap (λ xs. l ∷ xs) (logged_are ms rs ls h.1 rest)

-- a note's number stands in the list that `marks` makes of a pass as often as in the pass's notes
marked_are : (t : ℕ) (ms : List Moment) (rs : List RawRead) (ls : List Logged) → WereTrue ms rs → AreReads rs ls →
    marked t (marks ms rs ls) ≡ numbered t (notes ms rs)
unfolding marks
marked_are t [] rs ls h e = refl
marked_are t (m ∷ ms) [] ls h e = refl
marked_are t (m ∷ ms) (r ∷ rs) [] h e = cc
marked_are t (m ∷ ms) (r ∷ rs) (l ∷ ls) h e =
    let rest : AreReads rs ls = cc in
    ap (λ n. one_if (eqb m.0 t) + n) (marked_are t ms rs ls h.1 rest)

-- the note of each element of the list that `marks` makes of a pass is one of the pass's notes
mark_noted : (ms : List Moment) (rs : List RawRead) (ls : List Logged) (x : Mark) → Has (marks ms rs ls) x →
    Has (notes ms rs) (note_of x)
unfolding marks
mark_noted [] rs ls x h = absurd h
mark_noted (m ∷ ms) [] ls x h = absurd h
mark_noted (m ∷ ms) (r ∷ rs) [] x h = absurd h
mark_noted (m ∷ ms) (r ∷ rs) (l ∷ ls) x h =
    ⊎_elim
    (λ (e : record { number = m.0; words = m.1; session = l.session; read = r } ≡ x). inl (ap note_of e))
    (λ (q : Has (marks ms rs ls) x). inr (mark_noted ms rs ls x q)) h

-- each number is more than all behind it
abbrev Falls : List Mark → Type 0
Falls [] = Unit {0}
Falls (x ∷ xs) = AllByRecursion (λ (y : Mark). y.number < x.number) xs × Falls xs

-- where all times have numbers below n, so has the list that `marks` makes
below_first : (n : ℕ) (ms old : List Moment) (rs : List RawRead) (ls : List Logged) →
    Each (λ (m : Moment). m.0 < n) (ms ++ old) → AllByRecursion (λ (y : Mark). y.number < n) (marks ms rs ls)
unfolding marks
below_first n [] old rs ls e = tt
below_first n (m ∷ ms) old [] ls e = tt
below_first n (m ∷ ms) old (r ∷ rs) [] e = tt
below_first n (m ∷ ms) old (r ∷ rs) (l ∷ ls) e = (e.0, below_first n ms old rs ls e.1)

-- where each read of a pass is later than those before it, the numbers in the list that `marks` makes fall, as the
-- newest is first
marks_fall : (ms : List Moment) (rs : List RawRead) (ls : List Logged) → ComeAfter ms [] → Falls (marks ms rs ls)
unfolding marks
marks_fall [] rs ls c = tt
marks_fall (m ∷ ms) [] ls c = tt
marks_fall (m ∷ ms) (r ∷ rs) [] c = tt
marks_fall (m ∷ ms) (r ∷ rs) (l ∷ ls) c = (below_first m.0 ms [] rs ls c.0, marks_fall ms rs ls c.1)

-- ascending numbers ascend with one more at the end that is above all of them
ascends_push : (t : ℕ) (xs : List Mark) (x : Mark) → Ascends t xs → t ≤ x.number →
    AllByRecursion (λ (y : Mark). y.number < x.number) xs → Ascends t (xs ++ x ∷ [])
ascends_push t [] x a l b = (l, tt)
ascends_push t (y ∷ xs) x a l b =
    let below = b.0 in (a.0, ascends_push (y.number + 1) xs x a.1 (omega arith) b.1)

-- falling numbers, in reverse, ascend from 0
ascends_back : (xs : List Mark) → Falls xs → Ascends 0 (reverse xs)
ascends_back [] f = tt
ascends_back (x ∷ xs) f =
    subst (Ascends 0) (sym (reverse_first x xs))
    (ascends_push 0 (reverse xs) x (ascends_back xs f.1) (omega arith)
    (all_reverse (λ (y : Mark). y.number < x.number) xs f.0))

-- one more element at the end of a list adds 1 to how often its number is in the list
marked_push : (t : ℕ) (xs : List Mark) (x : Mark) →
    marked t (xs ++ x ∷ []) ≡ one_if (eqb x.number t) + marked t xs
marked_push t [] x = refl
marked_push t (y ∷ xs) x = let h = marked_push t xs x in omega arith

-- a number stands in a reversed list as often as in the list
marked_back : (t : ℕ) (xs : List Mark) → marked t (reverse xs) ≡ marked t xs
marked_back t [] = refl
marked_back t (x ∷ xs) =
    ap (marked t) (reverse_first x xs) ∙ marked_push t (reverse xs) x
    ∙ ap (λ n. one_if (eqb x.number t) + n) (marked_back t xs)

-- ---- what is supposed was so

-- a read that is exactly a count of c is the raw read of the count c
count_back : (r : RawRead) (c : ℕ) → exact_read r ≡ read.Count c → r ≡ Count c
count_back (Count d) c e = let z : d ≡ c = cc in ap Count z
count_back (Open k) c e = cc
count_back (See k words) c e = cc
count_back (Claim k) c e = cc
count_back (Lost d) c e = cc
count_back (Done k words) c e = cc

-- a read that is exactly a claim of k is the raw claim of k
claim_back : (r : RawRead) (k : ℕ) → exact_read r ≡ read.Claim k → r ≡ Claim k
claim_back (Count d) k e = cc
claim_back (Open j) k e = cc
claim_back (See j words) k e = cc
claim_back (Claim j) k e = let z : j ≡ k = cc in ap Claim z
claim_back (Lost d) k e = cc
claim_back (Done j words) k e = cc

module _ (places : ℕ) (all : List Mark) (so : (x : Mark) → Has all x → IsTrueOf x.words x.read)
    (grow : (x y : Mark) → Has all x → Has all y → x.number ≤ y.number → count x.words ≤ count y.words) where
  module _ (made : List Mark) (x : Mark) (here : Has all x) (inside : (y : Mark) → Has made y → Has all y)
      (before : (y : Mark) → Has made y → y.number < x.number) where
    -- where a note made before counted c, each place below c is below the count of the note's words
    counted_before : (other c k : ℕ) → Contains (map logged_of made) (of_read other (read.Count c)) → k < c →
        k < count x.words
    counted_before other c k there l =
        let y = contains_map logged_of made (of_read other (read.Count c)) there in
        let is : y.0.read ≡ Count c = count_back y.0.read c (ap (λ (z : Logged). z.read) y.2) in
        let was : count y.0.words ≡ c = subst (IsTrueOf y.0.words) is (so y.0 (inside y.0 y.1)) in
        let early = before y.0 y.1 in
        let more = grow y.0 x (inside y.0 y.1) here (omega arith) in omega arith

    -- where a read rests on the log of notes made before, it is founded on all notes
    founded_one : (r : RawRead) → Supposes places (map logged_of made) x.session (exact_read r) → IsFounded places all x r
    founded_one (Count c) s = tt
    founded_one (Open k) s = counted_before s.0 s.1 k s.2 s.3
    founded_one (See k words) s = tt
    founded_one (Claim k) s = s
    founded_one (Lost c) s = tt
    founded_one (Done k words) s =
        let y = contains_map logged_of made (of_read x.session (read.Claim k)) s in (
          y.0,
          inside y.0 y.1,
          ap (λ (z : Logged). z.session) y.2,
          claim_back y.0.read k (ap (λ (z : Logged). z.read) y.2),
          before y.0 y.1,
        )

  -- where reads rest each on those before it, each of them is founded on all notes
  founded_all : (t : ℕ) (made xs : List Mark) → Ascends t xs → ((y : Mark) → Has made y → Has all y) →
      ((y : Mark) → Has xs y → Has all y) → ((y : Mark) → Has made y → y.number < t) →
      AreFounded places (map logged_of made) (map logged_of xs) →
      AllByRecursion (λ (x : Mark). IsFounded places all x x.read) xs
  founded_all t made [] a inside own before f = tt
  founded_all t made (x ∷ xs) a inside own before f =
      let first = a.0 in (
        founded_one made x (own x (inl refl)) inside (λ y m. (let l = before y m in omega arith)) x.read f.0,
        founded_all (x.number + 1) (x ∷ made) xs a.1
            (λ y m. ⊎_elim (λ (e : x ≡ y). own y (inl e)) (λ (q : Has made y). inside y q) m)
            (λ y m. own y (inr m))
            (λ y m. ⊎_elim (λ (e : x ≡ y). let n : x.number ≡ y.number = ap (λ (z : Mark). z.number) e in omega arith)
            (λ (q : Has made y). let l = before y q in omega arith) m)
            f.1,
      )

-- ---- all passes

-- a number stands in two lists of notes together as often as in one and in the other
numbered_push : (t : ℕ) (xs ys : List Note) → numbered t (xs ++ ys) ≡ numbered t xs + numbered t ys
numbered_push t [] ys = omega arith
numbered_push t (x ∷ xs) ys = let h = numbered_push t xs ys in omega arith

-- a number stands in the notes of all passes as often as in each, added up
numbered_all : (t : ℕ) (passes : List Known) (f : ℕ → ℕ) →
    ((i : ℕ) (d : Known) → i < length passes → f i ≡ numbered t (notes_of (get_or passes i d))) →
    numbered t (flat_map notes_of passes) ≡ sum_of (length passes) f
numbered_all t [] f h = refl
numbered_all t (p ∷ passes) f h =
    let first = h 0 p (omega arith) in
    let rest = numbered_all t passes (λ i. f (suc i)) (λ i d l. h (suc i) d (omega arith)) in
    let both = numbered_push t (notes_of p) (flat_map notes_of passes) in omega arith

-- a worker's part of a list, as logged reads, is the worker's part of the logged reads
filter_logged : (workers i : ℕ) (xs : List Mark) →
    log_of_worker workers i (map logged_of xs) ≡ map logged_of (part workers i xs)
filter_logged workers i [] = refl
filter_logged workers i (x ∷ xs) =
    ap (λ ls. cond (nat_eq (x.session % workers) i) (logged_of x ∷ ls) ls) (filter_logged workers i xs)
    ∙ by (nat_eq (x.session % workers) i)
  where
    by : (b : Bool) →
        cond b (logged_of x ∷ map logged_of (part workers i xs)) (map logged_of (part workers i xs))
        ≡ map logged_of (cond b (x ∷ part workers i xs) (part workers i xs))
    by true = refl
    by false = refl

-- where each element of xs is in ys, what xs has with or without x is in ys with x
part_has : (xs ys : List Mark) (x y : Mark) (b : Bool) → (Has xs y → Has ys y) → Has (cond b (x ∷ xs) xs) y →
    Has (x ∷ ys) y
part_has xs ys x y true more h = ⊎_elim (λ (e : x ≡ y). inl e) (λ (m : Has xs y). inr (more m)) h
part_has xs ys x y false more h = inr (more h)

-- an element of a worker's part of a list is an element of the list
has_part : (workers i : ℕ) (xs : List Mark) (y : Mark) → Has (part workers i xs) y → Has xs y
has_part workers i [] y h = absurd h
has_part workers i (x ∷ xs) y h =
    part_has (part workers i xs) xs x y (nat_eq (x.session % workers) i) (has_part workers i xs y) h

module _ (places : ℕ) (passes : List Known) (d : Known) (logs : ℕ → List Logged) (some : 0 < length passes)
    (are : (i : ℕ) (e : Known) → i < length passes → IsLogOf places (length passes) i (get_or passes i e) (logs i))
    (one : IsOneLog (flat_map notes_of passes))
    (backed : AreBacked (flat_map (λ (p : Known). reads_of p.view) passes)) where
  -- the number of passes
  abbrev n : ℕ
  n = length passes

  -- pass number i
  abbrev pass : ℕ → Known
  pass i = get_or passes i d

  -- the notes of pass i with the sessions of its log, the newest first
  abbrev newest : ℕ → List Mark
  newest i = marks (pass i).moments (pass i).view.reads (reverse (logs i))

  -- the notes of pass i with the sessions of its log, the first one first
  abbrev had : ℕ → List Mark
  had i = reverse (newest i)

  -- the reads of all passes, one pass after the other
  abbrev reads_all : List ExactRead
  reads_all = flat_map (λ (p : Known). reads_of p.view) passes

  module _ (i : ℕ) (l : i < n) where
    -- the log of worker i is that of pass i
    abbrev log_is : IsLogOf places n i (pass i) (logs i)
    log_is = are i d l

    -- the reads of each pass are those of its log
    reads_are : AreReads (pass i).view.reads (reverse (logs i))
    reads_are =
        map_reverse (λ (x : Logged). x.read) (logs i)
        ∙ ap reverse log_is.reads
        ∙ sym (map_reverse exact_read (reverse (pass i).view.reads))
        ∙ ap (map exact_read) (reverse-reverse (pass i).view.reads)

    -- the notes that a worker had, as logged reads, are its log
    had_logged : map logged_of (had i) ≡ logs i
    had_logged =
        map_reverse logged_of (newest i)
        ∙ ap reverse (logged_are (pass i).moments (pass i).view.reads (reverse (logs i)) log_is.were_true reads_are)
        ∙ reverse-reverse (logs i)

    -- the numbers of the notes that a worker had ascend
    had_ascends : Ascends 0 (had i)
    had_ascends =
        ascends_back (newest i) (marks_fall (pass i).moments (pass i).view.reads (reverse (logs i)) log_is.later)

    -- each note that a worker had is of a session of this worker
    had_own : AllByRecursion (λ (x : Mark). x.session % n ≡ i) (had i)
    had_own =
        all_unmap logged_of (IsOfWorker n i) (had i)
        (subst (AllByRecursion (IsOfWorker n i)) (sym had_logged) log_is.own)

    -- a number stands in what a worker had as often as in the notes of its pass
    had_marked : (t : ℕ) → marked t (had i) ≡ numbered t (notes_of (pass i))
    had_marked t =
        marked_back t (newest i)
        ∙ marked_are t (pass i).moments (pass i).view.reads (reverse (logs i)) log_is.were_true reads_are

    -- each note that worker i had is a note of some pass
    in_log : (x : Mark) → Has (had i) x → Has (flat_map notes_of passes) (note_of x)
    in_log x h =
        has_flat notes_of passes i d (note_of x) l
        (mark_noted (pass i).moments (pass i).view.reads (reverse (logs i)) x (has_reverse (newest i) x h))

    -- the read of each note that worker i had is among the reads of all passes
    in_reads : (x : Mark) → Has (had i) x → Contains reads_all (exact_read x.read)
    in_reads x h =
        contains_flat (λ (p : Known). reads_of p.view) passes i d (exact_read x.read) l
        (subst (λ rs. Contains rs (exact_read x.read))
        (ap (map (λ (z : Logged). z.read)) had_logged ∙ log_is.reads)
        (subst (λ rs. Contains rs (exact_read x.read)) (twice (had i))
        (has_map (λ (z : Mark). exact_read z.read) (had i) x h)))
      where
        twice : (xs : List Mark) →
            map (λ (z : Mark). exact_read z.read) xs ≡ map (λ (z : Logged). z.read) (map logged_of xs)
        twice [] = refl
        twice (y ∷ xs) = ap (λ rs. exact_read y.read ∷ rs) (twice xs)

  -- a number stands in the notes of all passes as often as in what each worker had, added up
  sums : (t : ℕ) → numbered t (flat_map notes_of passes) ≡ sum_of n (λ i. marked t (had i))
  sums t = numbered_all t passes (λ i. marked t (had i)) (λ i e l. had_marked i l t ∙ ap (numbered t) (same i e l))
    where
      same : (i : ℕ) (e : Known) → i < length passes → notes_of (pass i) ≡ notes_of (get_or passes i e)
      same i e l = ap notes_of (any_default passes i d e l)
        where
          any_default : (ps : List Known) (j : ℕ) (a b : Known) → j < length ps → get_or ps j a ≡ get_or ps j b
          any_default [] j a b k = absurd (omega arith)
          any_default (p ∷ ps) zero a b k = refl
          any_default (p ∷ ps) (suc j) a b k = any_default ps j a b (omega arith)

  -- what all workers had can be merged into one list that counts up from 0
  all_merged : Merged n 0 had
  all_merged =
      merged n one.size 0 had had_ascends had_own (λ s a b. sym (sums s) ∙ one.once s (omega arith))
      (λ s a. sym (sums s) ∙ one.no_later s (omega arith))

  -- the notes of all passes with their sessions, in the order of their numbers
  abbrev all : List Mark
  all = all_merged.all

  -- which worker made a note
  abbrev IsMade : Mark → Type 0
  IsMade x = (i : ℕ) × (i < n) × Has (had i) x

  -- each note of the merged list is one that some worker had
  made_by : (x : Mark) → Has all x → IsMade x
  made_by x h =
      of_all IsMade all x
      (holds_of_all n IsMade all (λ m. omega arith)
      (λ i l. subst (AllByRecursion IsMade) (sym (all_merged.parts i l)) (all_of IsMade (had i) (λ y m. (i, l, m))))) h

  -- each note that a worker had is in the merged list
  in_all : (i : ℕ) → i < n → (x : Mark) → Has (had i) x → Has all x
  in_all i l x h = has_part n i all x (subst (λ xs. Has xs x) (sym (all_merged.parts i l)) h)

  -- each note of the merged list is a note of some pass
  noted : (x : Mark) → Has all x → Has (flat_map notes_of passes) (note_of x)
  noted x h = let m = made_by x h in in_log m.0 m.1 x m.2

  -- the read of each note of the merged list was true of the words at its time
  was_so : (x : Mark) → Has all x → IsTrueOf x.words x.read
  was_so x h = one.so (note_of x) (noted x h)

  -- the read of each note of the merged list is founded on all notes
  founded : (x : Mark) → Has all x → IsFounded places all x x.read
  founded x h =
      let m = made_by x h in
      of_all (λ (y : Mark). IsFounded places all y y.read) (had m.0) x
      (founded_all places all was_so
      (λ y z a b l. (one.ordered (note_of y) (note_of z) (noted y a) (noted z b) l).counted)
      0 [] (had m.0) (had_ascends m.0 m.1) (λ y q. absurd q) (in_all m.0 m.1) (λ y q. absurd q)
      (subst (AreFounded places []) (sym (had_logged m.0 m.1)) (are m.0 d m.1).founded)) m.2

  -- the logs of all workers have one order in which the places answer them
  have_order : HaveOneOrder places n logs
  have_order =
      let r = replayed places reads_all backed all (λ x h e. one.first (note_of x) (noted x h) e)
      (λ x y a b e. one.next (note_of x) (note_of y) (noted x a) (noted y b) e) was_so founded
      (λ x h. (let m = made_by x h in in_reads m.0 m.1 x m.2)) all_merged.counts in
      record {
        log = map logged_of all;
        last = r.0;
        played = r.1;
        parts = λ i l. filter_logged n i all ∙ ap (map logged_of) (all_merged.parts i l) ∙ had_logged i l;
      }

-- whole logs of all workers, whose notes are one log and whose reads are backed, have one order
pub all_played : (places : ℕ) (passes : List Known) (logs : ℕ → List Logged) →
    ((i : ℕ) (d : Known) → i < length passes → IsLogOf places (length passes) i (get_or passes i d) (logs i)) →
    IsOneLog (flat_map notes_of passes) → AreBacked (flat_map (λ (p : Known). reads_of p.view) passes) →
    HaveOneOrder places (length passes) logs
all_played places [] logs are one backed =
    record { log = []; last = []; played = refl; parts = λ i l. absurd (omega arith) }
all_played places (p ∷ passes) logs are one backed =
    have_order places (p ∷ passes) p logs (omega arith) are one backed
