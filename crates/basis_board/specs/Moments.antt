-- When each read of a pass was noted, and what the words of the board were then.
use Rattle.std.specs.Prelude.{◌≡◌, ◌≢◌, ℕ, ◌+◌, ◌<◌, ◌≤◌, ◌==◌, List, [], ◌∷◌, ◌++◌, length, map, slice_index}
use Rattle.std.specs.Prelude.{slice_set}
use mathlib.Core.Option.{some}
use lib.ListN.{get_elem?}
use Rattle.atomic_table.specs.Table.{State, Me, Step, Act, stepped, Allows}
use Rattle.basis_board.specs.declared.seats.View.{View}
use Rattle.basis_board.specs.declared.seats.Sight.{Sight}
use Rattle.basis_board.specs.declared.seats.RawRead.{RawRead}
use Rattle.basis_board.specs.declared.seats.RawRead.TheVariants.{Count, Open, See, Claim, Lost, Done}
use Rattle.basis_board.specs.Board.{Each, Has, total, one_if, count, done, first_view, cut_left, cut_right, met, spent}
use Rattle.basis_board.specs.Rule.{Kept, learned}

-- when a read was noted: its number among the notes of all passes, from 0 on, and the board's words after that step
abbrev pub Moment : Type 0
Moment = ℕ × List ℕ

-- a read of the board, its number among all reads, and the board's words when it was noted
pub record Note : Type 0 where
  pub number : ℕ
  pub words : List ℕ
  pub read : RawRead

-- the notes of these reads at these times, read by read, as long as there are both
abbrev pub notes : List Moment → List RawRead → List Note
notes [] rs = []
notes (m ∷ ms) [] = []
notes (m ∷ ms) (r ∷ rs) = record { number = m.0; words = m.1; read = r } ∷ notes ms rs

-- the notes of a pass, the newest first
abbrev pub notes_in : Sight → List Note
notes_in v = notes v.moments v.view.reads

-- what a pass knows, with the times at which it noted its reads
abbrev pub sight : View → List Moment → Sight
sight v ms = record { view = v; moments = ms }

-- ---- what words say of a read

-- What a read says is true of the board's words ws: as many places are claimed as it counts, or k + 1 after a claim of
-- place k; and the place that it names is done or not. Of payload words nothing is asked.
abbrev pub IsTrueOf : List ℕ → RawRead → Type 0
IsTrueOf ws (Count c) = count ws ≡ c
IsTrueOf ws (Open k) = done ws k ≡ 0
IsTrueOf ws (See k xs) = done ws k ≡ 1
IsTrueOf ws (Claim k) = count ws ≡ k + 1
IsTrueOf ws (Lost c) = count ws ≡ c
IsTrueOf ws (Done k xs) = done ws k ≡ 1

-- each read has its time, and was true of the board's words at that time
abbrev pub WereTrue : List Moment → List RawRead → Type 0
WereTrue [] [] = Unit {0}
WereTrue [] (r ∷ rs) = ⊥
WereTrue (m ∷ ms) [] = ⊥
WereTrue (m ∷ ms) (r ∷ rs) = IsTrueOf m.1 r × WereTrue ms rs

-- the words us may be later than ws: the count is not less, and each place that was done still is
pub record Grows (ws us : List ℕ) : Type 0 where
  pub counted : count ws ≤ count us
  pub dones : (k : ℕ) → done ws k ≤ done us k

-- in ws and in us as many places are claimed, and the same ones are done; of payloads nothing is asked
pub record IsLike (ws us : List ℕ) : Type 0 where
  pub counted : count us ≡ count ws
  pub dones : (k : ℕ) → done us k ≡ done ws k

-- from ws to us place k is claimed, one place more than before, and the same places are done; of payloads nothing is
-- asked
pub record ClaimsPlace (k : ℕ) (ws us : List ℕ) : Type 0 where
  pub before : count ws ≡ k
  pub after : count us ≡ k + 1
  pub dones : (j : ℕ) → done us j ≡ done ws j

-- from ws to us place k becomes done, each other place is done or not as before, and as many are claimed; of payloads
-- nothing is asked
pub record FinishesPlace (k : ℕ) (ws us : List ℕ) : Type 0 where
  pub counted : count us ≡ count ws
  pub before : done ws k ≡ 0
  pub after : done us k ≡ 1
  pub others : (j : ℕ) → j ≢ k → done us j ≡ done ws j

-- How a read or write changed the board's words: a claim claims its place, and a publication makes its place done. Any
-- other one leaves them alike.
abbrev pub Turns : RawRead → List ℕ → List ℕ → Type 0
Turns (Claim k) ws us = ClaimsPlace k ws us
Turns (Done k xs) ws us = FinishesPlace k ws us
Turns other ws us = IsLike ws us

-- ---- the notes of all passes

-- how many of these moments have number t: at most one while the rule of moments holds
abbrev pub stamped_in : ℕ → List Moment → ℕ
stamped_in t ms = total (λ m. one_if (m.0 == t)) ms

-- how many moments with number t a pass noted: at most one while the rule of moments holds
abbrev pub stamped : ℕ → Sight → ℕ
stamped t v = stamped_in t v.moments

-- some pass has noted a read at this moment
abbrev pub IsNoted : List Sight → Moment → Type 0
IsNoted sights m = (j : ℕ) × (v : Sight) × (get_elem? sights j ≡ some v) × Has v.moments m

-- some pass has this note
abbrev pub HasNote : List Sight → Note → Type 0
HasNote sights n = (j : ℕ) × (v : Sight) × (get_elem? sights j ≡ some v) × Has (notes_in v) n

-- The rule of moments: the notes of all passes are numbered from 0 on, and each number is one pass's. From the words of
-- each to those of the next, nothing befell the places but what the next one notes, and the words of the last one are
-- the words now, as far as the count and the done words go. Before the first one no place was claimed.
pub record Timed (ws : List ℕ) (sights : List Sight) : Type 0 where
  pub now : ℕ
  pub once : (t : ℕ) → t < now → total (stamped t) sights ≡ 1
  pub no_later : (t : ℕ) → now ≤ t → total (stamped t) sights ≡ 0
  pub ordered : (m n : Moment) → IsNoted sights m → IsNoted sights n → m.0 ≤ n.0 → Grows m.1 n.1
  pub past : (m : Moment) → IsNoted sights m → Grows m.1 ws
  pub latest : (m : Moment) → IsNoted sights m → m.0 + 1 ≡ now → Grows ws m.1
  pub unnoted : now ≡ 0 → Grows ws []
  pub first : (n : Note) → HasNote sights n → n.number ≡ 0 → Turns n.read [] n.words
  pub next : (m : Moment) (n : Note) → IsNoted sights m → HasNote sights n → n.number ≡ m.0 + 1 →
      Turns n.read m.1 n.words
  pub were_true : (j : ℕ) (v : Sight) → get_elem? sights j ≡ some v → WereTrue v.moments v.view.reads

-- the state of a board without the times at which reads were noted
abbrev pub viewed : State ℕ Sight → State ℕ View
viewed s = record { words = s.words; homes = s.homes; views = map (λ v. v.view) s.views }

-- the whole rule of a board: `Kept` of its words and passes, and `Timed` of the times at which reads were noted
pub record KeptInTime (places : ℕ) (s : State ℕ Sight) : Type 0 where
  pub kept : Kept places (viewed s)
  pub timed : Timed s.words s.views

-- ---- what a step, and a call, does to the moments of a pass

-- each time of the first list is later than all times behind it there and than all of the second list, which is of old
-- ones
abbrev pub ComeAfter : List Moment → List Moment → Type 0
ComeAfter [] old = Unit {0}
ComeAfter (m ∷ ms) old = Each (λ n. n.0 < m.0) (ms ++ old) × ComeAfter ms old

-- a pass noted further reads, later than its old ones, which stay
pub record NotesMore (old new : List Moment) : Type 0 where
  pub more : List Moment
  pub all : new ≡ more ++ old
  pub later : ComeAfter more old

-- From v to w a pass only noted further reads, later than its old ones. Each read of w was true of the board's words
-- when it was noted.
pub record Later (v w : Sight) : Type 0 where
  pub notes : NotesMore v.moments w.moments
  pub were_true : WereTrue w.moments w.view.reads

-- what a seat's pass knows and the slots that it holds, without the times at which reads were noted
abbrev pub seen_of : Me ℕ Sight → Me ℕ View
seen_of m = (m.0.view, m.1)

-- a kind of step of which `told` says what the pass knows before and after it, without times; besides, the pass only
-- notes further reads, and each of its reads was true when it was noted
abbrev pub in_time : (Step ℕ → Me ℕ View → ℕ → Me ℕ View → Type 0) → Step ℕ → Me ℕ Sight → ℕ → Me ℕ Sight → Type 0
in_time told st m n m' = told st (seen_of m) n (seen_of m') × Later m.0 m'.0

-- ---- the notes of all passes, when one has them all

-- how many of these notes have number t: one or none where they are one log
abbrev pub numbered : ℕ → List Note → ℕ
numbered t all = total (λ n. one_if (n.number == t)) all

-- Each number is there once, and each read was so when it was noted. From the words of each to those of the next,
-- nothing befell the places but what the next one notes, and before the first one no place was claimed. So a count is
-- the number of claims before it.
pub record IsOneLog (all : List Note) : Type 0 where
  pub size : ℕ
  pub once : (t : ℕ) → t < size → numbered t all ≡ 1
  pub no_later : (t : ℕ) → size ≤ t → numbered t all ≡ 0
  pub ordered : (m n : Note) → Has all m → Has all n → m.number ≤ n.number → Grows m.words n.words
  pub first : (n : Note) → Has all n → n.number ≡ 0 → Turns n.read [] n.words
  pub next : (m n : Note) → Has all m → Has all n → n.number ≡ m.number + 1 → Turns n.read m.words n.words
  pub so : (n : Note) → Has all n → IsTrueOf n.words n.read

-- the load after a meeting, which notes nothing; where the pass then has the whole right to the board,
-- its notes are one log
abbrev pub learned_in_time : Step ℕ → Me ℕ Sight → ℕ → Me ℕ Sight → Type 0
learned_in_time st m n m' =
    learned st (seen_of m) n (seen_of m') × (Later m.0 m'.0 × (m'.0.view.share ≡ 64 → IsOneLog (notes_in m'.0)))

-- ---- passes as they begin, are cut in two, and meet

-- what the only pass of a new board knows, with the times of its reads: none
abbrev pub first_sight : ℕ → Sight
first_sight places = sight (first_view places) []

-- what a pass knows after another was split off, with the times of its reads
abbrev pub left_sight : Sight → Sight
left_sight v = sight (cut_left v.view) v.moments

-- what a pass knows that was split off another, with the times of its reads: none
abbrev pub right_sight : Sight → Sight
right_sight v = sight (cut_right v.view) []

-- what a pass knows after another was merged into it, with the times of the reads of both
abbrev pub met_sight : Sight → Sight → Sight
met_sight v w = sight (met v.view w.view) (w.moments ++ v.moments)

-- what a pass knows after it was merged into another: nothing
abbrev pub spent_sight : Sight
spent_sight = sight spent []

-- ---- what no kind of step can do

-- the board's words at time m are no older than ws, and us is no older than these words
pub record IsBetween (ws us : List ℕ) (m : Moment) : Type 0 where
  pub after : Grows ws m.1
  pub before : Grows m.1 us

-- One seat takes one step, of whatever kind: it leaves the words us and notes what it will. If the rule held before and
-- holds after, what was noted was noted of words between those before the step and those after it.
abbrev pub NotesAreMadeThen : Type 0
NotesAreMadeThen =
    (ws us : List ℕ) (sights : List Sight) (id : ℕ) (v w : Sight) (made : List Moment) → Timed ws sights →
    get_elem? sights id ≡ some v → Timed us (slice_set sights id w) → w.moments ≡ made ++ v.moments →
    Each (IsBetween ws us) made

-- A step that leaves its word as it was, a load or a compare-exchange that fails, is of whatever kind. If the rule
-- holds before and after it, and it notes one read more, then what it notes is so of the words that it is taken at.
abbrev pub OnlyWhatIsSo : Type 0
OnlyWhatIsSo =
    (places i n id : ℕ) (s : State ℕ Sight) (v w : Sight) (slots : List (ℕ × ℕ)) (act : Act ℕ) (read : RawRead) →
    KeptInTime places s → get_elem? s.views id ≡ some v → n ≡ slice_index s.words i →
    KeptInTime places (stepped s i n id slots w act) → Later v w → w.view.reads ≡ read ∷ v.view.reads →
    IsTrueOf s.words read

-- A kind of load that notes one read more, by the value that it finds, is allowed only where that read is so in every
-- state in which the load may be taken. f is what the step makes of its word: a load and a compare-exchange that fails
-- leave it as it was.
abbrev pub AllowedNotesAreSo : Type 0
AllowedNotesAreSo =
    (places slots id i : ℕ) (me : Me ℕ Sight) (f : ℕ → ℕ) (read : ℕ → RawRead) →
    Allows (KeptInTime places) slots id me i f
    (λ n m. (m.0.view.reads ≡ read n ∷ me.0.view.reads) × Later me.0 m.0) →
    (s : State ℕ Sight) → KeptInTime places s → length s.homes ≡ slots → get_elem? s.views id ≡ some me.0 →
    slice_index s.words i < 18446744073709551616 → f (slice_index s.words i) ≡ slice_index s.words i →
    IsTrueOf s.words (read (slice_index s.words i))
