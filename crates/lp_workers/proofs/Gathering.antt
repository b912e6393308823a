-- Passes that are cut off a first one, and met into it again.
--
-- `cut_is_fresh`: a pass that was cut off one of the board's has read and noted nothing.
-- `gathered_notes`: when the last pass of a list is met into a first one, no note is lost and none is added.
-- `one_log`: where the first pass has read nothing, the notes of all other passes are one log if those of the pass
--   are that all were met into.
-- `map_reverse`: mapping a function over a reversed list gives the reversed list of its values.
-- `split_next`: an element that is moved from the end of a list to the ones set aside leaves the whole as it was.
-- `split_all`: when all elements are set aside, they are the whole list in reverse.
-- `none_left`: a list of length 0 is empty.
use Rattle.std.proofs.Common.{◌≡◌, ℕ, List, [], ◌∷◌, ◌++◌, length, map, reverse}
use Rattle.std.proofs.Common.{refl, ap, sym, ◌∙◌, subst, arith, append-nil}
use Rattle.std.specs.List.Sorted.{IsPermutation}
use Rattle.std.proofs.lemmas.Grind.{flat_map-append}
use Rattle.std.proofs.lemmas.List.{append_assoc, map-append, reverse-append}
use Rattle.std.proofs.lemmas.List.Sorted.{IsPermutation-trans, IsPermutation-append_right}
use Rattle.std.proofs.lemmas.List.Sorted.{IsPermutation-append_comm}
use Rattle.basis_board.specs.declared.board.Board.{Board}
use Rattle.basis_board.specs.declared.seats.View.{View}
use Rattle.basis_board.specs.Id.{id_of}
use Rattle.basis_board.specs.Known.{Known, notes_of}
use Rattle.basis_board.specs.Moments.{Moment, notes, WereTrue, IsOneLog}
use Rattle.basis_board.proofs.Timing.{notes_join}
use Rattle.basis_board.specs.Rule.{Consistent}
use Rattle.basis_board.specs.Board.{cut_right, met}
use Rattle.basis_board.specs.PassReads.{reads_of}
use Rattle.basis_board.proofs.ReadTying.{reads_more}
use Rattle.spec_board.specs.Reads.{ExactRead}
use Rattle.lp_workers.specs.Passes.{IsFresh, notes_of_all, reads_of_all}

-- ---- a pass as it is cut off

pub cut_is_fresh : (board : Board) (pass : Known) (v : View) → pass.board ≡ id_of board → pass.view ≡ cut_right v →
    v.places ≡ board.places → Consistent pass.view → pass.moments ≡ [] → IsFresh board pass
cut_is_fresh board pass v of_board view places consistent unnoted = record {
  of_board = of_board;
  places = ap (λ (x : View). x.places) view ∙ places;
  share = ap (λ (x : View). x.share) view;
  unread = ap (λ (x : View). x.reads) view;
  unnoted = unnoted;
  consistent = consistent;
}

-- ---- one more pass is met

-- two passes that are met into one have the reads of the first and then those of the second
met_reads : (v w : View) → reads_of (met v w) ≡ reads_of v ++ reads_of w
met_reads v w = reads_more w.reads v.reads

module _ (all : List ExactRead) (first next : View) (rest : List Known) (pass : Known)
    (meets : next ≡ met first pass.view) where
  -- the reads of the first pass and of the passes, with those of the last pass put behind those of the others
  before : reads_of first ++ reads_of_all (rest ++ pass ∷ [])
      ≡ reads_of first ++ (reads_of_all rest ++ reads_of pass.view)
  before =
      ap (λ rs. reads_of first ++ rs)
      (flat_map-append (λ (p : Known). reads_of p.view) rest (pass ∷ [])
      ∙ ap (λ rs. reads_of_all rest ++ rs) (append-nil (reads_of pass.view)))

  -- with the last pass merged into the first, the first one's reads and then those of the others are the reads of both
  -- and of the others
  after : reads_of first ++ (reads_of pass.view ++ reads_of_all rest) ≡ reads_of next ++ reads_of_all rest
  after =
      sym (append_assoc (reads_of first) (reads_of pass.view) (reads_of_all rest))
      ∙ ap (λ rs. rs ++ reads_of_all rest) (sym (met_reads first pass.view) ∙ ap reads_of (sym meets))

  -- where the last pass of a list is merged into the first one, the reads of all are the same in some order
  pub gathered_more : (passes : List Known) → passes ≡ rest ++ pass ∷ [] →
      IsPermutation all (reads_of first ++ reads_of_all passes) → IsPermutation all (reads_of next ++ reads_of_all rest)
  gathered_more passes split so =
      IsPermutation-trans all (reads_of first ++ (reads_of_all rest ++ reads_of pass.view))
      (reads_of next ++ reads_of_all rest)
      (subst (IsPermutation all) (ap (λ ps. reads_of first ++ reads_of_all ps) split ∙ before) so)
      (subst (IsPermutation (reads_of first ++ (reads_of_all rest ++ reads_of pass.view))) after
      (IsPermutation-append_right (reads_of first) (reads_of_all rest ++ reads_of pass.view)
      (reads_of pass.view ++ reads_of_all rest)
      (IsPermutation-append_comm (reads_of_all rest) (reads_of pass.view))))

-- two passes that are met into one have the notes of the second in front of those of the first
met_notes : (first next pass : Known) → next.view ≡ met first.view pass.view →
    next.moments ≡ pass.moments ++ first.moments → WereTrue pass.moments pass.view.reads →
    notes_of next ≡ notes_of pass ++ notes_of first
met_notes first next pass view moments so =
    ap (λ (x : View). notes next.moments x.reads) view
    ∙ ap (λ ms. notes ms (pass.view.reads ++ first.view.reads)) moments
    ∙ notes_join pass.moments first.moments pass.view.reads first.view.reads so

-- what the notes of the passes that are left and of the one that they are met into come to
pub gathered_notes : (first next : Known) (rest : List Known) (pass : Known) → next.view ≡ met first.view pass.view →
    next.moments ≡ pass.moments ++ first.moments → WereTrue pass.moments pass.view.reads → (passes : List Known) →
    passes ≡ rest ++ pass ∷ [] → notes_of_all rest ++ notes_of next ≡ notes_of_all passes ++ notes_of first
gathered_notes first next rest pass view moments so passes split =
    ap (λ ns. notes_of_all rest ++ ns) (met_notes first next pass view moments so)
    ∙ sym (append_assoc (notes_of_all rest) (notes_of pass) (notes_of first))
    ∙ ap (λ ns. ns ++ notes_of first)
    (ap (λ ns. notes_of_all rest ++ ns) (sym (append-nil (notes_of pass)))
    ∙ sym (flat_map-append notes_of rest (pass ∷ [])) ∙ ap notes_of_all (sym split))

-- a pass without reads has no notes
no_notes : (ms : List Moment) → notes ms [] ≡ []
no_notes [] = refl
no_notes (m ∷ ms) = refl

-- the first pass has read nothing, so all notes are those of the others
pub one_log : (first last : Known) (passes : List Known) → first.view.reads ≡ [] →
    notes_of last ≡ notes_of_all passes ++ notes_of first → IsOneLog (notes_of last) → IsOneLog (notes_of_all passes)
one_log first last passes fresh are log =
    subst IsOneLog (are ∙ ap (λ ns. notes_of_all passes ++ ns) (ap (notes first.moments) fresh ∙ no_notes first.moments)
    ∙ append-nil (notes_of_all passes)) log

-- ---- lists that are taken from the end

-- a list with a first element, put in reverse, ends with this element
last_first : {X : Type 0} (x : X) (xs : List X) → reverse (x ∷ xs) ≡ reverse xs ++ x ∷ []
last_first x xs = reverse-append (x ∷ []) xs

pub map_reverse : {X Y : Type 0} (f : X → Y) (xs : List X) → map f (reverse xs) ≡ reverse (map f xs)
map_reverse f [] = refl
map_reverse f (x ∷ xs) =
    ap (map f) (last_first x xs) ∙ map-append f (reverse xs) (x ∷ [])
    ∙ ap (λ ys. ys ++ f x ∷ []) (map_reverse f xs)
    ∙ sym (last_first (f x) (map f xs))

-- the list `all` is what is left of it and then, in reverse, what was put aside, of which the last one is the first
abbrev pub AreSplit : {X : Type 0} → List X → List X → List X → Type 0
AreSplit all left aside = left ++ reverse aside ≡ all

pub split_next : {X : Type 0} (all left rest aside : List X) (x : X) → AreSplit all left aside →
    left ≡ rest ++ x ∷ [] → AreSplit all rest (aside ++ x ∷ [])
split_next all left rest aside x so split =
    ap (λ ys. rest ++ ys) (reverse-append aside (x ∷ []))
    ∙ sym (append_assoc rest (x ∷ []) (reverse aside))
    ∙ ap (λ ys. ys ++ reverse aside) (sym split)
    ∙ so

pub split_all : {X : Type 0} (all left aside : List X) → AreSplit all left aside → left ≡ [] → reverse aside ≡ all
split_all all left aside so none = sym (ap (λ ys. ys ++ reverse aside) none) ∙ so

pub none_left : {X : Type 0} (xs : List X) (n : ℕ) → n ≡ length xs → n ≡ 0 → xs ≡ []
none_left [] n same none = refl
none_left (x ∷ xs) n same none = absurd (omega (arith, same, none))
