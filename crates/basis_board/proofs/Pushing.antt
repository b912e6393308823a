-- Reads one after the other: what holds of each of them, and of each two.
use Rattle.std.proofs.Common.{List, [], ◌∷◌, ◌++◌, map, sym, subst}
use Rattle.std.specs.Prelude.{reverse}
use Rattle.std.specs.List.{AllByRecursion}
use Rattle.spec_board.specs.Reads.{ExactRead}
use Rattle.spec_board.specs.Orders.{InPairs}
use Rattle.basis_board.specs.declared.seats.RawRead.{RawRead}
use Rattle.basis_board.specs.Board.{Each}
use Rattle.basis_board.specs.PassReads.{exact_read}
use Rattle.basis_board.proofs.ReadTying.{reads_more}

-- these reads, which stand newest first, put in order with the first one first, as the places' definitions have them
abbrev pub in_turn : List RawRead → List ExactRead
in_turn reads = map exact_read (reverse reads)

module _ {X : Type 0} where
  -- where P holds of each element of a list, and of x, it holds of each of the list with x behind it
  pub all_push : (P : X → Type 0) (xs : List X) (x : X) → AllByRecursion P xs → P x → AllByRecursion P (xs ++ x ∷ [])
  all_push P [] x h p = (p, tt)
  all_push P (y ∷ xs) x h p = (h.0, all_push P xs x h.1 p)

  -- what holds of each element of a list with x behind it holds of each element of the list, and of x
  all_pop : (P : X → Type 0) (xs : List X) (x : X) → AllByRecursion P (xs ++ x ∷ []) → AllByRecursion P xs × P x
  all_pop P [] x h = (tt, h.0)
  all_pop P (y ∷ xs) x h = let more = all_pop P xs x h.1 in ((h.0, more.0), more.1)

  -- where each two of a list are in relation R, and each of them is to x, each two of the list with x behind it are
  pairs_push : (R : X → X → Type 0) (xs : List X) (x : X) → InPairs R xs → AllByRecursion (λ y. R y x) xs →
      InPairs R (xs ++ x ∷ [])
  pairs_push R [] x h p = (tt, tt)
  pairs_push R (y ∷ xs) x h p = (all_push (R y) xs x h.0 p.0, pairs_push R xs x h.1 p.1)

-- ---- each

module _ (P : ExactRead → Type 0) where
  -- where P holds of each of some reads, and of one read more, it holds of each with that one, in their order
  pub all_more : (r : RawRead) (reads : List RawRead) → AllByRecursion P (in_turn reads) → P (exact_read r) →
      AllByRecursion P (in_turn (r ∷ reads))
  all_more r reads h p =
      subst (AllByRecursion P) (sym (reads_more (r ∷ []) reads)) (all_push P (in_turn reads) (exact_read r) h p)

  -- what `Each` says of reads, the newest first, holds of each of them in their order
  pub each_all : (reads : List RawRead) → Each (λ r. P (exact_read r)) reads → AllByRecursion P (in_turn reads)
  each_all [] e = tt
  each_all (r ∷ reads) e = all_more r reads (each_all reads e.1) e.0

  -- what holds of each read in their order is what `Each` says of them, the newest first
  pub all_each : (reads : List RawRead) → AllByRecursion P (in_turn reads) → Each (λ r. P (exact_read r)) reads
  all_each [] h = tt
  all_each (r ∷ reads) h =
      let last = all_pop P (in_turn reads) (exact_read r)
      (subst (AllByRecursion P) (reads_more (r ∷ []) reads) h) in
      (last.1, all_each reads last.0)

-- ---- each two

-- where each two of some reads are in relation R, and each of them is to a further read, each two are with that read
-- behind them
pub pairs_more : (R : ExactRead → ExactRead → Type 0) (r : RawRead) (reads : List RawRead) → InPairs R (in_turn reads) →
    Each (λ q. R (exact_read q) (exact_read r)) reads → InPairs R (in_turn (r ∷ reads))
pairs_more R r reads h e =
    subst (InPairs R) (sym (reads_more (r ∷ []) reads))
    (pairs_push R (in_turn reads) (exact_read r) h (each_all (λ q. R q (exact_read r)) reads e))
