-- All workers take their turns, and what their passes know together.
--
-- `written_back`: a list written over one of the same length takes its place.
-- `all_backed`: what passes read is backed if all of them were met into a first one that had read nothing, and that
--   then knows the whole board.
use Rattle.std.proofs.Common.{◌≡◌, ℕ, suc, List, [], ◌∷◌, ◌++◌, length, map, reverse, take, drop}
use Rattle.std.proofs.Common.{ap, sym, ◌∙◌, subst, arith, append-nil}
use Rattle.std.specs.List.{All, AllByRecursion}
use Rattle.std.specs.List.Sorted.{IsPermutation}
use Rattle.std.proofs.lemmas.List.{get_or-map, length-map, drop_all, take_all}
use Rattle.std.proofs.lemmas.List.Elements.{All-append, All-nil, All-from_recursion, recursion_from_All}
use Rattle.std.proofs.lemmas.List.Sorted.{All-permutation, IsPermutation-sym}
use Rattle.spec_board.specs.Orders.{AreBacked}
use Rattle.basis_board.specs.declared.board.Board.{Board}
use Rattle.basis_board.specs.declared.seats.View.{View}
use Rattle.basis_board.specs.Known.{Known}
use Rattle.basis_board.specs.Rule.{Consistent}
use Rattle.basis_board.specs.Orderly.{IsWhole}
use Rattle.basis_board.specs.PassReads.{exact_read, reads_of}
use Rattle.basis_board.proofs.WholePass.{whole_backed}
use Rattle.basis_board.proofs.AnyOrder.{any_order}
use Rattle.lp_workers.specs.declared.hiring.Worker.{Worker}
use Rattle.lp_workers.specs.Passes.{IsFresh, IsUsed, KnowsWhole, reads_of_all}
use Rattle.lp_workers.specs.Turns.{jobs_of, passes_of, IsReady, TakeTurns}

-- a list in whose room as many items were written
pub written_back : {X : Type 0} (n : ℕ) (old new : List X) → n ≡ length old → length new ≡ length old →
    take n (new ++ drop (length new) old) ≡ new
written_back n old new whole same =
    ap (λ ys. take n (new ++ ys)) (drop_all (length new) old (omega (arith, same)))
    ∙ ap (take n) (append-nil new) ∙ take_all n new (omega (arith, whole, same))

-- ---- the reads of all

-- passes that were used for a board read or wrote whole words only
whole_all : (board : Board) (passes : List Known) → AllByRecursion (IsUsed board) passes →
    All IsWhole (reads_of_all passes)
whole_all board [] used = All-nil IsWhole
whole_all board (pass ∷ passes) used =
    All-append IsWhole (reads_of pass.view) (reads_of_all passes)
    (All-from_recursion IsWhole (reads_of pass.view) used.0.orderly.whole) (whole_all board passes used.1)

pub all_backed : (board : Board) (first last : View) (passes : List Known) → first.reads ≡ [] → Consistent last →
    KnowsWhole last → AllByRecursion (IsUsed board) passes →
    IsPermutation (reads_of first ++ reads_of_all passes) (reads_of last) → AreBacked (reads_of_all passes)
all_backed board first last passes unread now knows used gathered =
    any_order (reads_of last) (reads_of_all passes) (IsPermutation-sym (reads_of_all passes) (reads_of last) moved)
    (whole_backed last knows.0 now knows.1 knows.2
    (recursion_from_All IsWhole (reads_of last)
    (All-permutation IsWhole (reads_of_all passes) (reads_of last) moved (whole_all board passes used))))
  where
    moved : IsPermutation (reads_of_all passes) (reads_of last)
    moved =
        subst (λ rs. IsPermutation rs (reads_of last))
        (ap (λ rs. map exact_read (reverse rs) ++ reads_of_all passes) unread) gathered

-- ---- the turns

module _ {C T : Type 0} (is_ready : C → T → Type 0) (took : C → Board → T → Known → T → Known → Type 0) (shared : C)
    (board : Board) where
  -- workers whose jobs are ready and whose passes are fresh are ready
  pub all_ready : (jobs : List T) (workers : List (Worker T)) → jobs_of workers ≡ jobs → All (is_ready shared) jobs →
      All (λ (w : Worker T). IsFresh board w.pass) workers → All (IsReady is_ready took shared board) workers
  all_ready jobs workers are ready fresh i d l = record {
    job = subst (is_ready shared) (get_or-map (λ (w : Worker T). w.job) workers i d d.job l)
        (subst (All (is_ready shared)) (sym are) ready i d.job
        (omega (arith, l, length-map workers (λ (w : Worker T). w.job))));
    pass = fresh i d l;
  }

  -- the passes of workers that took their turns are used ones of the board
  pub used_each : (olds news : List (Worker T)) → length news ≡ length olds →
      TakeTurns is_ready took shared board olds news → AllByRecursion (IsUsed board) (passes_of news)
  used_each olds [] same turns = tt
  used_each [] (new ∷ news) same turns = absurd (omega (arith, same))
  used_each (old ∷ olds) (new ∷ news) same turns = (
    (turns 0 old (omega arith)).used,
    used_each olds news (omega (arith, same)) (λ i d l. turns (suc i) d (omega (arith, l))),
  )

  -- where the workers in a slice took their turns, those of the vector took them, in which the slice was written back
  pub taken_now : (n : ℕ) (old slice new : List (Worker T)) → n ≡ length old → slice ≡ old →
      length new ≡ length slice → TakeTurns is_ready took shared board slice new →
      (length (take n (new ++ drop (length new) old)) ≡ length old)
      × TakeTurns is_ready took shared board old (take n (new ++ drop (length new) old))
  taken_now n old slice new whole is kept turns =
      let back = written_back n old new whole (kept ∙ ap length is) in (
        ap length back ∙ kept ∙ ap length is,
        subst (TakeTurns is_ready took shared board old) (sym back)
            (subst (λ ws. TakeTurns is_ready took shared board ws new) is turns),
      )
