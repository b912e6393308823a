-- What is read is backed in whatever order the reads stand.
use Rattle.std.proofs.Common.{◌≡◌, ℕ, List, refl, sym, ◌∙◌, arith}
use Rattle.std.specs.List.{sum_by}
use Rattle.std.specs.List.Sorted.{IsPermutation}
use Rattle.std.proofs.lemmas.List.Elements.{All-from_recursion, recursion_from_All, All-weaker}
use Rattle.std.proofs.lemmas.List.Recursion.{is_sum_by}
use Rattle.std.proofs.lemmas.List.Sorted.{All-permutation, Contains-permutation, sum_by-IsPermutation}
use Rattle.spec_board.specs.declared.read.Read.TheVariants.{Count, NotDone, Seen, Claim, Lost, Done}
use Rattle.spec_board.specs.Reads.{ExactRead}
use Rattle.spec_board.specs.Orders.{published_by, published_in, IsBacked, AreBacked}
use Rattle.basis_board.specs.Board.{times}
use Rattle.basis_board.proofs.Times.{times-append, times_contains, contains_times, once_times, times_once}

-- a number stands among the places that reads publish as often as in those of each read, added up
one_by_one : (k : ℕ) (rs : List ExactRead) →
    times k (published_in rs) ≡ sum_by (λ r. times k (published_by r)) rs
one_by_one k rs = is_sum_by (λ qs. times k (published_in qs)) (λ r. times k (published_by r)) refl
    (λ r qs. times-append k (published_by r) (published_in qs)) rs

module _ (a b : List ExactRead) (moved : IsPermutation a b) where
  -- reads in another order publish each place as often
  as_often : (k : ℕ) → times k (published_in b) ≡ times k (published_in a)
  as_often k =
      one_by_one k b ∙ sum_by-IsPermutation (λ r. times k (published_by r)) a b moved ∙ sym (one_by_one k a)

  -- a read that is backed by reads is backed by the same reads in another order
  backed_there : (claimed : ℕ) (r : ExactRead) → IsBacked a claimed r → IsBacked b claimed r
  backed_there claimed (Count c) h = h
  backed_there claimed (NotDone k) h = tt
  backed_there claimed (Seen k words) h = (h.0, Contains-permutation a b (Done k h.0) moved h.1, h.2)
  backed_there claimed (Claim k) h = tt
  backed_there claimed (Lost c) h = h
  backed_there claimed (Done k words) h = tt

  -- where reads are backed, the same reads in another order are backed
  pub any_order : AreBacked a → AreBacked b
  any_order h = record {
    once = times_once (published_in b)
        (λ k. (let same = as_often k in let l = once_times k (published_in a) h.once in omega arith));
    claimed = h.claimed;
    published = λ k. (
      λ c. (h.published k).0 (times_contains k (published_in a)
          (let same = as_often k in let l = contains_times k (published_in b) c in omega arith)),
      λ below. times_contains k (published_in b)
          (let same = as_often k in
          let l = contains_times k (published_in a) ((h.published k).1 below) in omega arith),
    );
    backed = recursion_from_All (IsBacked b h.claimed) b
        (All-weaker (IsBacked a h.claimed) (IsBacked b h.claimed) (backed_there h.claimed) b
        (All-permutation (IsBacked a h.claimed) a b moved
        (All-from_recursion (IsBacked a h.claimed) a h.backed)));
  }
