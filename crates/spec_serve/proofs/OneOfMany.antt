-- What many workers may reply, where there is one of them, is what one worker may.
use Rattle.std.proofs.Common.{◌≡◌, ℕ, ◌%◌, List, [], ◌∷◌, refl, sym, ap, ◌∙◌, subst, nat_eq, eq-eqb, cond, arith}
use Rattle.std.specs.List.{filter}
use Rattle.spec_board.specs.Places.{Logged, Plays}
use Rattle.spec_server.specs.Exchanges.{Exchange, log_of, RunFits}
use Rattle.spec_serve.specs.Workers.{ManyFits}

-- where there is one worker, each element of a list is that worker's by its number
all_kept : {X : Type 0} (f : X → ℕ) (xs : List X) → filter (λ x. nat_eq (f x % 1) 0) xs ≡ xs
all_kept f [] = refl
all_kept f (x ∷ xs) =
    let rest = filter (λ y. nat_eq (f y % 1) 0) xs in
    ap (λ t. cond t (x ∷ rest) rest) (eq-eqb (f x % 1) 0 (omega arith)) ∙ ap (λ ys. x ∷ ys) (all_kept f xs)

-- exchanges that workers may have had, where there is one of them, are ones that one worker may have had
only_one : (places : ℕ) (xs : List Exchange) → ManyFits places 1 xs → RunFits places xs
only_one places xs many =
    let all = many.together in record {
      alone = many.alone;
      last = all.last;
      played = subst (λ log. Plays places [] log all.last)
          (sym (all_kept (λ (x : Logged). x.session) all.log) ∙ all.parts 0 (omega arith)
          ∙ ap log_of (all_kept (λ (x : Exchange). x.session) xs)) all.played;
    }

-- where the count of workers is 1, exchanges that they may have had are ones that one worker may have had
pub one_of_many : (workers places : ℕ) (xs : List Exchange) → workers ≡ 1 → ManyFits places workers xs →
    RunFits places xs
one_of_many workers places xs one many = only_one places xs (subst (λ n. ManyFits places n xs) one many)
