-- The numbers below a bound that pass a test, in order.
--
-- `chosen_yes`: where k passes the test, the numbers chosen below k by it, with k behind them, are those chosen below
--   k + 1.
-- `chosen_no`: where k fails the test, the numbers chosen below k by it are those chosen below k + 1.
-- `chosen_inside`: the numbers chosen below n are below any m of at least n.
use Rattle.std.proofs.Common.{◌≡◌, ℕ, zero, suc, ◌+◌, ◌<◌, ◌≤◌, Bool, true, false, cond, List, [], ◌∷◌, ◌++◌, All}
use Rattle.std.proofs.Common.{sym, ap, subst, ◌∙◌, arith}
use Rattle.std.proofs.Common.{append-nil, add-one}
use Rattle.std.proofs.lemmas.List.Elements.{All-nil, All-push}
use Rattle.spec_bas.specs.Written.{chosen}
use Rattle.spec_bas.proofs.NumbersBelow.{chosen_more}

pub chosen_yes : (test : ℕ → Bool) (k : ℕ) (xs : List ℕ) → xs ≡ chosen k test → test k ≡ true →
    xs ++ k ∷ [] ≡ chosen (k + 1) test
chosen_yes test k xs h t =
    ap (λ ys. ys ++ k ∷ []) h ∙ ap (λ c. chosen k test ++ cond c (k ∷ []) []) (sym t) ∙ sym (chosen_more test k)
    ∙ ap (λ n. chosen n test) (sym (add-one k))

pub chosen_no : (test : ℕ → Bool) (k : ℕ) (xs : List ℕ) → xs ≡ chosen k test → test k ≡ false →
    xs ≡ chosen (k + 1) test
chosen_no test k xs h t =
    h ∙ sym (append-nil (chosen k test)) ∙ ap (λ c. chosen k test ++ cond c (k ∷ []) []) (sym t)
    ∙ sym (chosen_more test k) ∙ ap (λ n. chosen n test) (sym (add-one k))

-- where all numbers of a list have a property and k has it, the list with k added, or not, by a test has it
one_inside : (P : ℕ → Type 0) (xs : List ℕ) (c : Bool) (k : ℕ) → All P xs → P k → All P (xs ++ cond c (k ∷ []) [])
one_inside P xs true k h p = All-push P xs k h p
one_inside P xs false k h p = subst (All P) (sym (append-nil xs)) h

pub chosen_inside : (test : ℕ → Bool) (n m : ℕ) → n ≤ m → All (λ k. k < m) (chosen n test)
chosen_inside test zero m h = All-nil (λ k. k < m)
chosen_inside test (suc n) m h =
    subst (All (λ k. k < m)) (sym (chosen_more test n))
    (one_inside (λ k. k < m) (chosen n test) (test n) n (chosen_inside test n m (omega arith)) (omega arith))
