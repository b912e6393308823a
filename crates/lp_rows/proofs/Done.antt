-- A row of which the first k numbers are done, and the others as they were.
--
-- `one_done`: where number k becomes f k, the first k + 1 numbers are those of f.
-- `one_kept`: where number k is f k already, the first k + 1 numbers are those of f.
-- `one_so`: where number k becomes one of which P holds, P holds of the first k + 1 numbers.
use Rattle.std.proofs.Common.{◌≡◌, ◌≢◌, ℕ, zero, suc, ◌+◌, ◌<◌, ◌≤◌, ℤ, List, [], ◌∷◌, length, get_or, refl, sym, ap}
use Rattle.std.proofs.Common.{subst, ◌∙◌, arith, ⊎_elim}
use Rattle.std.proofs.Math.ListN.{set}
use Rattle.std.proofs.lemmas.List.{length-set}
use Rattle.std.proofs.lemmas.Bool.{cases_eq}
use Rattle.lp_natural.specs.Whole.{whole}
use Rattle.lp_natural.specs.declared.words.signed.Signed.{Signed}
use Rattle.lp_rows.specs.Row.{at}

module _ {T : Type 0} (value : T → ℕ) where
  -- where item k of a list of numbers is set, number k is the one that was set
  pub at-set_same : (xs : List (Signed T)) (k : ℕ) (x : Signed T) → k < length xs →
      at value (set xs k x) k ≡ whole x.negative (value x.size)
  at-set_same [] k x h = absurd (omega arith)
  at-set_same (y ∷ xs) zero x h = refl
  at-set_same (y ∷ xs) (suc k) x h = at-set_same xs k x (omega (arith, h))

  -- where item k of a list of numbers is set, each other number j is as it was
  pub at-set_other : (xs : List (Signed T)) (k j : ℕ) (x : Signed T) → j ≢ k → at value (set xs k x) j ≡ at value xs j
  at-set_other [] k j x h = refl
  at-set_other (y ∷ xs) zero zero x h = absurd (h refl)
  at-set_other (y ∷ xs) zero (suc j) x h = refl
  at-set_other (y ∷ xs) (suc k) zero x h = refl
  at-set_other (y ∷ xs) (suc k) (suc j) x h = at-set_other xs k j x (λ e. h (ap suc e))

  -- number k inside a list is the number that is read there
  pub item-at : (xs : List (Signed T)) (k : ℕ) (x : Signed T) → k < length xs → x ≡ get_or xs k x →
      at value xs k ≡ whole x.negative (value x.size)
  item-at [] k x h e = absurd (omega arith)
  item-at (y ∷ xs) zero x h e = ap (λ (z : Signed T). whole z.negative (value z.size)) (sym e)
  item-at (y ∷ xs) (suc k) x h e = item-at xs k x (omega (arith, h)) e

-- the first k numbers are those of f, and the others are as they were
pub record IsDone {T : Type 0} (value : T → ℕ) (k : ℕ) (f : ℕ → ℤ) (old new : List (Signed T)) : Type 0 where
  pub done : (j : ℕ) → j < k → at value new j ≡ f j
  pub rest : (j : ℕ) → k ≤ j → at value new j ≡ at value old j
  pub len : length new ≡ length old

pub one_done : {T : Type 0} (value : T → ℕ) (k : ℕ) (f : ℕ → ℤ) (old new : List (Signed T)) (x : Signed T) →
    IsDone value k f old new → k < length new → whole x.negative (value x.size) ≡ f k →
    IsDone value (k + 1) f old (set new k x)
one_done value k f old new x d h e =
    record {
      done = λ j l.
          ⊎_elim
          (λ (s : j ≡ k). ap (at value (set new k x)) s ∙ at-set_same value new k x h ∙ e ∙ ap f (sym s))
          (λ (n : j ≢ k). at-set_other value new k j x n ∙ d.done j (less_than j k l n))
          (cases_eq j k);
      rest = λ j l. at-set_other value new k j x (λ s. past_it j k l s) ∙ d.rest j (omega (arith, l));
      len = length-set new k x ∙ d.len;
    }
  where
    less_than : (j k : ℕ) → j < k + 1 → j ≢ k → j < k
    less_than j k l n = grind (arith, l, n)

    past_it : (j k : ℕ) → k + 1 ≤ j → j ≡ k → ⊥
    past_it j k l s = absurd (omega (arith, l, s))

-- the next one is as it was
pub one_kept : {T : Type 0} (value : T → ℕ) (k : ℕ) (f : ℕ → ℤ) (old new : List (Signed T)) →
    IsDone value k f old new → at value new k ≡ f k → IsDone value (k + 1) f old new
one_kept value k f old new d e =
    record {
      done = λ j l.
          ⊎_elim
          (λ (s : j ≡ k). ap (at value new) s ∙ e ∙ ap f (sym s))
          (λ (n : j ≢ k). d.done j (less_than j k l n))
          (cases_eq j k);
      rest = λ j l. d.rest j (omega (arith, l));
      len = d.len;
    }
  where
    less_than : (j k : ℕ) → j < k + 1 → j ≢ k → j < k
    less_than j k l n = grind (arith, l, n)

-- of the first k numbers P says so, and the others are as they were
pub record AreSo {T : Type 0} (value : T → ℕ) (k : ℕ) (P : ℕ → ℤ → Type 0) (old new : List (Signed T)) : Type 0 where
  pub done : (j : ℕ) → j < k → P j (at value new j)
  pub rest : (j : ℕ) → k ≤ j → at value new j ≡ at value old j
  pub len : length new ≡ length old

pub one_so : {T : Type 0} (value : T → ℕ) (k : ℕ) (P : ℕ → ℤ → Type 0) (old new : List (Signed T)) (x : Signed T) →
    AreSo value k P old new → k < length new → P k (whole x.negative (value x.size)) →
    AreSo value (k + 1) P old (set new k x)
one_so value k P old new x d h e =
    record {
      done = λ j l.
          ⊎_elim
          (λ (s : j ≡ k). subst (λ i. P i (at value (set new k x) i)) (sym s)
          (subst (P k) (sym (at-set_same value new k x h)) e))
          (λ (n : j ≢ k). subst (P j) (sym (at-set_other value new k j x n)) (d.done j (less_than j k l n)))
          (cases_eq j k);
      rest = λ j l. at-set_other value new k j x (λ s. past_it j k l s) ∙ d.rest j (omega (arith, l));
      len = length-set new k x ∙ d.len;
    }
  where
    less_than : (j k : ℕ) → j < k + 1 → j ≢ k → j < k
    less_than j k l n = grind (arith, l, n)

    past_it : (j k : ℕ) → k + 1 ≤ j → j ≡ k → ⊥
    past_it j k l s = absurd (omega (arith, l, s))
