-- What btran gives, without a limit, is adjoint to what ftran gives.
--
-- `backward_one_same`: where two lists are the same at all m places, so are their lists after btran by one pair.
-- `adjoint`: over the m places, the sum of btran of c times v is the sum of c times ftran of v.
-- `backward_same`: where two lists are the same at all m places, so are their lists after btran by pairs of these
--   places.
use Rattle.std.proofs.Common.{◌≡◌, ◌≢◌, ℕ, ◌<◌, List, [], ◌∷◌, cond, nat_eq}
use Rattle.std.proofs.Common.{refl, sym, ap, ap₂, ◌∙◌, subst, eq-eqb, ne_eqb}
use Rattle.std.specs.Prelude.{All}
use Rattle.std.proofs.lemmas.List.Elements.{All-head, All-tail}
use Rattle.spec_exact.specs.Fraction.{ℚ, ◌+ℚ◌, ◌-ℚ◌, ◌*ℚ◌, 0ℚ, 1ℚ, inverse}
use Rattle.spec_exact.specs.Sums.{sum_below}
use Rattle.spec_exact.proofs.Ruleset.{ring}
use Rattle.spec_exact.proofs.Sums.{sum_below_same, sum_below-*ℚ, sum_below-sub, sum_below-+ℚ}
use Rattle.spec_pivot.specs.Tableau.{delta}
use Rattle.spec_pivot.proofs.Pivot.{by_eq, delta_same, delta_other, sum_below-delta}
use Rattle.spec_factor.specs.Factors.{Pair, pair_at}
use Rattle.spec_factor.specs.Basis.{forward_one, forward, IsPair}
use Rattle.spec_factor.proofs.Forward.{one_at_place, one_off_place}

-- `off p i x` is x where place i is not p, and 0 where it is
abbrev pub off : ℕ → ℕ → ℚ → ℚ
off p i x = cond (nat_eq i p) 0ℚ x

-- what one pair of btran takes off the item at the pair's place: the sum over the other places of the item there times
-- the pair's entry there
unfoldable pub taken : ℕ → Pair → (ℕ → ℚ) → ℚ
taken m e c = sum_below m (λ i. off e.place i (c i *ℚ pair_at e i))

unfoldable pub backward_one : ℕ → Pair → (ℕ → ℚ) → ℕ → ℚ
backward_one m e c i = cond (nat_eq i e.place) ((c e.place -ℚ taken m e c) *ℚ inverse (pair_at e e.place)) (c i)

unfoldable pub backward : ℕ → List Pair → (ℕ → ℚ) → ℕ → ℚ
backward m [] c = c
backward m (e ∷ es) c = backward_one m e (backward m es c)

-- what the other places take off the pair's own item depends on the items below m alone
taken_same : (m : ℕ) (e : Pair) (c d : ℕ → ℚ) → ((i : ℕ) → i < m → c i ≡ d i) → taken m e c ≡ taken m e d
unfolding taken
taken_same m e c d h = sum_below_same m _ _ (λ i l. ap (λ a. off e.place i (a *ℚ pair_at e i)) (h i l))

pub backward_one_same : (m : ℕ) (e : Pair) (c d : ℕ → ℚ) → e.place < m → ((i : ℕ) → i < m → c i ≡ d i) → (i : ℕ) →
    i < m → backward_one m e c i ≡ backward_one m e d i
unfolding backward_one
backward_one_same m e c d p h i l =
    ap₂ (λ a b. cond (nat_eq i e.place) ((a -ℚ taken m e c) *ℚ inverse (pair_at e e.place)) b) (h e.place p) (h i l)
    ∙ ap (λ t. cond (nat_eq i e.place) ((d e.place -ℚ t) *ℚ inverse (pair_at e e.place)) (d i)) (taken_same m e c d h)

-- ---- the terms of both sums, in parts

-- an item of c times that of v after one pair of ftran is a part off the pair's place and a part at it
forward_term : (e : Pair) (c v : ℕ → ℚ) (i : ℕ) → c i *ℚ forward_one e v i ≡
    (off e.place i (c i *ℚ v i) -ℚ off e.place i (c i *ℚ pair_at e i) *ℚ (v e.place *ℚ inverse (pair_at e e.place)))
    +ℚ delta e.place i *ℚ (c e.place *ℚ (v e.place *ℚ inverse (pair_at e e.place)))
forward_term e c v i =
    by_eq i e.place
    (λ d. subst (λ i. c i *ℚ forward_one e v i
    ≡ (off e.place i (c i *ℚ v i) -ℚ off e.place i (c i *ℚ pair_at e i) *ℚ x) +ℚ delta e.place i *ℚ (c e.place *ℚ x))
    (sym d)
    (ap (λ a. c e.place *ℚ a) (one_at_place e v)
    ∙ sym (ap₂ (λ a b. (a -ℚ b *ℚ x) +ℚ delta e.place e.place *ℚ (c e.place *ℚ x))
    (off_at (c e.place *ℚ v e.place)) (off_at (c e.place *ℚ pair_at e e.place))
    ∙ ap (λ a. (0ℚ -ℚ 0ℚ *ℚ x) +ℚ a *ℚ (c e.place *ℚ x)) (delta_same e.place) ∙ here x (c e.place))))
    (λ d. ap (λ a. c i *ℚ a) (one_off_place e v i d)
    ∙ sym (ap₂ (λ a b. (a -ℚ b *ℚ x) +ℚ delta e.place i *ℚ (c e.place *ℚ x))
    (off_off i (c i *ℚ v i) d) (off_off i (c i *ℚ pair_at e i) d)
    ∙ ap (λ a. (c i *ℚ v i -ℚ c i *ℚ pair_at e i *ℚ x) +ℚ a *ℚ (c e.place *ℚ x))
    (delta_other e.place i (λ y. d (sym y)))
    ∙ there (c i) (v i) (pair_at e i) x (c e.place)))
  where
    x : ℚ
    x = v e.place *ℚ inverse (pair_at e e.place)

    off_at : (a : ℚ) → off e.place e.place a ≡ 0ℚ
    off_at a = rw (eq-eqb e.place e.place refl) refl

    off_off : (i : ℕ) (a : ℚ) → i ≢ e.place → off e.place i a ≡ a
    off_off i a n = rw (ne_eqb i e.place n) refl

    here : (x c : ℚ) → (0ℚ -ℚ 0ℚ *ℚ x) +ℚ 1ℚ *ℚ (c *ℚ x) ≡ c *ℚ x
    here x c = simp ring

    there : (c v z x b : ℚ) → (c *ℚ v -ℚ c *ℚ z *ℚ x) +ℚ 0ℚ *ℚ (b *ℚ x) ≡ c *ℚ (v -ℚ z *ℚ x)
    there c v z x b = simp ring

-- an item of c after one pair of btran times that of v is a part off the pair's place and a part at it
backward_term : (m : ℕ) (e : Pair) (c v : ℕ → ℚ) (i : ℕ) →
    backward_one m e c i *ℚ v i ≡ off e.place i
    (c i *ℚ v i) +ℚ delta e.place i *ℚ ((c e.place -ℚ taken m e c) *ℚ inverse (pair_at e e.place) *ℚ v e.place)
unfolding backward_one
backward_term m e c v i =
    by_eq i e.place
    (λ d. subst (λ i. cond (nat_eq i e.place) w (c i) *ℚ v i
    ≡ off e.place i (c i *ℚ v i) +ℚ delta e.place i *ℚ (w *ℚ v e.place)) (sym d)
    (rw (eq-eqb e.place e.place refl) (here (w *ℚ v e.place))))
    (λ d. rw (ne_eqb i e.place d, ne_eqb e.place i (λ y. d (sym y))) (there (c i *ℚ v i) (w *ℚ v e.place)))
  where
    w : ℚ
    w = (c e.place -ℚ taken m e c) *ℚ inverse (pair_at e e.place)

    here : (a : ℚ) → a ≡ 0ℚ +ℚ 1ℚ *ℚ a
    here a = simp ring

    there : (a b : ℚ) → a ≡ a +ℚ 0ℚ *ℚ b
    there a b = simp ring

-- over one pair, btran of c times v has the same sum as c times ftran of v
adjoint_one : (m : ℕ) (e : Pair) (c v : ℕ → ℚ) → e.place < m →
    sum_below m (λ i. backward_one m e c i *ℚ v i) ≡ sum_below m (λ i. c i *ℚ forward_one e v i)
unfolding taken
adjoint_one m e c v p =
    sum_below_same m _ _ (λ i _. backward_term m e c v i) ∙ sum_below-+ℚ m _ _
    ∙ ap (λ a. A +ℚ a) (sum_below-delta m e.place (λ _. (c e.place -ℚ S) *ℚ q *ℚ v e.place) p)
    ∙ close A (c e.place) S q (v e.place)
    ∙ sym (sum_below_same m _ _ (λ i _. forward_term e c v i) ∙ sum_below-+ℚ m _ _
    ∙ ap₂ ◌+ℚ◌ (sum_below-sub m _ _ ∙ ap (λ a. A -ℚ a) (sym (sum_below-*ℚ m _ (v e.place *ℚ q))))
    (sum_below-delta m e.place (λ _. c e.place *ℚ (v e.place *ℚ q)) p))
  where
    q : ℚ
    q = inverse (pair_at e e.place)

    A : ℚ
    A = sum_below m (λ i. off e.place i (c i *ℚ v i))

    S : ℚ
    S = taken m e c

    close : (a c s q v : ℚ) → a +ℚ (c -ℚ s) *ℚ q *ℚ v ≡ (a -ℚ s *ℚ (v *ℚ q)) +ℚ c *ℚ (v *ℚ q)
    close a c s q v = simp ring

pub adjoint : (m : ℕ) (pairs : List Pair) (c v : ℕ → ℚ) → All (IsPair m) pairs →
    sum_below m (λ i. backward m pairs c i *ℚ v i) ≡ sum_below m (λ i. c i *ℚ forward pairs v i)
unfolding backward
adjoint m [] c v s = refl
adjoint m (e ∷ es) c v s =
    adjoint_one m e (backward m es c) v ((All-head (IsPair m) e es s).place)
    ∙ adjoint m es c (forward_one e v) (All-tail (IsPair m) e es s)

pub backward_same : (m : ℕ) (pairs : List Pair) (c d : ℕ → ℚ) → All (IsPair m) pairs → ((i : ℕ) → i < m → c i ≡ d i) →
    (i : ℕ) → i < m → backward m pairs c i ≡ backward m pairs d i
unfolding backward
backward_same m [] c d s h = h
backward_same m (e ∷ es) c d s h =
    backward_one_same m e (backward m es c) (backward m es d)
    ((All-head (IsPair m) e es s).place) (backward_same m es c d (All-tail (IsPair m) e es s) h)
