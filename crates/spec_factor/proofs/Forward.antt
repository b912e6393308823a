-- The product of elementary matrices keeps combinations, depends on the m places alone, and can be undone.
--
-- `one_at_place`: an elementary matrix divides the item at its place by the pair's entry there.
-- `one_off_place`: an elementary matrix takes from an item i off the pair's place the pair's entry i times the quotient
--   at the pair's place.
-- `forward_same`: where two lists are the same at all m places, so are their lists after ftran by pairs of such places.
-- `forward-append`: ftran by one list of pairs after another is ftran by the two lists in turn.
-- `forward_combines`: ftran of a combination of columns is the same combination of ftran of the columns.
-- `forward_undone`: ftran of an undone list gives the list at all m places.
-- `forward_apart`: lists for which ftran gives the same at all m places are the same there.
use Rattle.std.proofs.Common.{◌≡◌, ◌≢◌, ℕ, ◌<◌, List, [], ◌∷◌, ◌++◌, cond, nat_eq}
use Rattle.std.proofs.Common.{refl, sym, ap, ap₂, ◌∙◌, subst, eq-eqb, ne_eqb}
use Rattle.std.specs.Prelude.{All}
use Rattle.std.proofs.lemmas.List.Elements.{All-head, All-tail}
use Rattle.spec_exact.specs.Fraction.{ℚ, ◌+ℚ◌, ◌-ℚ◌, ◌*ℚ◌, 0ℚ, inverse}
use Rattle.spec_exact.specs.Sums.{sum_below}
use Rattle.spec_exact.proofs.Field.{*ℚ_assoc, *ℚ_comm, *ℚ_inverse}
use Rattle.spec_exact.proofs.Ruleset.{ring, one-*ℚ}
use Rattle.spec_exact.proofs.Sums.{sum_below_same, *ℚ-sum_below, sum_below-*ℚ, sum_below-sub}
use Rattle.spec_pivot.specs.Tableau.{Matrix}
use Rattle.spec_pivot.proofs.Pivot.{by_eq}
use Rattle.spec_factor.specs.Factors.{Pair, pair_at}
use Rattle.spec_factor.specs.Basis.{forward_one, forward, IsPair}

-- ---- one elementary matrix, at its place and elsewhere
pub one_at_place : (e : Pair) (v : ℕ → ℚ) → forward_one e v e.place ≡ v e.place *ℚ inverse (pair_at e e.place)
one_at_place e v = rw (eq-eqb e.place e.place refl) refl

pub one_off_place : (e : Pair) (v : ℕ → ℚ) (i : ℕ) → i ≢ e.place →
    forward_one e v i ≡ v i -ℚ pair_at e i *ℚ (v e.place *ℚ inverse (pair_at e e.place))
one_off_place e v i n = rw (ne_eqb i e.place n) refl

-- what one elementary matrix gives depends on the items below m alone
one_same : (m : ℕ) (e : Pair) (v w : ℕ → ℚ) → e.place < m → ((i : ℕ) → i < m → v i ≡ w i) → (i : ℕ) → i < m →
    forward_one e v i ≡ forward_one e w i
one_same m e v w p h i l =
    ap₂ (λ a c. cond (nat_eq i e.place) (a *ℚ inverse (pair_at e e.place))
    (c -ℚ pair_at e i *ℚ (a *ℚ inverse (pair_at e e.place)))) (h e.place p) (h i l)

pub forward_same : (m : ℕ) (pairs : List Pair) (v w : ℕ → ℚ) → All (IsPair m) pairs → ((i : ℕ) → i < m → v i ≡ w i) →
    (i : ℕ) → i < m → forward pairs v i ≡ forward pairs w i
forward_same m [] v w s h = h
forward_same m (e ∷ es) v w s h =
    forward_same m es (forward_one e v) (forward_one e w) (All-tail (IsPair m) e es s)
    (one_same m e v w ((All-head (IsPair m) e es s).place) h)

-- one list of pairs after another
pub forward-append : (es fs : List Pair) (v : ℕ → ℚ) → forward (es ++ fs) v ≡ forward fs (forward es v)
forward-append [] fs v = refl
forward-append (e ∷ es) fs v = forward-append es fs (forward_one e v)

-- ---- combinations

-- v is the combination of the n columns of t with the weights c
abbrev pub Combines : ℕ → ℕ → Matrix → (ℕ → ℚ) → (ℕ → ℚ) → Type 0
Combines m n t c v = (r : ℕ) → r < m → v r ≡ sum_below n (λ s. t r s *ℚ c s)

-- one elementary matrix keeps a combination of columns, with the same weights
one_combines : (m n : ℕ) (e : Pair) (t : Matrix) (c v : ℕ → ℚ) → e.place < m → Combines m n t c v →
    Combines m n (λ r s. forward_one e (λ r. t r s) r) c (forward_one e v)
one_combines m n e t c v p h i l =
    by_eq i e.place
    (λ d. subst (λ i. forward_one e v i ≡ sum_below n (λ s. forward_one e (λ r. t r s) i *ℚ c s)) (sym d)
    (one_at_place e v ∙ ap (λ a. a *ℚ q) (h e.place p) ∙ sum_below-*ℚ n _ q
    ∙ sum_below_same n _ _
    (λ s _. turn (t e.place s) (c s) q ∙ ap (λ a. a *ℚ c s) (sym (one_at_place e (λ r. t r s))))))
    (λ d. one_off_place e v i d ∙ ap₂ (λ a c. a -ℚ z *ℚ (c *ℚ q)) (h i l) (h e.place p)
    ∙ ap (λ a. sum_below n (λ s. t i s *ℚ c s) -ℚ a) (ap (λ a. z *ℚ a) (sum_below-*ℚ n _ q) ∙ *ℚ-sum_below z n _)
    ∙ sym (sum_below-sub n _ _)
    ∙ sum_below_same n _ _
    (λ s _. spread (t i s) (t e.place s) (c s) z q ∙ ap (λ a. a *ℚ c s) (sym (one_off_place e (λ r. t r s) i d))))
  where
    q : ℚ
    q = inverse (pair_at e e.place)

    z : ℚ
    z = pair_at e i

    turn : (a c q : ℚ) → a *ℚ c *ℚ q ≡ a *ℚ q *ℚ c
    turn a c q = simp ring

    spread : (a b c z q : ℚ) → a *ℚ c -ℚ z *ℚ (b *ℚ c *ℚ q) ≡ (a -ℚ z *ℚ (b *ℚ q)) *ℚ c
    spread a b c z q = simp ring

pub forward_combines : (m n : ℕ) (pairs : List Pair) (t : Matrix) (c v : ℕ → ℚ) → All (IsPair m) pairs →
    Combines m n t c v
    → Combines m n (λ r s. forward pairs (λ r. t r s) r) c (forward pairs v)
forward_combines m n [] t c v s h = h
forward_combines m n (e ∷ es) t c v s h =
    forward_combines m n es (λ r s. forward_one e (λ r. t r s) r) c (forward_one e v) (All-tail (IsPair m) e es s)
    (one_combines m n e t c v ((All-head (IsPair m) e es s).place) h)

-- ---- undoing it
unfoldable pub undone_one : Pair → (ℕ → ℚ) → ℕ → ℚ
undone_one e u i = cond (nat_eq i e.place) (pair_at e e.place *ℚ u e.place) (u i +ℚ pair_at e i *ℚ u e.place)

unfoldable pub undone : List Pair → (ℕ → ℚ) → ℕ → ℚ
undone [] u = u
undone (e ∷ es) u = undone_one e (undone es u)

-- undoing an elementary matrix multiplies the item at its place by the pair's own item
undone_at : (e : Pair) (u : ℕ → ℚ) → undone_one e u e.place ≡ pair_at e e.place *ℚ u e.place
unfolding undone_one
undone_at e u = rw (eq-eqb e.place e.place refl) refl

-- undoing an elementary matrix adds, off its place, the pair's item times the item at the place
undone_off : (e : Pair) (u : ℕ → ℚ) (i : ℕ) → i ≢ e.place → undone_one e u i ≡ u i +ℚ pair_at e i *ℚ u e.place
unfolding undone_one
undone_off e u i n = rw (ne_eqb i e.place n) refl

-- what undoing one elementary matrix gives depends on the items below m alone
undone_one_same : (m : ℕ) (e : Pair) (v w : ℕ → ℚ) → e.place < m → ((i : ℕ) → i < m → v i ≡ w i) → (i : ℕ) → i < m →
    undone_one e v i ≡ undone_one e w i
unfolding undone_one
undone_one_same m e v w p h i l =
    ap₂ (λ a c. cond (nat_eq i e.place) (pair_at e e.place *ℚ a) (c +ℚ pair_at e i *ℚ a)) (h e.place p) (h i l)

-- what undoing all pairs gives depends on the items below m alone
undone_same : (m : ℕ) (pairs : List Pair) (v w : ℕ → ℚ) → All (IsPair m) pairs → ((i : ℕ) → i < m → v i ≡ w i) →
    (i : ℕ) → i < m → undone pairs v i ≡ undone pairs w i
unfolding undone
undone_same m [] v w s h = h
undone_same m (e ∷ es) v w s h =
    undone_one_same m e (undone es v) (undone es w) ((All-head (IsPair m) e es s).place)
    (undone_same m es v w (All-tail (IsPair m) e es s) h)

-- where b is not 0, b times the quotient of a by b is a
divided : (a b : ℚ) → b ≢ 0ℚ → b *ℚ (a *ℚ inverse b) ≡ a
divided a b n =
    ap (λ x. b *ℚ x) (*ℚ_comm a (inverse b)) ∙ sym (*ℚ_assoc b (inverse b) a) ∙ ap (λ x. x *ℚ a) (*ℚ_inverse b n)
    ∙ one-*ℚ a

-- where b is not 0, b times a divided by b is a
times : (a b : ℚ) → b ≢ 0ℚ → b *ℚ a *ℚ inverse b ≡ a
times a b n = *ℚ_assoc b a (inverse b) ∙ divided a b n

-- undoing an elementary matrix after using it gives what was there
one_back : (m : ℕ) (e : Pair) (v : ℕ → ℚ) → IsPair m e → (i : ℕ) → undone_one e (forward_one e v) i ≡ v i
one_back m e v g i =
    by_eq i e.place
    (λ d. subst (λ i. undone_one e (forward_one e v) i ≡ v i) (sym d)
    (undone_at e (forward_one e v) ∙ ap (λ a. pair_at e e.place *ℚ a) (one_at_place e v)
    ∙ divided (v e.place) (pair_at e e.place) g.pivot))
    (λ d. undone_off e (forward_one e v) i d
    ∙ ap₂ (λ a c. a +ℚ pair_at e i *ℚ c) (one_off_place e v i d) (one_at_place e v)
    ∙ again (v i) (pair_at e i *ℚ (v e.place *ℚ inverse (pair_at e e.place))))
  where
    again : (a b : ℚ) → a -ℚ b +ℚ b ≡ a
    again a b = simp ring

-- using an elementary matrix after undoing it gives what was there
one_forth : (m : ℕ) (e : Pair) (u : ℕ → ℚ) → IsPair m e → (i : ℕ) → forward_one e (undone_one e u) i ≡ u i
one_forth m e u g i =
    by_eq i e.place
    (λ d. subst (λ i. forward_one e (undone_one e u) i ≡ u i) (sym d)
    (one_at_place e (undone_one e u) ∙ ap (λ a. a *ℚ inverse (pair_at e e.place)) (undone_at e u)
    ∙ times (u e.place) (pair_at e e.place) g.pivot))
    (λ d. one_off_place e (undone_one e u) i d
    ∙ ap₂ (λ a c. a -ℚ pair_at e i *ℚ c) (undone_off e u i d)
    (ap (λ a. a *ℚ inverse (pair_at e e.place)) (undone_at e u) ∙ times (u e.place) (pair_at e e.place) g.pivot)
    ∙ again (u i) (pair_at e i *ℚ u e.place))
  where
    again : (a b : ℚ) → a +ℚ b -ℚ b ≡ a
    again a b = simp ring

-- undoing all pairs after ftran over them gives what was there
undone_forward : (m : ℕ) (pairs : List Pair) (v : ℕ → ℚ) → All (IsPair m) pairs → (i : ℕ) → i < m →
    undone pairs (forward pairs v) i ≡ v i
unfolding undone
undone_forward m [] v s i l = refl
undone_forward m (e ∷ es) v s i l =
    undone_one_same m e (undone es (forward es (forward_one e v)))
    (forward_one e v) ((All-head (IsPair m) e es s).place)
    (undone_forward m es (forward_one e v) (All-tail (IsPair m) e es s)) i l
    ∙ one_back m e v (All-head (IsPair m) e es s) i

pub forward_undone : (m : ℕ) (pairs : List Pair) (u : ℕ → ℚ) → All (IsPair m) pairs → (i : ℕ) → i < m →
    forward pairs (undone pairs u) i ≡ u i
unfolding undone
forward_undone m [] u s i l = refl
forward_undone m (e ∷ es) u s i l =
    forward_same m es (forward_one e (undone_one e (undone es u))) (undone es u) (All-tail (IsPair m) e es s)
    (λ i _. one_forth m e (undone es u) (All-head (IsPair m) e es s) i) i l
    ∙ forward_undone m es u (All-tail (IsPair m) e es s) i l

-- what is the same afterwards was the same before
pub forward_apart : (m : ℕ) (pairs : List Pair) (v w : ℕ → ℚ) → All (IsPair m) pairs →
    ((i : ℕ) → i < m → forward pairs v i ≡ forward pairs w i) → (i : ℕ) → i < m → v i ≡ w i
forward_apart m pairs v w s h i l =
    sym (undone_forward m pairs v s i l) ∙ undone_same m pairs (forward pairs v) (forward pairs w) s h i l
    ∙ undone_forward m pairs w s i l
