-- Two tableaus of a cycle, of which in one the greatest of the columns that come and go leaves,
-- and in the other it enters.
use Rattle.std.proofs.Common.{◌≡◌, ℕ, zero, suc, ◌<◌, ◌≢◌, ◌⊎◌, Option, Some, None, refl}
use Rattle.std.proofs.Common.{sym, ap, ◌∙◌, subst, arith, inl, inr, ⊎_elim}
use Rattle.spec_exact.specs.Fraction.{ℚ, ◌+ℚ◌, ◌*ℚ◌, 0ℚ, ◌≤ℚ◌, ◌<ℚ◌}
use Rattle.spec_exact.specs.Sums.{sum_below}
use Rattle.spec_exact.proofs.Field.{+ℚ_zero, *ℚ_zero}
use Rattle.spec_exact.proofs.Order.{≤ℚ_refl, *ℚ_mono, by_le, clash_ℚ, <ℚ-le}
use Rattle.spec_exact.proofs.Ruleset.{zero-*ℚ, one-*ℚ}
use Rattle.spec_exact.proofs.Strict.{<ℚ_irrefl, by_sign, *ℚ_mono_neg, +ℚ_mono₂}
use Rattle.spec_exact.proofs.Sums.{sum_below_same}
use Rattle.spec_pivot.specs.Tableau.{delta}
use Rattle.spec_pivot.specs.declared.status.Status.{Status}
use Rattle.spec_pivot.specs.declared.status.Status.TheVariants.{Basic, AtLower, AtUpper, AtZero}
use Rattle.spec_pivot.specs.declared.status.Way.{Way}
use Rattle.spec_pivot.specs.declared.status.Way.TheVariants.{Up, Down}
use Rattle.spec_pivot.specs.Simplex.{Bounds, IsFixed, MayEnter, CanMove, Improves, Stands, IsBlocked}
use Rattle.spec_pivot.specs.Ratio.{bound_ahead}
use Rattle.spec_pivot.proofs.Pivot.{by_eq, delta_same, delta_other, sum_below-delta}

-- a sum below 0 has a term below 0
negative_term : (n : ℕ) (f : ℕ → ℚ) → sum_below n f <ℚ 0ℚ → (k : ℕ) × (k < n) × (f k <ℚ 0ℚ)
negative_term zero f h = absurd (<ℚ_irrefl 0ℚ h)
negative_term (suc n) f h =
    by_le 0ℚ (f n)
    (λ p. let q = negative_term n f
    (by_le 0ℚ (sum_below n f)
    (λ s. absurd
    (clash_ℚ _ _ h (subst (λ a. a ≤ℚ (sum_below n f +ℚ f n)) (+ℚ_zero 0ℚ) (+ℚ_mono₂ 0ℚ (sum_below n f) 0ℚ (f n) s p))))
    (λ s. s)) in
    (q.0, omega arith, q.2))
    (λ p. (n, omega arith, p))

-- of two factors with a product below 0, one is below 0 and the other above 0
negative_product : {P : Type 0} (a b : ℚ) → (a *ℚ b) <ℚ 0ℚ → (a <ℚ 0ℚ → 0ℚ <ℚ b → P) → (0ℚ <ℚ a → b <ℚ 0ℚ → P) → P
negative_product a b h f g =
    by_sign a
    (λ p. by_sign b
    (λ q. clash_ℚ _ _ h (subst (λ x. x ≤ℚ (a *ℚ b)) (*ℚ_zero a) (*ℚ_mono 0ℚ b a (<ℚ-le 0ℚ a p) (<ℚ-le 0ℚ b q))))
    (g p)
    (λ e. clash_ℚ _ _ h (subst (λ x. 0ℚ ≤ℚ x) (sym (ap (λ y. a *ℚ y) e ∙ *ℚ_zero a)) (≤ℚ_refl 0ℚ))))
    (λ p. by_sign b
    (f p)
    (λ q. clash_ℚ _ _ h (subst (λ x. x ≤ℚ (a *ℚ b)) (*ℚ_zero a) (*ℚ_mono_neg b 0ℚ a (<ℚ-le a 0ℚ p) (<ℚ-le b 0ℚ q))))
    (λ e. clash_ℚ _ _ h (subst (λ x. 0ℚ ≤ℚ x) (sym (ap (λ y. a *ℚ y) e ∙ *ℚ_zero a)) (≤ℚ_refl 0ℚ))))
    (λ e. clash_ℚ _ _ h (subst (λ x. 0ℚ ≤ℚ x) (sym (ap (λ y. y *ℚ b) e ∙ zero-*ℚ b)) (≤ℚ_refl 0ℚ)))

-- ---- both ways: up towards an upper bound, and down towards a lower one

-- a column that changes by r a unit moves that way
abbrev pub Goes : Way → ℚ → Type 0
Goes Up r = 0ℚ <ℚ r
Goes Down r = r <ℚ 0ℚ

-- the bound that lies that way
abbrev pub ahead : Way → Bounds → ℕ → Option ℚ
ahead Up b k = b.upper k
ahead Down b k = b.lower k

-- a column with a reduced cost of 0 improves the cost neither way
none_improves : (way : Way) (d : ℚ) → d ≡ 0ℚ → ¬ (Improves way d)
none_improves Up d e p = <ℚ_irrefl 0ℚ (subst (λ a. a <ℚ 0ℚ) e p)
none_improves Down d e p = <ℚ_irrefl 0ℚ (subst (λ a. 0ℚ <ℚ a) e p)

-- a column that moves by 0 a unit goes neither way
none_goes : (way : Way) (r : ℚ) → r ≡ 0ℚ → ¬ (Goes way r)
none_goes Up r e p = <ℚ_irrefl 0ℚ (subst (λ a. 0ℚ <ℚ a) e p)
none_goes Down r e p = <ℚ_irrefl 0ℚ (subst (λ a. a <ℚ 0ℚ) e p)

-- a column that is not fixed is not at the bound towards which it can move
not_at_bound : (way : Way) (b : Bounds) (k : ℕ) (v : ℚ) (s : Status) → ¬ (IsFixed b k) →
    Stands s (b.lower k) (b.upper k) v → CanMove way s → ahead way b k ≡ Some v → ⊥
not_at_bound Up b k v Basic n st c e = c
not_at_bound Up b k v AtLower n st c e = n (v, st, e)
not_at_bound Up b k v AtUpper n st c e = c
not_at_bound Up b k v AtZero n st c e = let z : None ≡ Some v = sym st.1 ∙ e in cc
not_at_bound Down b k v Basic n st c e = c
not_at_bound Down b k v AtLower n st c e = c
not_at_bound Down b k v AtUpper n st c e = n (v, e, st)
not_at_bound Down b k v AtZero n st c e = let z : None ≡ Some v = sym st.0 ∙ e in cc

-- a column is basic, or can move the given way, or has the status of the bound in that way: the upper one for up, the
-- lower one for down
by_status : {P : Type 0} (way : Way) (s : Status) → (s ≡ Basic → P) → (¬ (s ≡ Basic) → CanMove way s → P) →
    (¬ (s ≡ Basic) → s ≡ bound_ahead way → P) → P
by_status way Basic f g h = f refl
by_status Up AtLower f g h = g (λ e. cc) tt
by_status Up AtUpper f g h = h (λ e. cc) refl
by_status Up AtZero f g h = g (λ e. cc) tt
by_status Down AtLower f g h = h (λ e. cc) refl
by_status Down AtUpper f g h = g (λ e. cc) tt
by_status Down AtZero f g h = g (λ e. cc) tt

-- a column cannot move up where its status is at its upper bound, nor down where its status is at its lower bound
no_move : (way : Way) (s : Status) → CanMove way s → s ≡ bound_ahead way → ⊥
no_move Up s c e = subst (CanMove Up) e c
no_move Down s c e = subst (CanMove Down) e c

-- Going up, the bound ahead of a column is its upper one, and else its lower one. A column whose status says that it is
-- at the bound ahead has that bound as its value.
stands_ahead : (way : Way) (b : Bounds) (k : ℕ) (v : ℚ) (s : Status) → s ≡ bound_ahead way →
    Stands s (b.lower k) (b.upper k) v → ahead way b k ≡ Some v
stands_ahead Up b k v s e = subst (λ s. Stands s (b.lower k) (b.upper k) v) e
stands_ahead Down b k v s e = subst (λ s. Stands s (b.lower k) (b.upper k) v) e

-- a column that moves and is blocked is at its upper bound where it moves up, and at its lower bound where it moves
-- down
blocked_ahead : (way : Way) (b : Bounds) (k : ℕ) (v r : ℚ) → Goes way r → IsBlocked b k v r → ahead way b k ≡ Some v
blocked_ahead Up b k v r p = ⊎_elim (λ u. u.1) (λ l. clash_ℚ _ _ p (<ℚ-le _ _ l.0))
blocked_ahead Down b k v r p = ⊎_elim (λ u. clash_ℚ _ _ p (<ℚ-le _ _ u.0)) (λ l. l.1)

-- a column that moves up and is at its upper bound is blocked, and so is one that moves down and is at its lower bound
blocked_back : (way : Way) (b : Bounds) (k : ℕ) (v r : ℚ) → Goes way r → ahead way b k ≡ Some v → IsBlocked b k v r
blocked_back Up b k v r p e = inl (p, e)
blocked_back Down b k v r p e = inr (p, e)

-- one side of the pair: j enters, moving every column by the ray, and g leaves
pub record Leaving (n : ℕ) (b : Bounds) (x : ℕ → ℚ) (d : ℕ → ℚ) (s : ℕ → Status) (r : ℕ → ℚ) (j g : ℕ) : Type 0 where
  pub j_in : j < n
  pub zero_at_basic : (k : ℕ) → k < n → s k ≡ Basic → d k ≡ 0ℚ
  pub still : (k : ℕ) → k < n → ¬ (s k ≡ Basic) → k ≢ j → r k ≡ 0ℚ
  pub stands : (k : ℕ) → k < n → Stands (s k) (b.lower k) (b.upper k) (x k)
  pub may_enter : MayEnter b j
  pub can_move : (way : Way) → Goes way (r j) → CanMove way (s j)
  pub better : (d j *ℚ r j) <ℚ 0ℚ
  pub blocked : IsBlocked b g (x g) (r g)
  pub least : (k : ℕ) → k < g → s k ≡ Basic → ¬ (IsBlocked b k (x k) (r k))

-- the other side: g enters
pub record Entering (n : ℕ) (b : Bounds) (x : ℕ → ℚ) (d : ℕ → ℚ) (s : ℕ → Status) (g : ℕ) : Type 0 where
  pub g_in : g < n
  pub zero_at_basic : (k : ℕ) → k < n → s k ≡ Basic → d k ≡ 0ℚ
  pub stands : (k : ℕ) → k < n → Stands (s k) (b.lower k) (b.upper k) (x k)
  pub may_enter : MayEnter b g
  pub can_move : (way : Way) → Improves way (d g) → CanMove way (s g)
  pub least : (k : ℕ) (way : Way) → k < g → MayEnter b k → CanMove way (s k) → ¬ (Improves way (d k))

module _ (n : ℕ) (b : Bounds) (x d e : ℕ → ℚ) (s u : ℕ → Status) (r : ℕ → ℚ)
    (j g : ℕ) (D : Leaving n b x d s r j g) (E : Entering n b x e u g)
    -- a column that is basic or enters on the one side, and is not basic on the other, comes and goes
    (moves : (k : ℕ) → k < n → (s k ≡ Basic) ⊎ (k ≡ j) → ¬ (u k ≡ Basic) → (k < g ⊎ k ≡ g) × MayEnter b k) where
  -- where the ray moves, a column is basic or enters
  moving : (k : ℕ) → k < n → ¬ (r k ≡ 0ℚ) → (s k ≡ Basic) ⊎ (k ≡ j)
  moving k h n =
      by_eq k j inr (λ o. go (s k) refl o)
    where
      go : (v : Status) → s k ≡ v → k ≢ j → (s k ≡ Basic) ⊎ (k ≡ j)
      go Basic q o = inl q
      go AtLower q o = absurd (n (D.still k h (λ z. let w : AtLower ≡ Basic = sym q ∙ z in cc) o))
      go AtUpper q o = absurd (n (D.still k h (λ z. let w : AtUpper ≡ Basic = sym q ∙ z in cc) o))
      go AtZero q o = absurd (n (D.still k h (λ z. let w : AtZero ≡ Basic = sym q ∙ z in cc) o))

  -- no column moves the way in which it would lower the other side's cost
  one_way : (way : Way) (k : ℕ) → k < n → Improves way (e k) → Goes way (r k) → ⊥
  one_way way k h p q =
      by_status way (u k)
      (λ z. none_improves way (e k) (E.zero_at_basic k h z) p)
      (λ z c. let mv = moves k h outside z in
      ⊎_elim
      (λ lt. E.least k way lt mv.1 c p)
      (λ o. not_at_bound way b k (x k) (u k) mv.1.1 (E.stands k h) c
      (blocked_ahead way b k (x k) (r k) q (subst (λ g. IsBlocked b g (x g) (r g)) (sym o) D.blocked)))
      mv.0)
      (λ z a. let mv = moves k h outside z in
      let at : ahead way b k ≡ Some (x k) = stands_ahead way b k (x k) (u k) a (E.stands k h) in
      ⊎_elim
      (λ lt. ⊎_elim
      (λ bs. D.least k lt bs (blocked_back way b k (x k) (r k) q at))
      (λ o. not_at_bound way b k (x k) (s k) mv.1.1 (D.stands k h)
      (subst (λ j. CanMove way (s j)) (sym o) (D.can_move way (subst (λ j. Goes way (r j)) o q))) at)
      outside)
      (λ o. no_move way (u k)
      (subst (λ g. CanMove way (u g)) (sym o) (E.can_move way (subst (λ g. Improves way (e g)) o p))) a)
      mv.0)
    where
      outside : (s k ≡ Basic) ⊎ (k ≡ j)
      outside = moving k h (λ z. none_goes way (r k) z q)

  -- the sum of the reduced costs along the ray is the entering column's part
  ray_cost : sum_below n (λ k. d k *ℚ r k) ≡ d j *ℚ r j
  ray_cost = sum_below_same n _ (λ k. delta j k *ℚ (d k *ℚ r k)) part ∙ sum_below-delta n j (λ k. d k *ℚ r k) D.j_in
    where
      none : (k : ℕ) → k < n → ¬ (j ≡ k) → d k *ℚ r k ≡ 0ℚ
      none k h o = go (s k) refl
        where
          go : (v : Status) → s k ≡ v → d k *ℚ r k ≡ 0ℚ
          go Basic q = ap (λ a. a *ℚ r k) (D.zero_at_basic k h q) ∙ zero-*ℚ (r k)
          go AtLower q =
              ap (λ a. d k *ℚ a) (D.still k h (λ z. let w : AtLower ≡ Basic = sym q ∙ z in cc) (λ z. o (sym z)))
              ∙ *ℚ_zero (d k)
          go AtUpper q =
              ap (λ a. d k *ℚ a) (D.still k h (λ z. let w : AtUpper ≡ Basic = sym q ∙ z in cc) (λ z. o (sym z)))
              ∙ *ℚ_zero (d k)
          go AtZero q =
              ap (λ a. d k *ℚ a) (D.still k h (λ z. let w : AtZero ≡ Basic = sym q ∙ z in cc) (λ z. o (sym z)))
              ∙ *ℚ_zero (d k)

      part : (k : ℕ) → k < n → d k *ℚ r k ≡ delta j k *ℚ (d k *ℚ r k)
      part k h =
          by_eq j k
          (λ o. subst (λ k. d k *ℚ r k ≡ delta j k *ℚ (d k *ℚ r k)) o
          (sym (ap (λ a. a *ℚ (d j *ℚ r j)) (delta_same j) ∙ one-*ℚ (d j *ℚ r j))))
          (λ o. none k h o ∙ sym (ap (λ a. a *ℚ (d k *ℚ r k)) (delta_other j k o) ∙ zero-*ℚ (d k *ℚ r k)))

  pub no_pair : sum_below n (λ k. d k *ℚ r k) ≡ sum_below n (λ k. e k *ℚ r k) → ⊥
  no_pair same =
      let t = negative_term n (λ k. e k *ℚ r k) (subst (λ a. a <ℚ 0ℚ) (sym ray_cost ∙ same) D.better) in
      negative_product (e t.0) (r t.0) t.2 (one_way Up t.0 t.1) (one_way Down t.0 t.1)
