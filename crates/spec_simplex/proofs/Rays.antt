-- A column that is never stopped moves along a ray that bounds allow, and the cost falls along it.
use Rattle.std.proofs.Common.{◌≡◌, ℕ, ◌<◌, ◌⊎◌, Option, Some, None, Bool, true, false}
use Rattle.std.proofs.Common.{cond, option_map, IfSome, refl, sym, ◌∙◌, subst, ⊎_elim}
use Rattle.spec_exact.specs.Fraction.{ℚ, ◌-ℚ◌, ◌*ℚ◌, neg_ℚ, inverse, 0ℚ, 1ℚ, ◌≤ℚ◌, ◌<ℚ◌, lt_ℚ}
use Rattle.spec_exact.specs.Sums.{sum_below}
use Rattle.spec_exact.proofs.Order.{≤ℚ_refl, <ℚ-le, lt_if, le_if_not}
use Rattle.spec_exact.proofs.Strict.{zero-lt-one, neg-one-lt-zero}
use Rattle.spec_pivot.specs.declared.status.Status.{Status}
use Rattle.spec_pivot.specs.declared.status.Status.TheVariants.{Basic, AtLower, AtUpper, AtZero}
use Rattle.spec_pivot.specs.declared.status.Way.{Way}
use Rattle.spec_pivot.specs.declared.status.Way.TheVariants.{Up, Down}
use Rattle.spec_pivot.specs.Tableau.{Matrix}
use Rattle.spec_pivot.specs.Simplex.{Bounds, Table, IsTableau, CanMove, Stands, sign, ray}
use Rattle.spec_pivot.specs.Ratio.{room, GoesOn}
use Rattle.spec_pivot.proofs.Pivot.{by_eq}
use Rattle.spec_pivot.proofs.SameEquations.{outside, j_outside}
use Rattle.spec_pivot.proofs.Ray.{ray_at, ray_still, cost_ray}
use Rattle.spec_pivot.proofs.Values.{by_basic, ray_cost, better}

-- a move by r meets no bound: there is no lower bound, or r is at least 0; and no upper bound, or r is at most 0
pub record IsFree (l u : Option ℚ) (r : ℚ) : Type 0 where
  pub lower : IfSome l (λ _. 0ℚ ≤ℚ r)
  pub upper : IfSome u (λ _. r ≤ℚ 0ℚ)

-- ---- what stops nothing

-- what must hold of a number that is not there holds
if_none : (P : ℚ → Type 0) (o : Option ℚ) → o ≡ None → IfSome o P
if_none P o e = subst (λ z. IfSome z P) (sym e) tt

-- what holds of every number holds of one, where it is there
if_all : (P : ℚ → Type 0) (o : Option ℚ) → ((k : ℚ) → P k) → IfSome o P
if_all P None h = tt
if_all P (Some k) h = h k

-- a number is not there where its image under a function is not there
map_none : (f : ℚ → ℚ) (o : Option ℚ) → option_map f o ≡ None → o ≡ None
map_none f None e = refl
map_none f (Some k) e = cc

-- a column whose room nothing limits may move on: no bound stops it
room_none : (b : Bounds) (k : ℕ) (v r : ℚ) → room b k v r ≡ None → IsFree (b.lower k) (b.upper k) r
room_none b k v r e = by (lt_ℚ 0ℚ r) (lt_ℚ r 0ℚ) refl refl e
  where
    by : (s t : Bool) → lt_ℚ 0ℚ r ≡ s → lt_ℚ r 0ℚ ≡ t →
        cond s (option_map (λ u. (u -ℚ v) *ℚ inverse r) (b.upper k))
        (cond t (option_map (λ l. (v -ℚ l) *ℚ inverse (neg_ℚ r)) (b.lower k)) None) ≡ None →
        IsFree (b.lower k) (b.upper k) r
    by true t p q h = record {
      lower = if_all (λ _. 0ℚ ≤ℚ r) (b.lower k) (λ _. <ℚ-le 0ℚ r (lt_if 0ℚ r p));
      upper = if_none (λ _. r ≤ℚ 0ℚ) (b.upper k) (map_none _ (b.upper k) h);
    }
    by false true p q h = record {
      lower = if_none (λ _. 0ℚ ≤ℚ r) (b.lower k) (map_none _ (b.lower k) h);
      upper = if_all (λ _. r ≤ℚ 0ℚ) (b.upper k) (λ _. <ℚ-le r 0ℚ (lt_if r 0ℚ q));
    }
    by false false p q h = record {
      lower = if_all (λ _. 0ℚ ≤ℚ r) (b.lower k) (λ _. le_if_not r 0ℚ q);
      upper = if_all (λ _. r ≤ℚ 0ℚ) (b.upper k) (λ _. le_if_not 0ℚ r p);
    }

-- no bound stops a column that does not move
still_allowed : (l u : Option ℚ) (r : ℚ) → r ≡ 0ℚ → IsFree l u r
still_allowed l u r e =
    subst (IsFree l u) (sym e) (record {
      lower = if_all (λ _. 0ℚ ≤ℚ 0ℚ) l (λ _. ≤ℚ_refl 0ℚ);
      upper = if_all (λ _. 0ℚ ≤ℚ 0ℚ) u (λ _. ≤ℚ_refl 0ℚ);
    })

-- no bound stops the entering column where one of its two bounds is absent
own_allowed : (l u : Option ℚ) (v : ℚ) (way : Way) (s : Status) → CanMove way s → Stands s l u v →
    (l ≡ None) ⊎ (u ≡ None) → IsFree l u (sign way)
own_allowed l u v Up AtLower c s o = record {
  lower = if_all (λ _. 0ℚ ≤ℚ 1ℚ) l (λ _. <ℚ-le 0ℚ 1ℚ zero-lt-one);
  upper = if_none (λ _. 1ℚ ≤ℚ 0ℚ) u (⊎_elim (λ n. let z : Some v ≡ None = sym s ∙ n in cc) (λ n. n) o);
}
own_allowed l u v Up AtZero c s o =
    record { lower = if_all (λ _. 0ℚ ≤ℚ 1ℚ) l (λ _. <ℚ-le 0ℚ 1ℚ zero-lt-one); upper = if_none (λ _. 1ℚ ≤ℚ 0ℚ) u s.1 }
own_allowed l u v Down AtUpper c s o = record {
  lower = if_none (λ _. 0ℚ ≤ℚ neg_ℚ 1ℚ) l (⊎_elim (λ n. n) (λ n. let z : Some v ≡ None = sym s ∙ n in cc) o);
  upper = if_all (λ _. neg_ℚ 1ℚ ≤ℚ 0ℚ) u (λ _. <ℚ-le _ _ neg-one-lt-zero);
}
own_allowed l u v Down AtZero c s o =
    record {
      lower = if_none (λ _. 0ℚ ≤ℚ neg_ℚ 1ℚ) l s.0;
      upper = if_all (λ _. neg_ℚ 1ℚ ≤ℚ 0ℚ) u (λ _. <ℚ-le _ _ neg-one-lt-zero);
    }
own_allowed l u v Up Basic c s o = absurd c
own_allowed l u v Up AtUpper c s o = absurd c
own_allowed l u v Down Basic c s o = absurd c
own_allowed l u v Down AtLower c s o = absurd c

module _ (m n : ℕ) (f : Matrix) (c : ℕ → ℚ) (b : Bounds) (t : Table)
    (g : IsTableau m n f c b t) (way : Way) (j : ℕ) (e : GoesOn m n b t way j) where
  -- no bound stops a column along the ray of an entering column that is never stopped
  pub allowed : (k : ℕ) → k < n → IsFree (b.lower k) (b.upper k) (ray m t way j k)
  allowed k h =
      by_basic (t.status k)
      (λ s. let q = g.placed k h s in subst (λ k. IsFree (b.lower k) (b.upper k) (ray m t way j k)) q.2
      (room_none b (t.basic q.0) (t.value (t.basic q.0)) (ray m t way j (t.basic q.0)) (e.others q.0 q.1)))
      (λ s. by_eq j k
      (λ o. subst (λ k. IsFree (b.lower k) (b.upper k) (ray m t way j k)) o
      (subst (IsFree (b.lower j) (b.upper j)) (sym (ray_at m t g.units way j (j_outside m n f c b t g way j e.enters)))
      (own_allowed (b.lower j) (b.upper j) (t.value j) way
      (t.status j) e.enters.eligible.status (g.stands j e.enters.in_range) e.own)))
      (λ o. still_allowed (b.lower k) (b.upper k) (ray m t way j k)
      (ray_still m t g.units way j (j_outside m n f c b t g way j e.enters) k o (outside m n f c b t g k s))))

  -- the cost falls along the ray of an entering column that is never stopped
  pub falls : sum_below n (λ k. c k *ℚ ray m t way j k) <ℚ 0ℚ
  falls = subst (λ a. a <ℚ 0ℚ)
      (sym (ray_cost m n f c b t g way j e.enters) ∙ cost_ray m t g.units way j (j_outside m n f c b t g way j e.enters)
      n e.enters.in_range g.in_range f c t.reduced g.back g.costs.weights g.costs.less)
      (better m n f c b t g way j e.enters)
