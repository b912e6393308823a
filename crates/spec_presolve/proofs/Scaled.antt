-- The limits of a row with one entry, as bounds of its column.
--
-- `quotient_times`: b divided by an a that is not 0, times a, is b.
-- `by_entry`: what follows for an entry above 0, and for one below 0, follows for each entry that is not 0.
-- `scaled_up`: for an entry that is not below 0, the limits divided by it keep their order.
-- `scaled_down`: for an entry below 0, the limits divided by it change places.
-- `scaled_between`: a value between the divided limits, times the entry, is between the limits.
-- `scaled_allows`: a direction that the divided limits allow, times the entry, is one that the limits allow.
-- `whole_of`: where a limit divided by the entry is v, the limit is the entry times v.
-- `scaled_tight`: a value that is tight for d at limits divided by a is, times a, tight for d / a at the limits
--   themselves.
-- `scaled_ordered`: where the lower limit is at most the upper one, so it is of the divided limits.
use Rattle.std.proofs.Common.{◌≡◌, true, false, cond, Option, Some, None, IfSome}
use Rattle.std.proofs.Common.{sym, ap, ◌∙◌, subst, subst₂}
use Rattle.spec_exact.specs.Fraction.{ℚ, 0ℚ, ◌*ℚ◌, neg_ℚ, inverse, ◌≤ℚ◌, ◌<ℚ◌, lt_ℚ}
use Rattle.spec_exact.proofs.Field.{*ℚ_inverse, *ℚ_one, *ℚ_zero}
use Rattle.spec_exact.proofs.Order.{*ℚ_mono, lt_test, not_lt_test, <ℚ-le}
use Rattle.spec_exact.proofs.Strict.{*ℚ_mono_neg, *ℚ_mono_back, *ℚ_strict, by_sign, neg_strict, neg_mono}
use Rattle.spec_exact.proofs.Ruleset.{ring, neg-zero, neg-neg, *ℚ_left_comm, neg-*ℚ}
use Rattle.spec_model.specs.Model.{Limits}
use Rattle.spec_model.specs.Truth.{IsBetween}
use Rattle.spec_check.specs.Checks.{IsTight, Allows}

abbrev pub divided : ℚ → Option ℚ → Option ℚ
divided a None = None
divided a (Some b) = Some (b *ℚ inverse a)

abbrev pub scaled : ℚ → Limits → Limits
scaled a l =
    cond (lt_ℚ a 0ℚ)
    (record { lower = divided a l.upper; upper = divided a l.lower })
    (record { lower = divided a l.lower; upper = divided a l.upper })

-- ---- a quotient

-- for a that is not 0, a times the quotient of b by a is b
times_quotient : (a b : ℚ) → ¬ (a ≡ 0ℚ) → a *ℚ (b *ℚ inverse a) ≡ b
times_quotient a b n = *ℚ_left_comm a b (inverse a) ∙ ap (λ q. b *ℚ q) (*ℚ_inverse a n) ∙ *ℚ_one b

-- b times q, times a, is b times the product of a and q
shuffle₂ : (a b q : ℚ) → (b *ℚ q) *ℚ a ≡ b *ℚ (a *ℚ q)
shuffle₂ a b q = simp ring

pub quotient_times : (a b : ℚ) → ¬ (a ≡ 0ℚ) → (b *ℚ inverse a) *ℚ a ≡ b
quotient_times a b n = shuffle₂ a b (inverse a) ∙ ap (λ q. b *ℚ q) (*ℚ_inverse a n) ∙ *ℚ_one b

-- ---- by the sign of the entry

-- the sign of an entry that is not 0
pub by_entry : {P : Type 0} (a : ℚ) → ¬ (a ≡ 0ℚ) → (0ℚ <ℚ a → lt_ℚ a 0ℚ ≡ false → P) →
    (a <ℚ 0ℚ → lt_ℚ a 0ℚ ≡ true → P) → P
by_entry a n up down =
    by_sign a (λ p. up p (not_lt_test a 0ℚ (<ℚ-le 0ℚ a p))) (λ p. down p (lt_test a 0ℚ p)) (λ e. absurd (n e))

pub scaled_up : (a : ℚ) (l : Limits) → lt_ℚ a 0ℚ ≡ false →
    scaled a l ≡ record { lower = divided a l.lower; upper = divided a l.upper }
scaled_up a l e =
    ap (λ t. cond t (record { lower = divided a l.upper; upper = divided a l.lower })
    (record { lower = divided a l.lower; upper = divided a l.upper })) e

pub scaled_down : (a : ℚ) (l : Limits) → lt_ℚ a 0ℚ ≡ true →
    scaled a l ≡ record { lower = divided a l.upper; upper = divided a l.lower }
scaled_down a l e =
    ap (λ t. cond t (record { lower = divided a l.upper; upper = divided a l.lower })
    (record { lower = divided a l.lower; upper = divided a l.upper })) e

-- ---- a point between the bounds is between the limits

-- for a positive entry a, a times v is at least a lower limit where v is at least the limit divided by a
least_up : (a v : ℚ) (o : Option ℚ) → 0ℚ <ℚ a → ¬ (a ≡ 0ℚ) → IfSome (divided a o) (λ k. k ≤ℚ v) →
    IfSome o (λ k. k ≤ℚ (a *ℚ v))
least_up a v None p n h = tt
least_up a v (Some b) p n h =
    subst (λ w. w ≤ℚ (a *ℚ v)) (times_quotient a b n) (*ℚ_mono (b *ℚ inverse a) v a (<ℚ-le 0ℚ a p) h)

-- for a positive entry a, a times v is at most an upper limit where v is at most the limit divided by a
most_up : (a v : ℚ) (o : Option ℚ) → 0ℚ <ℚ a → ¬ (a ≡ 0ℚ) → IfSome (divided a o) (λ k. v ≤ℚ k) →
    IfSome o (λ k. (a *ℚ v) ≤ℚ k)
most_up a v None p n h = tt
most_up a v (Some b) p n h =
    subst (λ w. (a *ℚ v) ≤ℚ w) (times_quotient a b n) (*ℚ_mono v (b *ℚ inverse a) a (<ℚ-le 0ℚ a p) h)

-- for a negative entry a, a times v is at least a lower limit where v is at most the limit divided by a
least_down : (a v : ℚ) (o : Option ℚ) → a <ℚ 0ℚ → ¬ (a ≡ 0ℚ) → IfSome (divided a o) (λ k. v ≤ℚ k) →
    IfSome o (λ k. k ≤ℚ (a *ℚ v))
least_down a v None p n h = tt
least_down a v (Some b) p n h =
    subst (λ w. w ≤ℚ (a *ℚ v)) (times_quotient a b n) (*ℚ_mono_neg v (b *ℚ inverse a) a (<ℚ-le a 0ℚ p) h)

-- for a negative entry a, a times v is at most an upper limit where v is at least the limit divided by a
most_down : (a v : ℚ) (o : Option ℚ) → a <ℚ 0ℚ → ¬ (a ≡ 0ℚ) → IfSome (divided a o) (λ k. k ≤ℚ v) →
    IfSome o (λ k. (a *ℚ v) ≤ℚ k)
most_down a v None p n h = tt
most_down a v (Some b) p n h =
    subst (λ w. (a *ℚ v) ≤ℚ w) (times_quotient a b n) (*ℚ_mono_neg (b *ℚ inverse a) v a (<ℚ-le a 0ℚ p) h)

pub scaled_between : (a v : ℚ) (l : Limits) → ¬ (a ≡ 0ℚ) → IsBetween (scaled a l) v → IsBetween l (a *ℚ v)
scaled_between a v l n h =
    by_entry a n
    (λ p e. let k = subst (λ s. IsBetween s v) (scaled_up a l e) h in
    record { lower = least_up a v l.lower p n k.lower; upper = most_up a v l.upper p n k.upper })
    (λ p e. let k = subst (λ s. IsBetween s v) (scaled_down a l e) h in
    record { lower = least_down a v l.lower p n k.upper; upper = most_down a v l.upper p n k.lower })

-- ---- a ray

-- for a positive entry a and a given limit, a times r is at least 0 where r is
rises_up : (a r : ℚ) (o : Option ℚ) → 0ℚ <ℚ a → IfSome (divided a o) (λ _. 0ℚ ≤ℚ r) → IfSome o (λ _. 0ℚ ≤ℚ (a *ℚ r))
rises_up a r None p h = tt
rises_up a r (Some b) p h = subst (λ w. w ≤ℚ (a *ℚ r)) (*ℚ_zero a) (*ℚ_mono 0ℚ r a (<ℚ-le 0ℚ a p) h)

-- for a positive entry a and a given limit, a times r is at most 0 where r is
falls_up : (a r : ℚ) (o : Option ℚ) → 0ℚ <ℚ a → IfSome (divided a o) (λ _. r ≤ℚ 0ℚ) → IfSome o (λ _. (a *ℚ r) ≤ℚ 0ℚ)
falls_up a r None p h = tt
falls_up a r (Some b) p h = subst (λ w. (a *ℚ r) ≤ℚ w) (*ℚ_zero a) (*ℚ_mono r 0ℚ a (<ℚ-le 0ℚ a p) h)

-- for a negative entry a and a given limit, a times r is at least 0 where r is at most 0
rises_down : (a r : ℚ) (o : Option ℚ) → a <ℚ 0ℚ → IfSome (divided a o) (λ _. r ≤ℚ 0ℚ) → IfSome o (λ _. 0ℚ ≤ℚ (a *ℚ r))
rises_down a r None p h = tt
rises_down a r (Some b) p h = subst (λ w. w ≤ℚ (a *ℚ r)) (*ℚ_zero a) (*ℚ_mono_neg r 0ℚ a (<ℚ-le a 0ℚ p) h)

-- for a negative entry a and a given limit, a times r is at most 0 where r is at least 0
falls_down : (a r : ℚ) (o : Option ℚ) → a <ℚ 0ℚ → IfSome (divided a o) (λ _. 0ℚ ≤ℚ r) → IfSome o (λ _. (a *ℚ r) ≤ℚ 0ℚ)
falls_down a r None p h = tt
falls_down a r (Some b) p h = subst (λ w. (a *ℚ r) ≤ℚ w) (*ℚ_zero a) (*ℚ_mono_neg 0ℚ r a (<ℚ-le a 0ℚ p) h)

pub scaled_allows : (a r : ℚ) (l : Limits) → ¬ (a ≡ 0ℚ) → Allows (scaled a l) r → Allows l (a *ℚ r)
scaled_allows a r l n h =
    by_entry a n
    (λ p e. let k = subst (λ s. Allows s r) (scaled_up a l e) h in
    record { lower = rises_up a r l.lower p k.lower; upper = falls_up a r l.upper p k.upper })
    (λ p e. let k = subst (λ s. Allows s r) (scaled_down a l e) h in
    record { lower = rises_down a r l.lower p k.upper; upper = falls_down a r l.upper p k.lower })

-- ---- multipliers

-- ---- a quotient's sign

-- for a positive entry a, d is positive where d divided by a is
same_sign : (a d : ℚ) → 0ℚ <ℚ a → 0ℚ <ℚ (d *ℚ inverse a) → ¬ (a ≡ 0ℚ) → 0ℚ <ℚ d
same_sign a d p h n = subst₂ ◌<ℚ◌ (*ℚ_zero a) (times_quotient a d n) (*ℚ_strict 0ℚ (d *ℚ inverse a) a p h)

-- for a positive entry a, d is negative where d divided by a is
same_sign_below : (a d : ℚ) → 0ℚ <ℚ a → (d *ℚ inverse a) <ℚ 0ℚ → ¬ (a ≡ 0ℚ) → d <ℚ 0ℚ
same_sign_below a d p h n = subst₂ ◌<ℚ◌ (times_quotient a d n) (*ℚ_zero a) (*ℚ_strict (d *ℚ inverse a) 0ℚ a p h)

-- for a negative entry a, d is negative where d divided by a is positive
other_sign : (a d : ℚ) → a <ℚ 0ℚ → 0ℚ <ℚ (d *ℚ inverse a) → ¬ (a ≡ 0ℚ) → d <ℚ 0ℚ
other_sign a d p h n =
    let pos_a : 0ℚ <ℚ neg_ℚ a = subst (λ z. z <ℚ neg_ℚ a) neg-zero (neg_strict a 0ℚ p) in
    let up : (neg_ℚ a *ℚ 0ℚ) <ℚ (neg_ℚ a *ℚ (d *ℚ inverse a)) = *ℚ_strict 0ℚ (d *ℚ inverse a) (neg_ℚ a) pos_a h in
    let up₂ : 0ℚ <ℚ neg_ℚ d =
    subst₂ ◌<ℚ◌ (*ℚ_zero (neg_ℚ a)) (neg-*ℚ a (d *ℚ inverse a) ∙ ap neg_ℚ (times_quotient a d n)) up in
    subst₂ ◌<ℚ◌ (neg-neg d) neg-zero (neg_strict 0ℚ (neg_ℚ d) up₂)

-- for a negative entry a, d is positive where d divided by a is negative
other_sign_below : (a d : ℚ) → a <ℚ 0ℚ → (d *ℚ inverse a) <ℚ 0ℚ → ¬ (a ≡ 0ℚ) → 0ℚ <ℚ d
other_sign_below a d p h n =
    let pos_a : 0ℚ <ℚ neg_ℚ a = subst (λ z. z <ℚ neg_ℚ a) neg-zero (neg_strict a 0ℚ p) in
    let up : (neg_ℚ a *ℚ (d *ℚ inverse a)) <ℚ (neg_ℚ a *ℚ 0ℚ) = *ℚ_strict (d *ℚ inverse a) 0ℚ (neg_ℚ a) pos_a h in
    let up₂ : neg_ℚ d <ℚ 0ℚ =
    subst₂ ◌<ℚ◌ (neg-*ℚ a (d *ℚ inverse a) ∙ ap neg_ℚ (times_quotient a d n)) (*ℚ_zero (neg_ℚ a)) up in
    subst₂ ◌<ℚ◌ neg-zero (neg-neg d) (neg_strict (neg_ℚ d) 0ℚ up₂)

-- a limit by its quotient
pub whole_of : (a v : ℚ) (o : Option ℚ) → ¬ (a ≡ 0ℚ) → divided a o ≡ Some v → o ≡ Some (a *ℚ v)
whole_of a v None n h = let z : None ≡ Some v = h in cc
whole_of a v (Some b) n h =
    let e : b *ℚ inverse a ≡ v = cc in
    ap Some (sym (times_quotient a b n) ∙ ap (λ q. a *ℚ q) e)

pub scaled_tight : (a d v : ℚ) (l : Limits) → ¬ (a ≡ 0ℚ) → IsTight (scaled a l) d v →
    IsTight l (d *ℚ inverse a) (a *ℚ v)
scaled_tight a d v l n h =
    by_entry a n
    (λ p e. let k = subst (λ s. IsTight s d v) (scaled_up a l e) h in
    record {
      above = λ q. whole_of a v l.lower n (k.above (same_sign a d p q n));
      below = λ q. whole_of a v l.upper n (k.below (same_sign_below a d p q n));
    })
    (λ p e. let k = subst (λ s. IsTight s d v) (scaled_down a l e) h in
    record {
      above = λ q. whole_of a v l.lower n (k.below (other_sign a d p q n));
      below = λ q. whole_of a v l.upper n (k.above (other_sign_below a d p q n));
    })

-- ---- the limits' order
-- where both limits are there, the lower one is at most the upper one
abbrev pub Ordered : Limits → Type 0
Ordered l = (p q : ℚ) → l.lower ≡ Some p → l.upper ≡ Some q → p ≤ℚ q

-- where a times p is at most a times q for a positive a, p is at most q
up_back : (a p q : ℚ) → 0ℚ <ℚ a → (a *ℚ p) ≤ℚ (a *ℚ q) → p ≤ℚ q
up_back a p q pos_a h = *ℚ_mono_back p q a pos_a h

-- where a times q is at most a times p for a negative a, p is at most q
down_back : (a p q : ℚ) → a <ℚ 0ℚ → (a *ℚ q) ≤ℚ (a *ℚ p) → p ≤ℚ q
down_back a p q neg_a h =
    *ℚ_mono_back p q (neg_ℚ a) (subst (λ z. z <ℚ neg_ℚ a) neg-zero (neg_strict a 0ℚ neg_a))
    (subst₂ ◌≤ℚ◌ (sym (neg-*ℚ a p)) (sym (neg-*ℚ a q)) (neg_mono (a *ℚ q) (a *ℚ p) h))

pub scaled_ordered : (a : ℚ) (l : Limits) → ¬ (a ≡ 0ℚ) → Ordered l → Ordered (scaled a l)
scaled_ordered a l n h =
    by_entry a n
    (λ s e. subst Ordered (sym (scaled_up a l e))
    (λ p q f g. up_back a p q s (h (a *ℚ p) (a *ℚ q) (whole_of a p l.lower n f) (whole_of a q l.upper n g))))
    (λ s e. subst Ordered (sym (scaled_down a l e))
    (λ p q f g. down_back a p q s (h (a *ℚ q) (a *ℚ p) (whole_of a q l.lower n g) (whole_of a p l.upper n f))))
