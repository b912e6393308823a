-- What a pivot keeps: the span of the rows, and the unit columns.
--
-- `by_eq`: what follows where two numbers are equal, and where they are not, holds.
-- `delta_same`: the weight of an index at itself is 1.
-- `delta_other`: the weight of an index at any other is 0.
-- `sum_below-delta`: a sum with the weight 1 at one index, and 0 elsewhere, is the term at that index.
-- `Spans_refl`: each row is a combination of the rows themselves.
-- `Spans_trans`: combinations of rows that are combinations of third rows are combinations of the third rows.
-- `pivoted_at`: after a pivot the row of the pivot is the old one divided by the pivot entry.
-- `pivoted_off`: after a pivot another row is the old one less its entry in the entering column times the new row of
--   the pivot.
-- `forth`: each row after a pivot is a combination of the rows before it.
-- `back`: each row before a pivot is a combination of the rows after it, where the pivot entry is not 0.
-- `pivot_row_zero`: where the row of the pivot has 0 in a column, it still has after the pivot.
-- `kept`: where the row of the pivot has 0 in a column, the pivot changes no row in that column.
-- `new_unit`: after a pivot on an entry other than 0 the entering column is 1 in the row of the pivot and 0 in all
--   other rows.
-- `entered_at`: after a pivot the entering column is basic at the position of the pivot.
-- `entered_off`: after a pivot each other position has the basic column that it had.
-- `units`: a pivot on an entry other than 0 leaves the basic columns unit columns.
use Rattle.std.proofs.Common.{◌≡◌, ℕ, zero, suc, ◌+◌, ◌<◌, ◌≢◌, cond, nat_eq, refl}
use Rattle.std.proofs.Common.{sym, ap, ap₂, ◌∙◌, subst, arith, eq-eqb, ne_eqb, ⊎_elim}
use Rattle.std.proofs.lemmas.Bool.{cases_eq}
use Rattle.spec_exact.specs.Fraction.{ℚ, ◌+ℚ◌, ◌-ℚ◌, ◌*ℚ◌, neg_ℚ, 0ℚ, 1ℚ, inverse}
use Rattle.spec_exact.specs.Sums.{sum_below}
use Rattle.spec_exact.proofs.Field.{+ℚ_zero, *ℚ_assoc, *ℚ_comm, *ℚ_inverse}
use Rattle.spec_exact.proofs.Ruleset.{ring, zero-*ℚ, one-*ℚ, zero-+ℚ}
use Rattle.spec_exact.proofs.Sums.{sum_below_same, sum_below-+ℚ, *ℚ-sum_below, sum_below_swap, sum_below-*ℚ}
use Rattle.spec_pivot.specs.Tableau.{Matrix, pivot_row, pivoted, entered, Spans, delta, IsUnit}

pub by_eq : {P : Type 0} (i n : ℕ) → (i ≡ n → P) → (i ≢ n → P) → P
by_eq i n f g = ⊎_elim f g (cases_eq i n)

pub delta_same : (i : ℕ) → delta i i ≡ 1ℚ
delta_same i = rw (eq-eqb i i refl)

pub delta_other : (i r : ℕ) → i ≢ r → delta i r ≡ 0ℚ
delta_other i r n = rw (ne_eqb i r n)

-- a sum whose one weight is past its end is 0
sum_below-delta_past : (n i : ℕ) (f : ℕ → ℚ) → n < i + 1 → sum_below n (λ r. delta i r *ℚ f r) ≡ 0ℚ
sum_below-delta_past zero i f h = refl
sum_below-delta_past (suc n) i f h =
    ap₂ ◌+ℚ◌ (sum_below-delta_past n i f (omega arith))
    (ap (λ a. a *ℚ f n) (delta_other i n (λ e. absurd (let k : ⊥ = omega arith in k))) ∙ zero-*ℚ (f n))
    ∙ +ℚ_zero 0ℚ

pub sum_below-delta : (n i : ℕ) (f : ℕ → ℚ) → i < n → sum_below n (λ r. delta i r *ℚ f r) ≡ f i
sum_below-delta zero i f h = absurd (let k : ⊥ = omega arith in k)
sum_below-delta (suc n) i f h =
    by_eq i n
    (λ e. ap₂ ◌+ℚ◌ (sum_below-delta_past n i f (omega arith))
    (ap (λ a. delta i a *ℚ f a) (sym e) ∙ ap (λ a. a *ℚ f i) (delta_same i) ∙ one-*ℚ (f i)) ∙ zero-+ℚ (f i))
    (λ e. ap₂ ◌+ℚ◌ (sum_below-delta n i f (omega arith)) (ap (λ a. a *ℚ f n) (delta_other i n e) ∙ zero-*ℚ (f n))
    ∙ +ℚ_zero (f i))

-- a sum with two weights, both inside it, is the two terms times their weights
sum_below_two : (m i p : ℕ) (a b : ℚ) (f : ℕ → ℚ) → i < m → p < m
    → sum_below m (λ r. (a *ℚ delta i r +ℚ b *ℚ delta p r) *ℚ f r) ≡ a *ℚ f i +ℚ b *ℚ f p
sum_below_two m i p a b f h k =
    sum_below_same m _ (λ r. a *ℚ (delta i r *ℚ f r) +ℚ b *ℚ (delta p r *ℚ f r))
    (λ r _. spread a b (delta i r) (delta p r) (f r))
    ∙ sum_below-+ℚ m (λ r. a *ℚ (delta i r *ℚ f r)) (λ r. b *ℚ (delta p r *ℚ f r))
    ∙ ap₂ ◌+ℚ◌
    (sym (*ℚ-sum_below a m (λ r. delta i r *ℚ f r)) ∙ ap (λ s. a *ℚ s) (sum_below-delta m i f h))
    (sym (*ℚ-sum_below b m (λ r. delta p r *ℚ f r)) ∙ ap (λ s. b *ℚ s) (sum_below-delta m p f k))
  where
    spread : (a b d e f : ℚ) → (a *ℚ d +ℚ b *ℚ e) *ℚ f ≡ a *ℚ (d *ℚ f) +ℚ b *ℚ (e *ℚ f)
    spread a b d e f = simp ring

-- spans compose
pub Spans_refl : (m : ℕ) (t : Matrix) → Spans m t t
Spans_refl m t = (delta, λ i k h. sym (sum_below-delta m i (λ r. t r k) h))

pub Spans_trans : (m : ℕ) (a b c : Matrix) → Spans m a b → Spans m b c → Spans m a c
Spans_trans m a b c f g = (
  λ i s. sum_below m (λ r. f.0 i r *ℚ g.0 r s),
  λ i k h. f.1 i k h
      ∙ sum_below_same m _ (λ r. sum_below m (λ s. (f.0 i r *ℚ g.0 r s) *ℚ c s k))
      (λ r p. ap (λ x. f.0 i r *ℚ x) (g.1 r k p) ∙ *ℚ-sum_below (f.0 i r) m _
      ∙ sum_below_same m _ _ (λ s _. sym (*ℚ_assoc (f.0 i r) (g.0 r s) (c s k))))
      ∙ sum_below_swap m m (λ r s. (f.0 i r *ℚ g.0 r s) *ℚ c s k)
      ∙ sum_below_same m _ _ (λ s _. sym (sum_below-*ℚ m (λ r. f.0 i r *ℚ g.0 r s) (c s k))),
)

-- ---- a pivot's rows
pub pivoted_at : (t : Matrix) (p j k : ℕ) → pivoted t p j p k ≡ pivot_row t p j k
pivoted_at t p j k = rw (eq-eqb p p refl)

pub pivoted_off : (t : Matrix) (p j i k : ℕ) → i ≢ p → pivoted t p j i k ≡ t i k -ℚ t i j *ℚ pivot_row t p j k
pivoted_off t p j i k n = rw (ne_eqb i p n)

-- a choice by whether a number equals itself is the first choice
cond_at : (p : ℕ) (x y : ℚ) → cond (nat_eq p p) x y ≡ x
cond_at p x y = rw (eq-eqb p p refl)

-- a choice by whether two different numbers are equal is the second choice
cond_off : (i p : ℕ) (x y : ℚ) → i ≢ p → cond (nat_eq i p) x y ≡ y
cond_off i p x y n = rw (ne_eqb i p n)

-- a row's weight in itself after a pivot: 0 for the pivot's row, else 1
own : ℕ → ℕ → ℚ
own p i = cond (nat_eq i p) 0ℚ 1ℚ

-- the weight of row p, before a pivot in row p and column j, in row i after it
forth_weight : Matrix → ℕ → ℕ → ℕ → ℚ
forth_weight t p j i = cond (nat_eq i p) (inverse (t p j)) (neg_ℚ (t i j *ℚ inverse (t p j)))

-- each row after a pivot combines itself and the pivot's row before it
forth_row : (t : Matrix) (p j i k : ℕ) → pivoted t p j i k ≡ own p i *ℚ t i k +ℚ forth_weight t p j i *ℚ t p k
unfolding own forth_weight
forth_row t p j i k =
    by_eq i p
    (λ e. subst (λ i. pivoted t p j i k ≡ own p i *ℚ t i k +ℚ forth_weight t p j i *ℚ t p k) (sym e)
    (pivoted_at t p j k
    ∙ sym (ap₂ (λ x y. x *ℚ t p k +ℚ y *ℚ t p k) (cond_at p 0ℚ 1ℚ) (cond_at p _ _) ∙ first (t p k) (inverse (t p j)))))
    (λ n. pivoted_off t p j i k n
    ∙ sym (ap₂ (λ x y. x *ℚ t i k +ℚ y *ℚ t p k) (cond_off i p 0ℚ 1ℚ n) (cond_off i p _ _ n)
    ∙ second (t i k) (t i j) (t p k) (inverse (t p j))))
  where
    first : (a q : ℚ) → 0ℚ *ℚ a +ℚ q *ℚ a ≡ a *ℚ q
    first a q = simp ring

    second : (a b c q : ℚ) → 1ℚ *ℚ a +ℚ neg_ℚ (b *ℚ q) *ℚ c ≡ a -ℚ b *ℚ (c *ℚ q)
    second a b c q = simp ring

-- a quotient by a number that is not 0, times that number, is the dividend
divided : (a b : ℚ) → ¬ (b ≡ 0ℚ) → b *ℚ (a *ℚ inverse b) ≡ a
divided a b n =
    ap (λ x. b *ℚ x) (*ℚ_comm a (inverse b)) ∙ sym (*ℚ_assoc b (inverse b) a)
    ∙ ap (λ x. x *ℚ a) (*ℚ_inverse b n) ∙ one-*ℚ a

-- each row before a pivot combines itself and the pivot's row after it
back_row : (t : Matrix) (p j i k : ℕ) → ¬ (t p j ≡ 0ℚ) →
    t i k ≡ own p i *ℚ pivoted t p j i k +ℚ t i j *ℚ pivoted t p j p k
unfolding own
back_row t p j i k n =
    by_eq i p
    (λ e. subst (λ i. t i k ≡ own p i *ℚ pivoted t p j i k +ℚ t i j *ℚ pivoted t p j p k) (sym e)
    (sym (ap₂ (λ x y. x *ℚ pivoted t p j p k +ℚ t p j *ℚ y) (cond_at p 0ℚ 1ℚ) (pivoted_at t p j k)
    ∙ ap (λ x. x +ℚ t p j *ℚ pivot_row t p j k) (zero-*ℚ _) ∙ zero-+ℚ _ ∙ divided (t p k) (t p j) n)))
    (λ o. sym (ap₂ (λ x y. x *ℚ y +ℚ t i j *ℚ pivoted t p j p k) (cond_off i p 0ℚ 1ℚ o) (pivoted_off t p j i k o)
    ∙ ap (λ x. 1ℚ *ℚ (t i k -ℚ t i j *ℚ pivot_row t p j k) +ℚ t i j *ℚ x) (pivoted_at t p j k)
    ∙ third (t i k) (t i j) (pivot_row t p j k)))
  where
    third : (a b c : ℚ) → 1ℚ *ℚ (a -ℚ b *ℚ c) +ℚ b *ℚ c ≡ a
    third a b c = simp ring

pub forth : (m : ℕ) (t : Matrix) (p j : ℕ) → p < m → Spans m (pivoted t p j) t
forth m t p j h = (
  λ i r. own p i *ℚ delta i r +ℚ forth_weight t p j i *ℚ delta p r,
  λ i k g. forth_row t p j i k ∙ sym (sum_below_two m i p (own p i) (forth_weight t p j i) (λ r. t r k) g h),
)

pub back : (m : ℕ) (t : Matrix) (p j : ℕ) → p < m → ¬ (t p j ≡ 0ℚ) → Spans m t (pivoted t p j)
back m t p j h n = (
  λ i r. own p i *ℚ delta i r +ℚ t i j *ℚ delta p r,
  λ i k g. back_row t p j i k n ∙ sym (sum_below_two m i p (own p i) (t i j) (λ r. pivoted t p j r k) g h),
)

-- ---- unit columns

-- where the row at p has 0, a pivot changes nothing
pub pivot_row_zero : (t : Matrix) (p j k : ℕ) → t p k ≡ 0ℚ → pivot_row t p j k ≡ 0ℚ
pivot_row_zero t p j k e = ap (λ x. x *ℚ inverse (t p j)) e ∙ zero-*ℚ _

pub kept : (t : Matrix) (p j r k : ℕ) → t p k ≡ 0ℚ → pivoted t p j r k ≡ t r k
kept t p j r k e =
    by_eq r p
    (λ o. subst (λ r. pivoted t p j r k ≡ t r k) (sym o) (pivoted_at t p j k ∙ pivot_row_zero t p j k e ∙ sym e))
    (λ o. pivoted_off t p j r k o ∙ ap (λ x. t r k -ℚ t r j *ℚ x) (pivot_row_zero t p j k e) ∙ less (t r k) (t r j))
  where
    less : (a b : ℚ) → a -ℚ b *ℚ 0ℚ ≡ a
    less a b = simp ring

pub new_unit : (t : Matrix) (p j r : ℕ) → ¬ (t p j ≡ 0ℚ) → pivoted t p j r j ≡ delta p r
new_unit t p j r n =
    by_eq r p
    (λ o. subst (λ r. pivoted t p j r j ≡ delta p r) (sym o)
    (pivoted_at t p j j ∙ *ℚ_inverse (t p j) n ∙ sym (delta_same p)))
    (λ o. pivoted_off t p j r j o ∙ ap (λ x. t r j -ℚ t r j *ℚ x) (*ℚ_inverse (t p j) n)
    ∙ none (t r j) ∙ sym (delta_other p r (λ e. o (sym e))))
  where
    none : (a : ℚ) → a -ℚ a *ℚ 1ℚ ≡ 0ℚ
    none a = simp ring

-- ---- the basic columns
pub entered_at : (basic : ℕ → ℕ) (p j : ℕ) → entered basic p j p ≡ j
entered_at basic p j = rw (eq-eqb p p refl)

pub entered_off : (basic : ℕ → ℕ) (p j i : ℕ) → i ≢ p → entered basic p j i ≡ basic i
entered_off basic p j i o = rw (ne_eqb i p o)

pub units : (m : ℕ) (t : Matrix) (basic : ℕ → ℕ) (p j : ℕ) → p < m → ¬ (t p j ≡ 0ℚ) → IsUnit m t basic →
    IsUnit m (pivoted t p j) (entered basic p j)
units m t basic p j h n u i r hi hr =
    by_eq i p
    (λ o. subst (λ i. pivoted t p j r (entered basic p j i) ≡ delta i r) (sym o)
    (ap (λ k. pivoted t p j r k) (entered_at basic p j) ∙ new_unit t p j r n))
    (λ o. ap (λ k. pivoted t p j r k) (entered_off basic p j i o)
    ∙ kept t p j r (basic i) (u i p hi h ∙ delta_other i p o)
    ∙ u i r hi hr)
