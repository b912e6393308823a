-- Along a ray feasible points get better without limit.
--
-- `length-made`: the list of f 0 to f (n - 1) has n numbers.
-- `unbounded_holds`: a model with a feasible point and an improving ray from it is unbounded.
use Rattle.std.proofs.Common.{◌≡◌, ℕ, zero, suc, pos, ◌<◌, List, [], ◌∷◌, length, Option}
use Rattle.std.proofs.Common.{Some, None, IfSome, refl, sym, ap, ◌∙◌, subst, subst₂, arith}
use Rattle.spec_exact.specs.Fraction.{whole, ℚ, ◌+ℚ◌, ◌-ℚ◌, ◌*ℚ◌, neg_ℚ, 0ℚ, 1ℚ, ◌≤ℚ◌, ◌<ℚ◌, inverse, floor}
use Rattle.spec_exact.specs.Sums.{sum_below}
use Rattle.spec_exact.proofs.Field.{+ℚ_zero, *ℚ_assoc, *ℚ_comm, *ℚ_one, *ℚ_zero, *ℚ_inverse}
use Rattle.spec_exact.proofs.Order.{*ℚ_mono}
use Rattle.spec_exact.proofs.Ruleset.{ring, neg-zero, neg-neg}
use Rattle.spec_exact.proofs.Strict.{neg_strict, +ℚ_strict, +ℚ_mono₂, *ℚ_strict, whole_least, not-zero_from_lt}
use Rattle.spec_exact.proofs.Floor.{below_floor}
use Rattle.spec_exact.proofs.Sums.{sum_below_same, sum_below-+ℚ, *ℚ-sum_below}
use Rattle.spec_model.specs.declared.parts.Sense.{Sense}
use Rattle.spec_model.specs.declared.parts.Sense.TheVariants.{Min, Max}
use Rattle.spec_model.specs.Model.{Model, Limits, bounds, cost, width, limits, coefficient, part, activity, value_of}
use Rattle.spec_model.specs.Truth.{IsBetween, IsBetter, IsUnbounded}
use Rattle.spec_check.specs.Checks.{signed, Allows, ChecksUnbounded}

abbrev pub made : ℕ → (ℕ → ℚ) → List ℚ
made zero f = []
made (suc n) f = f 0 ∷ made n (λ i. f (suc i))

pub length-made : (n : ℕ) (f : ℕ → ℚ) → length (made n f) ≡ n
length-made zero f = refl
length-made (suc n) f = ap suc (length-made n (λ i. f (suc i)))

-- part j of a list made from a function is what the function gives at j
part-made : (n : ℕ) (f : ℕ → ℚ) (j : ℕ) → j < n → part (made n f) j ≡ f j
part-made zero f j h = absurd (let k : ⊥ = omega arith in k)
part-made (suc n) f zero h = refl
part-made (suc n) f (suc j) h = part-made n (λ i. f (suc i)) j (omega arith)

-- a weighted sum at a point moved by t along a ray is the sum at the point plus t times the ray's sum
ray_sum : (n : ℕ) (a x r : ℕ → ℚ) (t : ℚ) →
    sum_below n (λ j. a j *ℚ (x j +ℚ t *ℚ r j)) ≡ sum_below n (λ j. a j *ℚ x j) +ℚ t *ℚ sum_below n (λ j. a j *ℚ r j)
ray_sum n a x r t =
    sum_below_same n _ (λ j. a j *ℚ x j +ℚ t *ℚ (a j *ℚ r j)) (λ j _. simp ring)
    ∙ sum_below-+ℚ n (λ j. a j *ℚ x j) (λ j. t *ℚ (a j *ℚ r j))
    ∙ ap (λ s. sum_below n (λ j. a j *ℚ x j) +ℚ s) (sym (*ℚ-sum_below t n (λ j. a j *ℚ r j)))

-- a number at or above a lower limit stays so along a ray that does not fall where the limit is given
lower_along : (o : Option ℚ) (v r t : ℚ) → 0ℚ ≤ℚ t → IfSome o (λ k. k ≤ℚ v) → IfSome o (λ _. 0ℚ ≤ℚ r) →
    IfSome o (λ k. k ≤ℚ (v +ℚ t *ℚ r))
lower_along None v r t p h g = tt
lower_along (Some k) v r t p h g =
    subst (λ a. a ≤ℚ (v +ℚ t *ℚ r)) (+ℚ_zero k)
    (+ℚ_mono₂ k v 0ℚ (t *ℚ r) h (subst (λ a. a ≤ℚ (t *ℚ r)) (*ℚ_zero t) (*ℚ_mono 0ℚ r t p g)))

-- a number at or below an upper limit stays so along a ray that does not rise where the limit is given
upper_along : (o : Option ℚ) (v r t : ℚ) → 0ℚ ≤ℚ t → IfSome o (λ k. v ≤ℚ k) → IfSome o (λ _. r ≤ℚ 0ℚ) →
    IfSome o (λ k. (v +ℚ t *ℚ r) ≤ℚ k)
upper_along None v r t p h g = tt
upper_along (Some k) v r t p h g =
    subst (λ a. (v +ℚ t *ℚ r) ≤ℚ a) (+ℚ_zero k)
    (+ℚ_mono₂ v k (t *ℚ r) 0ℚ h (subst (λ a. (t *ℚ r) ≤ℚ a) (*ℚ_zero t) (*ℚ_mono r 0ℚ t p g)))

-- a number between limits stays between them along a ray that the limits allow
along : (l : Limits) (v r t w : ℚ) → 0ℚ ≤ℚ t → IsBetween l v → Allows l r → w ≡ v +ℚ t *ℚ r → IsBetween l w
along l v r t w p b a e =
    subst (IsBetween l) (sym e) (record {
      lower = lower_along l.lower v r t p b.lower a.lower;
      upper = upper_along l.upper v r t p b.upper a.upper;
    })

-- a step so long that v + t * s is below w
abbrev step : ℚ → ℚ → ℚ → ℚ
step v s w = whole (pos (suc (floor ((v -ℚ w) *ℚ inverse (neg_ℚ s)))))

-- where s is below 0, the step for v, s and w along s takes v below w
far_enough : (v s w : ℚ) → s <ℚ 0ℚ → (v +ℚ step v s w *ℚ s) <ℚ w
far_enough v s w h =
    let d : ℚ = neg_ℚ s in
    let p : 0ℚ <ℚ d = subst (λ a. a <ℚ d) neg-zero (neg_strict s 0ℚ h) in
    let t : ℚ = step v s w in
    let q : (d *ℚ ((v -ℚ w) *ℚ inverse d)) <ℚ (d *ℚ t) = *ℚ_strict _ _ d p (below_floor _) in
    let e : d *ℚ ((v -ℚ w) *ℚ inverse d) ≡ v -ℚ w = cancelled d (v -ℚ w) (not-zero_from_lt d p) in
    let k : (v -ℚ w) <ℚ (d *ℚ t) = subst (λ a. a <ℚ (d *ℚ t)) e q in
    subst₂ ◌<ℚ◌ (moved v s w t) (moved₂ s w t) (+ℚ_strict _ _ (w +ℚ t *ℚ s) k)
  where
    cancelled : (d a : ℚ) → ¬ (d ≡ 0ℚ) → d *ℚ (a *ℚ inverse d) ≡ a
    cancelled d a n =
        ap (λ b. d *ℚ b) (*ℚ_comm a (inverse d)) ∙ sym (*ℚ_assoc d (inverse d) a)
        ∙ ap (λ b. b *ℚ a) (*ℚ_inverse d n) ∙ *ℚ_comm 1ℚ a ∙ *ℚ_one a

    moved : (v s w t : ℚ) → (v -ℚ w) +ℚ (w +ℚ t *ℚ s) ≡ v +ℚ t *ℚ s
    moved v s w t = simp ring

    moved₂ : (s w t : ℚ) → neg_ℚ s *ℚ t +ℚ (w +ℚ t *ℚ s) ≡ w
    moved₂ s w t = simp ring

-- where a ray's signed cost is below 0, some step along the ray makes v better than w
better_along : (s : Sense) (v w r : ℚ) → signed s r <ℚ 0ℚ → (t : ℚ) × (0ℚ ≤ℚ t) × IsBetter s (v +ℚ t *ℚ r) w
better_along Min v w r h = (step v r w, whole_least _, far_enough v r w h)
better_along Max v w r h = (
  step (neg_ℚ v) (neg_ℚ r) (neg_ℚ w),
  whole_least _,
  subst₂ ◌<ℚ◌ (neg-neg w) (back v r (step (neg_ℚ v) (neg_ℚ r) (neg_ℚ w)))
      (neg_strict _ _ (far_enough (neg_ℚ v) (neg_ℚ r) (neg_ℚ w) h)),
)
  where
    back : (v r t : ℚ) → neg_ℚ (neg_ℚ v +ℚ t *ℚ neg_ℚ r) ≡ v +ℚ t *ℚ r
    back v r t = simp ring

pub unbounded_holds : (m : Model) (x r : List ℚ) → ChecksUnbounded m x r → IsUnbounded m
unbounded_holds m x r h k =
    let n : ℕ = width m in
    let c : ℕ → ℚ = cost m in
    let good = better_along m.sense (value_of m x) (whole k) (sum_below n (λ j. c j *ℚ part r j))
    h.better in
    let t : ℚ = good.0 in
    let point : ℕ → ℚ = λ j. part x j +ℚ t *ℚ part r j in
    let z : List ℚ = made n point in
    let sums : (a : ℕ → ℚ) →
    sum_below n (λ j. a j *ℚ part z j) ≡ sum_below n (λ j. a j *ℚ part x j) +ℚ t *ℚ sum_below n (λ j. a j *ℚ part r j) =
    λ a. sum_below_same n _ _ (λ j p. ap (λ b. a j *ℚ b) (part-made n point j p)) ∙ ray_sum n a (part x) (part r) t in (
      z,
      record {
        one_each = length-made n point;
        columns =
            λ j p. along (bounds m j) (part x j) (part r j) t (part z j) good.1
            (h.feasible.columns j p) (h.columns j p) (part-made n point j p);
        rows =
            λ i p. along (limits m i) (activity m x i) (activity m r i) t
            (activity m z i) good.1 (h.feasible.rows i p) (h.rows i p) (sums (coefficient m i));
      },
      subst (λ a. IsBetter m.sense a (whole k)) (sym (ap (λ a. a +ℚ m.offset) (sums c)
          ∙ last (sum_below n (λ j. c j *ℚ part x j)) (t *ℚ sum_below n (λ j. c j *ℚ part r j)) m.offset)) good.2,
    )
  where
    last : (a b c : ℚ) → (a +ℚ b) +ℚ c ≡ (a +ℚ c) +ℚ b
    last a b c = simp ring
