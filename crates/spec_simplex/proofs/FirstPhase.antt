-- The artificials in phase one: it is never unbounded; and where one of them is not 0 at its end, the reduced costs
-- times the values of all other columns sum up to more than 0.
use Rattle.std.proofs.Common.{◌≡◌, ℕ, zero, suc, ◌+◌, ◌<◌, ◌⊎◌, List, length, get_or, map}
use Rattle.std.proofs.Common.{replicate, Some, None, IfSome}
use Rattle.std.proofs.Common.{refl, sym, ap, ap₂, ◌∙◌, subst, subst₂, arith, inl, inr}
use Rattle.std.proofs.lemmas.List.{length-replicate, get_or_append_left}
use Rattle.std.proofs.lemmas.List.{get_or-append-add, get_or-replicate, get_or-map}
use Rattle.spec_exact.specs.Fraction.{ℚ, ◌+ℚ◌, ◌*ℚ◌, 0ℚ, ◌≤ℚ◌, ◌<ℚ◌}
use Rattle.spec_exact.specs.Sums.{sum_below}
use Rattle.spec_exact.proofs.Field.{+ℚ_zero, +ℚ_comm, *ℚ_zero}
use Rattle.spec_exact.proofs.Order.{≤ℚ_refl, ≤ℚ_antisym, clash_ℚ}
use Rattle.spec_exact.proofs.Ruleset.{zero-+ℚ, zero-*ℚ, one-*ℚ}
use Rattle.spec_exact.proofs.Strict.{<ℚ-≤ℚ_trans, +ℚ_mono₂, by_sign}
use Rattle.spec_exact.proofs.Sums.{sum_below_none, sum_below_same}
use Rattle.spec_pivot.specs.declared.status.Way.{Way}
use Rattle.spec_pivot.specs.Simplex.{Bounds, Table, IsInside, IsWithin, IsTableau, ray}
use Rattle.spec_pivot.specs.Ratio.{GoesOn}
use Rattle.spec_pivot.proofs.Fixed.{costs_agree}
use Rattle.spec_pivot.proofs.Pivot.{by_eq}
use Rattle.spec_pivot.proofs.Values.{by_basic, zero_at_basic}
use Rattle.spec_simplex.specs.declared.ends.RowStart.{RowStart}
use Rattle.spec_simplex.specs.declared.ends.RowStart.TheVariants.{Within, Below, Above}
use Rattle.spec_simplex.specs.Start.{start_at, cost_at, first_cost, first_costs, artificial_upper}
use Rattle.spec_simplex.specs.Begins.{form_rows, signs_of}
use Rattle.spec_simplex.proofs.ColumnKinds.{sum_by_kind}
use Rattle.spec_simplex.proofs.PhaseTwo.{stands_zero}
use Rattle.spec_simplex.specs.Form.{Form}
use Rattle.spec_simplex.proofs.Rays.{allowed, falls}

-- ---- sums

-- a sum whose terms are at least 0 is at least 0
sum_least : (n : ℕ) (f : ℕ → ℚ) → ((i : ℕ) → i < n → 0ℚ ≤ℚ f i) → 0ℚ ≤ℚ sum_below n f
sum_least zero f h = ≤ℚ_refl 0ℚ
sum_least (suc n) f h =
    subst (λ a. a ≤ℚ sum_below (suc n) f) (+ℚ_zero 0ℚ)
    (+ℚ_mono₂ 0ℚ (sum_below n f) 0ℚ (f n) (sum_least n f (λ i p. h i (omega (arith, p)))) (h n (omega arith)))

-- a number above 0 and one that is at least 0 have a sum above 0
positive_sum : (a b : ℚ) → 0ℚ <ℚ a → 0ℚ ≤ℚ b → 0ℚ <ℚ (a +ℚ b)
positive_sum a b h k =
    <ℚ-≤ℚ_trans 0ℚ a (a +ℚ b) h (subst (λ z. z ≤ℚ (a +ℚ b)) (+ℚ_zero a) (+ℚ_mono₂ a a 0ℚ b (≤ℚ_refl a) k))

-- a sum of terms that are at least 0, of which one is above 0, is above 0
sum_positive : (n : ℕ) (f : ℕ → ℚ) → ((i : ℕ) → i < n → 0ℚ ≤ℚ f i) → (r : ℕ) → r < n → 0ℚ <ℚ f r → 0ℚ <ℚ sum_below n f
sum_positive zero f h r p k = absurd (let z : ⊥ = omega (arith, p) in z)
sum_positive (suc n) f h r p k =
    by_eq r n
    (λ e. subst (λ z. 0ℚ <ℚ z) (+ℚ_comm (f n) (sum_below n f))
    (positive_sum (f n) (sum_below n f) (subst (λ i. 0ℚ <ℚ f i) e k) (sum_least n f (λ i q. h i (omega (arith, q))))))
    (λ o. positive_sum (sum_below n f) (f n)
    (sum_positive n f (λ i q. h i (omega (arith, q))) r (omega (arith, p, o)) k) (h n (omega arith)))

-- ---- artificials of phase one

-- an artificial column has no upper bound, or the upper bound 0
top_of : (s : RowStart ℚ) → (artificial_upper s ≡ None) ⊎ (artificial_upper s ≡ Some 0ℚ)
top_of (Within v) = inr refl
top_of (Below g) = inl refl
top_of (Above g) = inl refl

-- the cost of an artificial value that is at least 0 is at least 0
cost_least : (s : RowStart ℚ) (a : ℚ) → 0ℚ ≤ℚ a → 0ℚ ≤ℚ (first_cost s *ℚ a)
cost_least (Within v) a h = subst (λ z. 0ℚ ≤ℚ z) (sym (zero-*ℚ a)) (≤ℚ_refl 0ℚ)
cost_least (Below g) a h = subst (λ z. 0ℚ ≤ℚ z) (sym (one-*ℚ a)) h
cost_least (Above g) a h = subst (λ z. 0ℚ ≤ℚ z) (sym (one-*ℚ a)) h

-- a number that is at least 0 and not 0 is above 0
positive : (a : ℚ) → 0ℚ ≤ℚ a → ¬ (a ≡ 0ℚ) → 0ℚ <ℚ a
positive a h n = by_sign a (λ p. p) (λ p. clash_ℚ a 0ℚ p h) (λ e. absurd (n e))

-- an artificial value within its bounds that is not 0 has a cost above 0 in phase one
cost_positive : (s : RowStart ℚ) (a : ℚ) → IsInside (Some 0ℚ) (artificial_upper s) a → ¬ (a ≡ 0ℚ) →
    0ℚ <ℚ (first_cost s *ℚ a)
cost_positive (Within v) a i n = absurd (n (≤ℚ_antisym a 0ℚ i.upper i.lower))
cost_positive (Below g) a i n = subst (λ z. 0ℚ <ℚ z) (sym (one-*ℚ a)) (positive a i.lower n)
cost_positive (Above g) a i n = subst (λ z. 0ℚ <ℚ z) (sym (one-*ℚ a)) (positive a i.lower n)

module _ (f : Form) (starts : List (RowStart ℚ)) where
  -- how many columns a tableau of the form f has: structural, logical and artificial ones
  abbrev n : ℕ
  n = f.cols + f.rows + f.rows

  -- the cost of each column in phase one, by how the rows begin
  abbrev costs : ℕ → ℚ
  costs = cost_at (first_costs f starts)

  -- in phase one each structural and each logical column has the cost 0
  pub cost_before : (k : ℕ) → k < f.cols + f.rows → costs k ≡ 0ℚ
  cost_before k p =
      get_or_append_left (replicate (f.cols + f.rows) 0ℚ) (map first_cost starts) 0ℚ k
      (omega (arith, p, length-replicate (f.cols + f.rows) 0ℚ)) ∙ get_or-replicate (f.cols + f.rows) k 0ℚ 0ℚ p

  -- the cost of the artificial column of row i in phase one is the one of the row's start
  cost_after : length starts ≡ f.rows → (i : ℕ) → i < f.rows →
      costs (f.cols + f.rows + i) ≡ first_cost (start_at starts i)
  cost_after all i p =
      ap (λ k. get_or (first_costs f starts) (k + i) 0ℚ) (sym (length-replicate (f.cols + f.rows) 0ℚ))
      ∙ get_or-append-add (replicate (f.cols + f.rows) 0ℚ) (map first_cost starts) i 0ℚ
      ∙ get_or-map first_cost starts i (Within 0ℚ) 0ℚ (omega (arith, p, all))

  -- the costs of phase one times numbers z sum up to the sum, over the rows, of the artificial column's cost times its
  -- number
  costs_sum : length starts ≡ f.rows → (z : ℕ → ℚ) →
      sum_below n (λ k. costs k *ℚ z k) ≡ sum_below f.rows (λ i. first_cost (start_at starts i) *ℚ z
      (f.cols + f.rows + i))
  costs_sum all z =
      sum_by_kind f.cols f.rows (λ k. costs k *ℚ z k)
      ∙ ap₂ ◌+ℚ◌
      (ap₂ ◌+ℚ◌
      (sum_below_none f.cols _ (λ j p. ap (λ a. a *ℚ z j) (cost_before j (omega (arith, p))) ∙ zero-*ℚ _))
      (sum_below_none f.rows _ (λ i p. ap (λ a. a *ℚ z (f.cols + i)) (cost_before (f.cols + i) (omega (arith, p)))
      ∙ zero-*ℚ _)))
      (sum_below_same f.rows _ _ (λ i p. ap (λ a. a *ℚ z (f.cols + f.rows + i)) (cost_after all i p)))
      ∙ ap (λ a. a +ℚ sum_below f.rows (λ i. first_cost (start_at starts i) *ℚ z (f.cols + f.rows + i)))
      (+ℚ_zero 0ℚ) ∙ zero-+ℚ _

module _ (f : Form) (starts : List (RowStart ℚ)) (all : length starts ≡ f.rows) (b : Bounds)
    (artificial : (i : ℕ) → i < f.rows → (b.lower (f.cols + f.rows + i) ≡ Some 0ℚ)
    × (b.upper (f.cols + f.rows + i) ≡ artificial_upper (start_at starts i)))
    (t : Table) (g : IsTableau f.rows (f.cols + f.rows + f.rows) (form_rows f (signs_of starts))
    (cost_at (first_costs f starts)) b t) where
  -- how many structural columns the form f has
  abbrev w : ℕ
  w = f.cols

  -- how many rows the form f has
  abbrev r : ℕ
  r = f.rows

  -- how many columns a tableau of the form f has: structural, logical and artificial ones
  abbrev size : ℕ
  size = f.cols + f.rows + f.rows

  -- the equations of the form f, with the signs of the artificials by how the rows begin
  abbrev F : ℕ → ℕ → ℚ
  F = form_rows f (signs_of starts)

  -- the cost of each column in phase one, by how the rows begin
  abbrev priced : ℕ → ℚ
  priced = cost_at (first_costs f starts)

  -- ---- phase one ends
  -- in phase one no entering column goes on without end, whichever way it moves
  pub never_goes_on : (way : Way) (j : ℕ) → ¬ (GoesOn r size b t way j)
  never_goes_on way j e =
      clash_ℚ (sum_below size (λ k. priced k *ℚ ray r t way j k)) 0ℚ (falls r size F priced b t g way j e)
      (subst (λ a. 0ℚ ≤ℚ a) (sym (costs_sum f starts all (ray r t way j)))
      (sum_least r _ (λ i p. cost_least (start_at starts i) (ray r t way j (w + r + i)) (rises i p))))
    where
      rises : (i : ℕ) → i < r → 0ℚ ≤ℚ ray r t way j (w + r + i)
      rises i p =
          subst (λ o. IfSome o (λ _. 0ℚ ≤ℚ ray r t way j (w + r + i)))
          (artificial i p).0 (allowed r size F priced b t g way j e (w + r + i) (omega (arith, p))).lower

  module _ (within : IsWithin (f.cols + f.rows + f.rows) b t) (r0 : ℕ) (r0_in : r0 < f.rows)
      (not_zero : ¬ (t.value (f.cols + f.rows + r0) ≡ 0ℚ)) where
    -- the reduced costs of the table t
    abbrev d : ℕ → ℚ
    d = t.reduced

    -- the values of the table t
    abbrev v : ℕ → ℚ
    v = t.value

    -- the cost of phase one at the table t: the sum over the rows of the cost of the artificial times its value
    U : ℚ
    U = sum_below r (λ i. first_cost (start_at starts i) *ℚ v (w + r + i))

    -- the reduced cost of each artificial column times its value is 0
    no_part : (i : ℕ) → i < r → d (w + r + i) *ℚ v (w + r + i) ≡ 0ℚ
    no_part i p =
        by_basic (t.status (w + r + i))
        (λ s. ap (λ a. a *ℚ v (w + r + i)) (zero_at_basic r size F priced b t g (w + r + i) (omega (arith, p)) s)
        ∙ zero-*ℚ _)
        (λ s. ap (λ a. d (w + r + i) *ℚ a)
        (stands_zero (t.status (w + r + i)) (b.lower (w + r + i))
        (b.upper (w + r + i)) (v (w + r + i)) (artificial i p).0
        (subst (λ o. (o ≡ None) ⊎ (o ≡ Some 0ℚ)) (sym (artificial i p).1) (top_of (start_at starts i))) s
        (g.stands (w + r + i) (omega (arith, p)))) ∙ *ℚ_zero _)

    -- the reduced costs times the values of the structural and logical columns sum up to the cost of phase one
    balance : sum_below w (λ j. d j *ℚ v j) +ℚ sum_below r (λ i. d (w + i) *ℚ v (w + i)) ≡ U
    unfolding U
    balance =
        sym (+ℚ_zero _) ∙ ap (λ z. (sum_below w (λ j. d j *ℚ v j) +ℚ sum_below r (λ i. d (w + i) *ℚ v (w + i))) +ℚ z)
        (sym (sum_below_none r _ no_part))
        ∙ sym (sum_by_kind w r (λ k. d k *ℚ v k))
        ∙ costs_agree r size F priced d v g.costs.weights g.costs.less g.solves
        ∙ costs_sum f starts all v

    -- the value of each artificial column is within 0 and the upper bound that it has by how its row begins
    inside_at : (i : ℕ) → i < r → IsInside (Some 0ℚ) (artificial_upper (start_at starts i)) (v (w + r + i))
    inside_at i p =
        subst₂ (λ l u. IsInside l u (v (w + r + i)))
        (artificial i p).0 (artificial i p).1 (within (w + r + i) (omega (arith, p)))

    -- the cost of phase one is above 0, as one artificial is not 0
    above_zero : 0ℚ <ℚ U
    unfolding U
    above_zero =
        sum_positive r _ (λ i p. cost_least (start_at starts i) (v (w + r + i)) (inside_at i p).lower) r0 r0_in
        (cost_positive (start_at starts r0) (v (w + r + r0)) (inside_at r0 r0_in) not_zero)

    -- where an artificial is not 0, the reduced costs times the values of the structural and logical columns sum up to
    -- more than 0
    pub balance_positive : 0ℚ <ℚ (sum_below f.cols (λ j. t.reduced j *ℚ t.value j)
        +ℚ sum_below f.rows (λ i. t.reduced (f.cols + i) *ℚ t.value (f.cols + i)))
    balance_positive = subst (λ z. 0ℚ <ℚ z) (sym balance) above_zero
