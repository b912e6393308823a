-- How each row begins.
use Rattle.std.proofs.Common.{◌≡◌, ℕ, ◌+◌, Option, Some, None, Ok, refl, sym, ap, ◌∙◌, subst}
use Rattle.spec_exact.specs.Fraction.{ℚ, 0ℚ, ◌+ℚ◌, ◌-ℚ◌, ◌*ℚ◌, ◌≤ℚ◌, ◌<ℚ◌}
use Rattle.spec_exact.specs.Sums.{sum_below}
use Rattle.spec_exact.proofs.Order.{≤ℚ_refl, <ℚ-le}
use Rattle.spec_simplex.specs.declared.ends.RowStart.{RowStart}
use Rattle.spec_simplex.specs.declared.ends.RowStart.TheVariants.{Within, Below, Above}
use Rattle.spec_simplex.specs.Form.{Form, form_entry, form_lower, form_upper}
use Rattle.spec_exact.specs.Run.{Run, ◌>>=◌, difference_run, plus_product}
use Rattle.spec_simplex.specs.Start.{first_value, row_sum, below_by, below_run, above_by}
use Rattle.spec_simplex.specs.Start.{above_run, within_or_above, row_start_by, row_start}
use Rattle.spec_simplex.proofs.Orders.{by_order, given}
use Rattle.spec_simplex.proofs.RunParts.{then_ok, difference_ok, plus_ok, steps_ok}

-- the exact sum of row i at the values that the structural columns begin with
abbrev pub first_sum : Form → ℕ → ℚ
first_sum f i = sum_below f.cols (λ j. form_entry f i j *ℚ first_value f j)

-- A row with the lower limit l, the upper limit u and the sum v begins so: within both limits with v, below l by l - v,
-- or above u by v - u.
pub data RowBegins (l u : Option ℚ) (v : ℚ) : RowStart ℚ → Type 0 where
  within : ((a : ℚ) → l ≡ Some a → a ≤ℚ v) → ((a : ℚ) → u ≡ Some a → v ≤ℚ a) → RowBegins l u v (Within v)
  below : (a : ℚ) → l ≡ Some a → v <ℚ a → RowBegins l u v (Below (a -ℚ v))
  above : (a : ℚ) → u ≡ Some a → a <ℚ v → RowBegins l u v (Above (v -ℚ a))

-- the gap to the limit o, found by `gap` where o is there and `past` holds of it; none where o is absent or `beside`
-- holds of it
data Gap (o : Option ℚ) (beside past : ℚ → Type 0) (gap : ℚ → ℚ) : Option ℚ → Type 0 where
  none : ((a : ℚ) → o ≡ Some a → beside a) → Gap o beside past gap None
  some : (a : ℚ) → o ≡ Some a → past a → Gap o beside past gap (Some (gap a))

module _ (a : ℚ) (beside past : ℚ → Type 0) (gap : ℚ → ℚ) (g : Option ℚ) where
  -- where `beside` holds of the limit a and the run gives no gap, that is the gap to a
  no_gap : beside a → ◌≡◌ {A = Run (Option ℚ)} (Ok None) (Ok g) → Gap (Some a) beside past gap g
  no_gap h e =
      given (Gap (Some a) beside past gap) None g e (none (λ c z. let y : a ≡ c = cc in subst beside y h))

  -- where `past` holds of the limit a, and the run gives v - w, which is the gap to a, that is its gap
  a_gap : (limit : Option ℕ) (v w : ℚ) → gap a ≡ v -ℚ w → past a →
      (difference_run limit v w >>= λ x. Ok (Some x)) ≡ Ok g → Gap (Some a) beside past gap g
  a_gap limit v w is h e =
      let o = then_ok (difference_run limit v w) (λ x. Ok (Some x)) g e in
      let z : Some o.0 ≡ g = cc in
      subst (Gap (Some a) beside past gap) (ap Some (is ∙ sym (difference_ok limit v w o.0 o.1)) ∙ z) (some a refl h)

-- the gap by which the sum v is below the lower limit l; none where it is not below or l is absent
abbrev BelowGap : Option ℚ → ℚ → Option ℚ → Type 0
BelowGap l v = Gap l (λ a. a ≤ℚ v) (λ a. v <ℚ a) (λ a. a -ℚ v)

-- the gap by which the sum v is above the upper limit u; none where it is not above or u is absent
abbrev AboveGap : Option ℚ → ℚ → Option ℚ → Type 0
AboveGap u v = Gap u (λ a. v ≤ℚ a) (λ a. a <ℚ v) (λ a. v -ℚ a)

-- the run finds the gap by which a sum is below its lower limit, if any
below_is : (limit : Option ℕ) (l : Option ℚ) (v : ℚ) (gap : Option ℚ) → below_run limit l v ≡ Ok gap → BelowGap l v gap
below_is limit None v gap h = given (BelowGap None v) None gap h (none (λ a z. let y : None ≡ Some a = z in cc))
below_is limit (Some l) v gap h =
    by_order limit v l (below_by limit l v) gap (BelowGap (Some l) v gap) h
    (a_gap l (λ a. a ≤ℚ v) (λ a. v <ℚ a) (λ a. a -ℚ v) gap limit l v refl)
    (λ e. no_gap l (λ a. a ≤ℚ v) (λ a. v <ℚ a) (λ a. a -ℚ v) gap (subst (λ a. a ≤ℚ v) e (≤ℚ_refl v)))
    (λ p. no_gap l (λ a. a ≤ℚ v) (λ a. v <ℚ a) (λ a. a -ℚ v) gap (<ℚ-le l v p))

-- the run finds the gap by which a sum is above its upper limit, if any
above_is : (limit : Option ℕ) (u : Option ℚ) (v : ℚ) (gap : Option ℚ) → above_run limit u v ≡ Ok gap → AboveGap u v gap
above_is limit None v gap h = given (AboveGap None v) None gap h (none (λ a z. let y : None ≡ Some a = z in cc))
above_is limit (Some u) v gap h =
    by_order limit v u (above_by limit u v) gap (AboveGap (Some u) v gap) h
    (λ p. no_gap u (λ a. v ≤ℚ a) (λ a. a <ℚ v) (λ a. v -ℚ a) gap (<ℚ-le v u p))
    (λ e. no_gap u (λ a. v ≤ℚ a) (λ a. a <ℚ v) (λ a. v -ℚ a) gap (subst (λ a. v ≤ℚ a) e (≤ℚ_refl v)))
    (a_gap u (λ a. v ≤ℚ a) (λ a. a <ℚ v) (λ a. v -ℚ a) gap limit v u refl)

-- the run finds a row's sum at the first values of the structural columns
sum_is : (limit : Option ℕ) (f : Form) (i : ℕ) (v : ℚ) → row_sum limit f i ≡ Ok v → v ≡ first_sum f i
sum_is limit f i v h =
    steps_ok (λ n s. s ≡ sum_below n (λ j. form_entry f i j *ℚ first_value f j)) f.cols
    (λ j s. plus_product limit (form_entry f i j) (first_value f j) s) 0ℚ v h refl
    (λ j x y l was is. plus_ok limit (form_entry f i j) (first_value f j) x y is
    ∙ ap (λ s. s +ℚ form_entry f i j *ℚ first_value f j) was)

-- a row whose gap below its lower limit is known begins as the run finds
start_by : (limit : Option ℕ) (l u : Option ℚ) (v : ℚ) (gap : Option ℚ) (s : RowStart ℚ) → BelowGap l v gap →
    row_start_by limit u v gap ≡ Ok s → RowBegins l u v s
start_by limit l u v None s (none low) h =
    let o = then_ok (above_run limit u v) (λ gap. Ok (within_or_above v gap)) s h in
    let z : within_or_above v o.0 ≡ s = cc in
    subst (RowBegins l u v) z (go o.0 (above_is limit u v o.0 o.1))
  where
    go : (gap : Option ℚ) → AboveGap u v gap → RowBegins l u v (within_or_above v gap)
    go None (none high) = within low high
    go (Some g) (some a e h) = above a e h
start_by limit l u v (Some g) s (some a e lt) h =
    let z : Below (a -ℚ v) ≡ s = cc in subst (RowBegins l u v) z (below a e lt)

-- a row begins as the run finds, by its limits and its first sum
pub start_is : (limit : Option ℕ) (f : Form) (i : ℕ) (s : RowStart ℚ) → row_start limit f i ≡ Ok s →
    RowBegins (form_lower f (f.cols + i)) (form_upper f (f.cols + i)) (first_sum f i) s
start_is limit f i s h =
    let o =
    then_ok (row_sum limit f i) (λ v. below_run limit (form_lower f (f.cols + i)) v >>=
    λ gap. row_start_by limit (form_upper f (f.cols + i)) v gap) s h in
    let p =
    then_ok (below_run limit (form_lower f (f.cols + i)) o.0)
    (λ gap. row_start_by limit (form_upper f (f.cols + i)) o.0 gap) s o.2 in
    subst (λ v. RowBegins (form_lower f (f.cols + i)) (form_upper f (f.cols + i)) v s) (sum_is limit f i o.0 o.1)
    (start_by limit (form_lower f (f.cols + i)) (form_upper f (f.cols + i)) o.0 p.0 s
    (below_is limit (form_lower f (f.cols + i)) o.0 p.0 p.1) p.2)
