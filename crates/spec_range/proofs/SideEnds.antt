-- The ends of a right side: between them each basic value is within its bounds, and nowhere else.
use mathlib.Core.Logic.Iff.{trans}
use Rattle.std.proofs.Common.{◌≡◌, ◌≢◌, ◌↔◌, ℕ, suc, ◌<◌, Option, Some, None, IfSome, Ok, Bool, true, false}
use Rattle.std.proofs.Common.{not, ◌&&◌, cond, refl, sym, ap, ◌∙◌, subst, subst₂, arith}
use Rattle.std.proofs.lemmas.Bool.{and_parts, not-true, not-false}
use Rattle.spec_exact.specs.Fraction.{ℚ, ◌+ℚ◌, ◌-ℚ◌, ◌*ℚ◌, neg_ℚ, 0ℚ, 1ℚ, ◌≤ℚ◌, inverse, eq_ℚ, lt_ℚ}
use Rattle.spec_exact.specs.Run.{sum_run, difference_run, quotient_run}
use Rattle.spec_exact.proofs.Field.{*ℚ_inverse}
use Rattle.spec_exact.proofs.Order.{+ℚ_mono}
use Rattle.spec_exact.proofs.Ruleset.{ring}
use Rattle.spec_exact.proofs.Same.{eq_if, eq_test}
use Rattle.spec_pivot.specs.declared.status.Status.TheVariants.{Basic}
use Rattle.spec_pivot.specs.Simplex.{IsInside}
use Rattle.spec_pivot.proofs.Pivot.{by_eq}
use Rattle.spec_simplex.specs.Tableau.{Tableau, all_columns, entry_at, value_at, status_at}
use Rattle.spec_simplex.specs.Tableau.{lower_at, upper_at, is_basic}
use Rattle.spec_simplex.specs.Dual.{place_of}
use Rattle.spec_simplex.proofs.Statuses.{basic_if}
use Rattle.spec_simplex.proofs.RunParts.{then_ok, steps_ok, sum_ok, difference_ok, quotient_ok}
use Rattle.spec_simplex.proofs.Orders.{given}
use Rattle.spec_runs.proofs.Counts.{basic_test}
use Rattle.spec_range.specs.declared.range.Ends.{Ends}
use Rattle.spec_range.specs.Span.{IsIn}
use Rattle.spec_range.specs.Rule.{no_ends, at_side, shifted_run, still_ends, bound_ends, carried_ends, is_carried}
use Rattle.spec_range.specs.Rule.{nonbasic_ends}
use Rattle.spec_range.proofs.TightestEnds.{Cuts, Meets, at_side_ok, cuts_as, cuts_none, cuts_both}
use Rattle.spec_range.proofs.SignsAlong.{up_from, down_from, meets_above, meets_below}
use Rattle.spec_range.proofs.Sides.{shifted}

-- ---- a bound that moves along
-- the right sides up to `high` are those with which the bound, moved along with the right side from b, is at most v
abbrev Highest : ℚ → ℚ → Option ℚ → Option ℚ → Type 0
Highest b v bound high = (x : ℚ) → IfSome high (λ k. x ≤ℚ k) ↔ IfSome (shifted (x -ℚ b) bound) (λ l. l ≤ℚ v)

-- the right sides from `low` on are those with which the bound, moved along with the right side from b, is at least v
abbrev Lowest : ℚ → ℚ → Option ℚ → Option ℚ → Type 0
Lowest b v bound low = (x : ℚ) → IfSome low (λ k. k ≤ℚ x) ↔ IfSome (shifted (x -ℚ b) bound) (λ u. v ≤ℚ u)

-- x is at most b plus v less l exactly where l plus x less b is at most v
high_is : (b v l x : ℚ) → x ≤ℚ (b +ℚ (v -ℚ l)) ↔ (l +ℚ (x -ℚ b)) ≤ℚ v
high_is b v l x = (
  λ h. subst₂ ◌≤ℚ◌ (simp ring) (simp ring) (+ℚ_mono x (b +ℚ (v -ℚ l)) (l -ℚ b) h),
  λ h. subst₂ ◌≤ℚ◌ (simp ring) (simp ring) (+ℚ_mono (l +ℚ (x -ℚ b)) v (b -ℚ l) h),
)

-- x is at least b plus v less u exactly where u plus x less b is at least v
low_is : (b v u x : ℚ) → (b +ℚ (v -ℚ u)) ≤ℚ x ↔ v ≤ℚ (u +ℚ (x -ℚ b))
low_is b v u x = (
  λ h. subst₂ ◌≤ℚ◌ (simp ring) (simp ring) (+ℚ_mono (b +ℚ (v -ℚ u)) x (u -ℚ b) h),
  λ h. subst₂ ◌≤ℚ◌ (simp ring) (simp ring) (+ℚ_mono v (u +ℚ (x -ℚ b)) (b -ℚ u) h),
)

-- where the end for a bound l is not refused, it is b plus v less l
shift_is : (limit : Option ℕ) (b v l : ℚ) (o : Option ℚ) → shifted_run limit b v (Some l) ≡ Ok o → Some (b +ℚ (v -ℚ l)) ≡ o
shift_is limit b v l o h =
    let u = then_ok (difference_run limit v l) _ o h in
    let y = then_ok (sum_run limit b u.0) _ o u.2 in
    let z : Some y.0 ≡ o = cc in
    ap Some (sym (sum_ok limit b u.0 y.0 y.1 ∙ ap (λ g. b +ℚ g) (difference_ok limit v l u.0 u.1))) ∙ z

-- the end found for a lower bound that moves along is the highest right side with v at or above the bound
high_ok : (limit : Option ℕ) (b v : ℚ) (bound high : Option ℚ) → shifted_run limit b v bound ≡ Ok high →
    Highest b v bound high
high_ok limit b v None high h = given (Highest b v None) None high h (λ x. (λ i. i, λ i. i))
high_ok limit b v (Some l) high h = subst (Highest b v (Some l)) (shift_is limit b v l high h) (high_is b v l)

-- the end found for an upper bound that moves along is the lowest right side with v at or below the bound
low_ok : (limit : Option ℕ) (b v : ℚ) (bound low : Option ℚ) → shifted_run limit b v bound ≡ Ok low →
    Lowest b v bound low
low_ok limit b v None low h = given (Lowest b v None) None low h (λ x. (λ i. i, λ i. i))
low_ok limit b v (Some u) low h = subst (Lowest b v (Some u)) (shift_is limit b v u low h) (low_is b v u)

-- the ends found for bounds that move along hold exactly the right sides with v within the moved bounds
pub still_ok : (limit : Option ℕ) (b v : ℚ) (lower upper : Option ℚ) (e : Ends ℚ) →
    still_ends limit b v lower upper ≡ Ok e → (x : ℚ) →
    IsIn e x ↔ IsInside (shifted (x -ℚ b) lower) (shifted (x -ℚ b) upper) v
still_ok limit b v lower upper e h x =
    let o = then_ok (shifted_run limit b v lower) _ e h in
    let p = then_ok (shifted_run limit b v upper) _ e o.2 in
    given (λ e. IsIn e x ↔ IsInside (shifted (x -ℚ b) lower) (shifted (x -ℚ b) upper) v)
    (record { low = p.0; high = o.0 }) e p.2 (
      λ i. record {
        lower = (high_ok limit b v lower o.0 o.1 x).0 i.upper;
        upper = (low_ok limit b v upper p.0 p.1 x).0 i.lower;
      },
      λ i. record {
        lower = (low_ok limit b v upper p.0 p.1 x).1 i.upper;
        upper = (high_ok limit b v lower o.0 o.1 x).1 i.lower;
      },
    )

-- ---- a value that is carried along

-- the value v of a basic column, whose entry is a, when the right side goes from b to x
abbrev carried_value : ℚ → ℚ → ℚ → ℚ → ℚ
carried_value b v a x = v +ℚ (x -ℚ b) *ℚ neg_ℚ a

-- a * (end - x) = carried - bound: at the right side `end` the value meets the bound, at x it is `carried`
carried_is : (b v a bound x : ℚ) → a ≢ 0ℚ →
    a *ℚ ((b +ℚ (v -ℚ bound) *ℚ inverse a) -ℚ x) ≡ carried_value b v a x -ℚ bound
carried_is b v a bound x n = by (inverse a) (*ℚ_inverse a n)
  where
    out : (b v a l x i : ℚ) → a *ℚ ((b +ℚ (v -ℚ l) *ℚ i) -ℚ x) ≡ (a *ℚ i) *ℚ (v -ℚ l) +ℚ (a *ℚ b -ℚ a *ℚ x)
    out b v a l x i = simp ring

    in_ : (b v a l x : ℚ) → 1ℚ *ℚ (v -ℚ l) +ℚ (a *ℚ b -ℚ a *ℚ x) ≡ (v +ℚ (x -ℚ b) *ℚ neg_ℚ a) -ℚ l
    in_ b v a l x = simp ring

    by : (i : ℚ) → a *ℚ i ≡ 1ℚ → a *ℚ ((b +ℚ (v -ℚ bound) *ℚ i) -ℚ x) ≡ carried_value b v a x -ℚ bound
    by i e = out b v a bound x i ∙ ap (λ z. z *ℚ (v -ℚ bound) +ℚ (a *ℚ b -ℚ a *ℚ x)) e ∙ in_ b v a bound x

-- the ends are cut at b plus what the value is above the bound divided by the entry
number_is : (limit : Option ℕ) (b v a bound : ℚ) (upper : Bool) (e y : Ends ℚ) →
    bound_ends limit b v a (Some bound) upper e ≡ Ok y →
    at_side limit upper (b +ℚ (v -ℚ bound) *ℚ inverse a) e ≡ Ok y
number_is limit b v a bound upper e y h =
    let o = then_ok (difference_run limit v bound) _ y h in
    let p = then_ok (quotient_run limit o.0 a) _ y o.2 in
    let q = then_ok (sum_run limit b p.0) _ y p.2 in
    ap (λ z. at_side limit upper z e)
    (sym (sum_ok limit b p.0 q.0 q.1 ∙ ap (λ z. b +ℚ z) (quotient_ok limit o.0 a p.0 p.1
    ∙ ap (λ z. z *ℚ inverse a) (difference_ok limit v bound o.0 o.1)))) ∙ q.2

-- the ends are cut to the right sides at which the carried value is at or above its lower bound
lower_ok : (limit : Option ℕ) (b v a : ℚ) (bound : Option ℚ) (e y : Ends ℚ) → a ≢ 0ℚ →
    bound_ends limit b v a bound (lt_ℚ 0ℚ a) e ≡ Ok y →
    Cuts e (λ x. IfSome bound (λ l. l ≤ℚ carried_value b v a x)) y
lower_ok limit b v a None e y n h = cuts_none e y _ (λ x. tt) h
lower_ok limit b v a (Some l) e y n h =
    cuts_as e y (Meets (lt_ℚ 0ℚ a) (b +ℚ (v -ℚ l) *ℚ inverse a)) (λ x. l ≤ℚ carried_value b v a x)
    (λ x. trans (meets_above a (b +ℚ (v -ℚ l) *ℚ inverse a) n x)
    (subst (λ z. (0ℚ ≤ℚ z) ↔ (l ≤ℚ carried_value b v a x)) (sym (carried_is b v a l x n))
    (let o = up_from (carried_value b v a x) l in (o.1, o.0))))
    (at_side_ok limit (lt_ℚ 0ℚ a) (b +ℚ (v -ℚ l) *ℚ inverse a) e y (number_is limit b v a l (lt_ℚ 0ℚ a) e y h))

-- the ends are cut to the right sides at which the carried value is at or below its upper bound
upper_ok : (limit : Option ℕ) (b v a : ℚ) (bound : Option ℚ) (e y : Ends ℚ) → a ≢ 0ℚ →
    bound_ends limit b v a bound (not (lt_ℚ 0ℚ a)) e ≡ Ok y →
    Cuts e (λ x. IfSome bound (λ u. carried_value b v a x ≤ℚ u)) y
upper_ok limit b v a None e y n h = cuts_none e y _ (λ x. tt) h
upper_ok limit b v a (Some u) e y n h =
    cuts_as e y (Meets (not (lt_ℚ 0ℚ a)) (b +ℚ (v -ℚ u) *ℚ inverse a)) (λ x. carried_value b v a x ≤ℚ u)
    (λ x. trans (meets_below a (b +ℚ (v -ℚ u) *ℚ inverse a) n x)
    (subst (λ z. (z ≤ℚ 0ℚ) ↔ (carried_value b v a x ≤ℚ u)) (sym (carried_is b v a u x n))
    (let o = down_from (carried_value b v a x) u in (o.1, o.0))))
    (at_side_ok limit (not (lt_ℚ 0ℚ a)) (b +ℚ (v -ℚ u) *ℚ inverse a) e y
    (number_is limit b v a u (not (lt_ℚ 0ℚ a)) e y h))

-- the ends are cut to the right sides at which the carried value is within its bounds
carried_ok : (limit : Option ℕ) (b v a : ℚ) (lower upper : Option ℚ) (e y : Ends ℚ) → a ≢ 0ℚ →
    carried_ends limit b v a lower upper e ≡ Ok y →
    Cuts e (λ x. IsInside lower upper (v +ℚ (x -ℚ b) *ℚ neg_ℚ a)) y
carried_ok limit b v a lower upper e y n h =
    let o = then_ok (bound_ends limit b v a lower (lt_ℚ 0ℚ a) e) _ y h in
    cuts_as e y
    (λ x. IfSome lower (λ l. l ≤ℚ carried_value b v a x) × IfSome upper (λ u. carried_value b v a x ≤ℚ u))
    (λ x. IsInside lower upper (carried_value b v a x))
    (λ x. (λ i. record { lower = i.0; upper = i.1 }, λ i. (i.lower, i.upper)))
    (cuts_both e o.0 y _ _ (lower_ok limit b v a lower e o.0 n o.1) (upper_ok limit b v a upper o.0 y n o.2))

-- ---- all basic columns
module _ (limit : Option ℕ) (b : ℚ) (t : Tableau) (s n : ℕ) (n_is : all_columns t ≡ n) (move : ℕ → ℚ)
    (moves : (k : ℕ) → k < n → status_at t k ≡ Basic → move k ≡ neg_ℚ (entry_at t (place_of t k) s))
    (inside : (k : ℕ) → k < n → status_at t k ≡ Basic → IsInside (lower_at t k) (upper_at t k) (value_at t k)) where
  -- where column k is basic, its value with the right side x is within its bounds
  abbrev Wants : ℚ → ℕ → Type 0
  Wants x k =
      status_at t k ≡ Basic → IsInside (lower_at t k) (upper_at t k) (value_at t k +ℚ (x -ℚ b) *ℚ move k)

  -- the ends e have exactly the right sides with which the basic columns before column i are within their bounds
  abbrev Meant : ℕ → Ends ℚ → Type 0
  Meant i e = (x : ℚ) → IsIn e x ↔ ((k : ℕ) → k < i → Wants x k)

  -- each right side suits a column that is nonbasic or does not move with the logical
  unmoved : (k : ℕ) → k < n → is_carried t s k ≡ false → (x : ℚ) → Wants x k
  unmoved k k_in q x basic =
      let e : entry_at t (place_of t k) s ≡ 0ℚ =
      eq_if (entry_at t (place_of t k) s) 0ℚ (not-false (eq_ℚ (entry_at t (place_of t k) s) 0ℚ)
      (ap (λ c. c && not (eq_ℚ (entry_at t (place_of t k) s) 0ℚ)) (sym (basic_test (status_at t k) basic)) ∙ q)) in
      subst (IsInside (lower_at t k) (upper_at t k))
      (still (value_at t k) (x -ℚ b) ∙ ap (λ a. value_at t k +ℚ (x -ℚ b) *ℚ a) (sym (moves k k_in basic ∙ ap neg_ℚ e)))
      (inside k k_in basic)
    where
      still : (v d : ℚ) → v ≡ v +ℚ d *ℚ neg_ℚ 0ℚ
      still v d = simp ring

  -- the ends with those of a basic column that moves have the right sides from before with which it is within its
  -- bounds
  moved_ok : (k : ℕ) (e y : Ends ℚ) → k < n → is_carried t s k ≡ true →
      carried_ends limit b (value_at t k) (entry_at t (place_of t k) s) (lower_at t k) (upper_at t k) e ≡ Ok y →
      (x : ℚ) → IsIn y x ↔ (IsIn e x × Wants x k)
  moved_ok k e y k_in q h x =
      let o = and_parts (is_basic (status_at t k)) (not (eq_ℚ (entry_at t (place_of t k) s) 0ℚ)) q in
      let basic : status_at t k ≡ Basic = basic_if (status_at t k) o.0 in
      let n : entry_at t (place_of t k) s ≢ 0ℚ =
      λ z. (let y : false ≡ true = sym (not-true (eq_ℚ (entry_at t (place_of t k) s) 0ℚ) o.1)
      ∙ eq_test (entry_at t (place_of t k) s) 0ℚ z in cc) in
      let cuts =
      carried_ok limit b (value_at t k) (entry_at t (place_of t k) s) (lower_at t k) (upper_at t k) e y n h in
      let same : value_at t k +ℚ (x -ℚ b) *ℚ neg_ℚ (entry_at t (place_of t k) s)
      ≡ value_at t k +ℚ (x -ℚ b) *ℚ move k =
      ap (λ a. value_at t k +ℚ (x -ℚ b) *ℚ a) (sym (moves k k_in basic)) in (
        λ i. let z = (cuts x).0 i in (z.0, λ _. subst (IsInside (lower_at t k) (upper_at t k)) same z.1),
        λ i. (cuts x).1 (i.0, subst (IsInside (lower_at t k) (upper_at t k)) (sym same) (i.1 basic)),
      )

  -- ends that suit the columns before k suit, with those of column k, this column too
  step : (k : ℕ) (e y : Ends ℚ) → k < n → Meant k e →
      cond (is_carried t s k)
      (carried_ends limit b (value_at t k) (entry_at t (place_of t k) s) (lower_at t k) (upper_at t k) e) (Ok e) ≡ Ok y →
      Meant (suc k) y
  step k e y k_in was h x = by (is_carried t s k) refl h
    where
      join : (Q : Type 0) → (IsIn y x ↔ (IsIn e x × Q)) → (Q ↔ Wants x k) →
          IsIn y x ↔ ((i : ℕ) → i < suc k → Wants x i)
      join Q a d = (
        λ i j j_in. let o = a.0 i in
            by_eq j k (λ z. subst (Wants x) (sym z) (d.0 o.1)) (λ z. (was x).0 o.0 j (omega (arith, j_in, z))),
        λ i. a.1 ((was x).1 (λ j j_in. i j (omega (arith, j_in))), d.1 (i k (omega arith))),
      )

      by : (o : Bool) → is_carried t s k ≡ o →
          cond o (carried_ends limit b (value_at t k) (entry_at t (place_of t k) s) (lower_at t k) (upper_at t k) e)
          (Ok e) ≡ Ok y → IsIn y x ↔ ((i : ℕ) → i < suc k → Wants x i)
      by true q h = join (Wants x k) (moved_ok k e y k_in q h x) (λ z. z, λ z. z)
      by false q h =
          let z : e ≡ y = cc in
          join (Unit {0}) (subst (λ y. IsIn y x ↔ (IsIn e x × Unit {0})) z (λ i. (i, tt), λ i. i.0))
          (λ _. unmoved k k_in q x, λ _. tt)

  -- the ends for a right side whose logical is nonbasic have exactly those with which each basic value is within its
  -- bounds
  pub nonbasic_ok : (y : Ends ℚ) → nonbasic_ends limit b t s ≡ Ok y → (x : ℚ) →
      IsIn y x ↔ ((k : ℕ) → k < n → status_at t k ≡ Basic →
      IsInside (lower_at t k) (upper_at t k) (value_at t k +ℚ (x -ℚ b) *ℚ move k))
  nonbasic_ok y h =
      subst (λ n. (x : ℚ) → IsIn y x ↔ ((k : ℕ) → k < n → Wants x k)) n_is
      (steps_ok Meant (all_columns t)
      (λ k e. cond (is_carried t s k)
      (carried_ends limit b (value_at t k) (entry_at t (place_of t k) s) (lower_at t k) (upper_at t k) e) (Ok e))
      no_ends y h
      (λ x. (λ _ k l. absurd (let z : ⊥ = omega (arith, l) in z), λ _. record { lower = tt; upper = tt }))
      (λ k e y l. step k e y (omega (arith, l, n_is))))
