-- A certificate carried back over a column that stands still.
use Rattle.std.proofs.Common.{◌≡◌, ℕ, suc, ◌<◌, ◌≤◌, List, length, Bool, true, false, cond}
use Rattle.std.proofs.Common.{Option, Some, None, IfSome, refl, sym, ap, ap₂, ◌∙◌, subst, subst₂, arith}
use Rattle.std.specs.List.{insert}
use Rattle.std.proofs.lemmas.List.Edits.{length-insert}
use Rattle.spec_exact.specs.Fraction.{ℚ, 0ℚ, ◌+ℚ◌, ◌-ℚ◌, ◌*ℚ◌, abs_ℚ, lt_ℚ, ◌≤ℚ◌, ◌<ℚ◌}
use Rattle.spec_exact.specs.Sums.{sum_below}
use Rattle.spec_exact.proofs.Order.{≤ℚ_refl, +ℚ_mono}
use Rattle.spec_exact.proofs.Strict.{+ℚ_strict}
use Rattle.spec_exact.proofs.Ruleset.{ring}
use Rattle.spec_exact.proofs.Sums.{sum_below_same, sum_below-+ℚ, *ℚ-sum_below}
use Rattle.spec_model.specs.declared.parts.Kind.{Kind}
use Rattle.spec_model.specs.declared.parts.Kind.TheVariants.{L, G, E, N}
use Rattle.spec_model.specs.declared.parts.RowLimit.TheVariants.{Given, Sum}
use Rattle.spec_model.specs.Model.{Model, Limits, width, height, bounds, limits, cost, coefficient, part}
use Rattle.spec_model.specs.Model.{activity, cost_of, value_of, limit_of, limits_by}
use Rattle.spec_model.specs.Truth.{IsBetween, IsFeasible}
use Rattle.spec_edit.specs.Meaning.{skipping}
use Rattle.spec_check.specs.declared.certificate.Certificate.TheVariants.{Optimal, Infeasible, Clash, Unbounded}
use Rattle.spec_check.specs.Certificate.{IsFor}
use Rattle.spec_check.specs.declared.certificate.Known.TheVariants as known
use Rattle.spec_check.specs.Checks.{signed, priced, reduced, IsTight, HasLimit, Allows, asked, rows_ask, columns_give}
use Rattle.spec_check.specs.Checks.{turned_limits, Checks, ChecksOptimal, ChecksInfeasible, ChecksClash, ChecksUnbounded}
use Rattle.spec_check.proofs.Sound.{tight_has, asked_weighs}
use Rattle.spec_presolve.specs.Carry.{ExactCertificate, IsCarried, over_fixed}
use Rattle.spec_presolve.proofs.Skips.{by_skip, part_at, part_skipping, sum_skipping, skipping_inside}
use Rattle.spec_presolve.proofs.Tightened.{asked_tight}
use Rattle.spec_presolve.proofs.OverEmpty.{allows_zero}

-- ---- limits that are moved

abbrev pub lessened : ℚ → Option ℚ → Option ℚ
lessened t None = None
lessened t (Some b) = Some (b -ℚ t)

abbrev pub moved : ℚ → Limits → Limits
moved t l = record { lower = lessened t l.lower; upper = lessened t l.upper }

-- two numbers subtracted in either order leave the same
later : (b t r : ℚ) → (b -ℚ t) -ℚ r ≡ (b -ℚ r) -ℚ t
later b t r = simp ring

-- subtracting t and adding r gives the same in either order
later_more : (b t r : ℚ) → (b -ℚ t) +ℚ r ≡ (b +ℚ r) -ℚ t
later_more b t r = simp ring

abbrev from_to : ℚ → ℚ → Limits
from_to a b = record { lower = Some a; upper = Some b }

-- where a row's right side is t less, both its limits are moved by t
pub limits_moved : (k : Kind) (b t : ℚ) (r : Option ℚ) → limits_by k (b -ℚ t) r ≡ moved t (limits_by k b r)
limits_moved L b t None = refl
limits_moved L b t (Some r) = ap (λ a. from_to a (b -ℚ t)) (later b t (abs_ℚ r))
limits_moved G b t None = refl
limits_moved G b t (Some r) = ap (λ a. from_to (b -ℚ t) a) (later_more b t (abs_ℚ r))
limits_moved N b t r = refl
limits_moved E b t None = refl
limits_moved E b t (Some r) = by (lt_ℚ r 0ℚ)
  where
    by : (c : Bool) →
        record {
          lower = limit_of (cond c (Sum (b -ℚ t) r) (Given (b -ℚ t)));
          upper = limit_of (cond c (Given (b -ℚ t)) (Sum (b -ℚ t) r));
        }
        ≡ moved t (record {
          lower = limit_of (cond c (Sum b r) (Given b));
          upper = limit_of (cond c (Given b) (Sum b r));
        })
    by true = ap (λ a. from_to a (b -ℚ t)) (later_more b t r)
    by false = ap (λ a. from_to (b -ℚ t) a) (later_more b t r)

-- subtracting a number and adding it again leaves what was there
again : (b t : ℚ) → (b -ℚ t) +ℚ t ≡ b
again b t = simp ring

-- a number that is at least a moved lower limit is, with t added, at least the limit itself
least_moved : (t v : ℚ) (o : Option ℚ) → IfSome (lessened t o) (λ k. k ≤ℚ v) → IfSome o (λ k. k ≤ℚ (v +ℚ t))
least_moved t v None h = tt
least_moved t v (Some b) h = subst (λ w. w ≤ℚ (v +ℚ t)) (again b t) (+ℚ_mono (b -ℚ t) v t h)

-- a number that is at most a moved upper limit is, with t added, at most the limit itself
most_moved : (t v : ℚ) (o : Option ℚ) → IfSome (lessened t o) (λ k. v ≤ℚ k) → IfSome o (λ k. (v +ℚ t) ≤ℚ k)
most_moved t v None h = tt
most_moved t v (Some b) h = subst (λ w. (v +ℚ t) ≤ℚ w) (again b t) (+ℚ_mono v (b -ℚ t) t h)

-- a number between the moved limits is, with t added, between the limits themselves
moved_between : (t v : ℚ) (l : Limits) → IsBetween (moved t l) v → IsBetween l (v +ℚ t)
moved_between t v l h = record { lower = least_moved t v l.lower h.lower; upper = most_moved t v l.upper h.upper }

-- where a moved limit is v, the limit itself is v + t
moved_is : (t v : ℚ) (o : Option ℚ) → lessened t o ≡ Some v → o ≡ Some (v +ℚ t)
moved_is t v None h = let z : None ≡ Some v = h in cc
moved_is t v (Some b) h = let e : b -ℚ t ≡ v = cc in ap Some (sym (again b t) ∙ ap (λ w. w +ℚ t) e)

-- a value that a multiplier makes tight at limits lessened by t is, with t added, tight at the limits themselves
moved_tight : (t d v : ℚ) (l : Limits) → IsTight (moved t l) d v → IsTight l d (v +ℚ t)
moved_tight t d v l h =
    record { above = λ p. moved_is t v l.lower (h.above p); below = λ p. moved_is t v l.upper (h.below p) }

-- where a ray is at least 0 if a limit lessened by t is there, it is at least 0 if the limit itself is there
rises : (t r : ℚ) (o : Option ℚ) → IfSome (lessened t o) (λ _. 0ℚ ≤ℚ r) → IfSome o (λ _. 0ℚ ≤ℚ r)
rises t r None h = tt
rises t r (Some b) h = h

-- where a ray is at most 0 if a limit lessened by t is there, it is at most 0 if the limit itself is there
falls : (t r : ℚ) (o : Option ℚ) → IfSome (lessened t o) (λ _. r ≤ℚ 0ℚ) → IfSome o (λ _. r ≤ℚ 0ℚ)
falls t r None h = tt
falls t r (Some b) h = h

-- a ray that the moved limits allow is allowed by the limits themselves
moved_allows : (t r : ℚ) (l : Limits) → Allows (moved t l) r → Allows l r
moved_allows t r l h = record { lower = rises t r l.lower h.lower; upper = falls t r l.upper h.upper }

-- m has column j more than n, which is at v, and its rows are moved by what it adds to them
pub record FixedStep (m n : Model) (j : ℕ) (v : ℚ) : Type 0 where
  pub inside : j ≤ width n
  pub width_is : width m ≡ suc (width n)
  pub height_is : height m ≡ height n
  pub sense_is : m.sense ≡ n.sense
  pub offset_is : n.offset ≡ m.offset +ℚ cost m j *ℚ v
  pub coefficients_are : (r k : ℕ) → coefficient m r (skipping j k) ≡ coefficient n r k
  pub costs_are : (k : ℕ) → cost m (skipping j k) ≡ cost n k
  pub bounds_are : (k : ℕ) → bounds m (skipping j k) ≡ bounds n k
  pub lower_is : (bounds m j).lower ≡ Some v
  pub upper_is : (bounds m j).upper ≡ Some v
  pub limits_are : (r : ℕ) → r < height n → limits n r ≡ moved (coefficient m r j *ℚ v) (limits m r)

module _ (m n : Model) (j : ℕ) (v : ℚ) (h : FixedStep m n j v) where
  length_one_more : (x : List ℚ) (w : ℚ) → length x ≡ width n → length (insert x j w) ≡ width m
  length_one_more x w e =
      let a = length-insert x j w (subst (λ l. j ≤ l) (sym e) h.inside) in
      let b = h.width_is in
      omega (arith, a, b, e)

  each_column : (P : ℕ → Type 0) → P j → ((k : ℕ) → k < width n → P (skipping j k)) → (k : ℕ) → k < width m → P k
  each_column P at others k l =
      by_skip P (width n) j at others h.inside k (let e = h.width_is in omega (arith, e, l))

  lower_row : (r : ℕ) → r < height m → r < height n
  lower_row r p = subst (λ w. r < w) h.height_is p

  within : (x : List ℚ) → length x ≡ width n → j ≤ length x
  within x e = subst (λ l. j ≤ l) (sym e) h.inside

  activity_more : (x : List ℚ) (w : ℚ) (r : ℕ) → length x ≡ width n →
      activity m (insert x j w) r ≡ activity n x r +ℚ coefficient m r j *ℚ w
  activity_more x w r e =
      ap (λ c. sum_below c (λ k. coefficient m r k *ℚ part (insert x j w) k)) h.width_is
      ∙ sum_skipping (width n) j (λ k. coefficient m r k *ℚ part (insert x j w) k) h.inside
      ∙ ap₂ ◌+ℚ◌
      (sum_below_same (width n) (λ k. coefficient m r (skipping j k) *ℚ part (insert x j w) (skipping j k))
      (λ k. coefficient n r k *ℚ part x k)
      (λ k _. ap₂ ◌*ℚ◌ (h.coefficients_are r k) (part_skipping x j k w (within x e))))
      (ap (λ z. coefficient m r j *ℚ z) (part_at x j w (within x e)))

  cost_more : (x : List ℚ) (w : ℚ) → length x ≡ width n → cost_of m (insert x j w) ≡ cost_of n x +ℚ cost m j *ℚ w
  cost_more x w e =
      ap (λ c. sum_below c (λ k. cost m k *ℚ part (insert x j w) k)) h.width_is
      ∙ sum_skipping (width n) j (λ k. cost m k *ℚ part (insert x j w) k) h.inside
      ∙ ap₂ ◌+ℚ◌
      (sum_below_same (width n) (λ k. cost m (skipping j k) *ℚ part (insert x j w) (skipping j k))
      (λ k. cost n k *ℚ part x k) (λ k _. ap₂ ◌*ℚ◌ (h.costs_are k) (part_skipping x j k w (within x e))))
      (ap (λ z. cost m j *ℚ z) (part_at x j w (within x e)))

  priced_same : (y : List ℚ) (k : ℕ) → priced m y (skipping j k) ≡ priced n y k
  priced_same y k =
      ap (λ r. sum_below r (λ a. part y a *ℚ coefficient m a (skipping j k))) h.height_is
      ∙ sum_below_same (height n) (λ a. part y a *ℚ coefficient m a (skipping j k)) (λ a. part y a *ℚ coefficient n a k)
      (λ a _. ap (λ c. part y a *ℚ c) (h.coefficients_are a k))

  reduced_same : (y : List ℚ) (k : ℕ) → reduced m y (skipping j k) ≡ reduced n y k
  reduced_same y k = ap₂ ◌-ℚ◌ (ap₂ signed h.sense_is (h.costs_are k)) (priced_same y k)

  between_own : IsBetween (bounds m j) v
  between_own = record {
    lower = subst (λ o. IfSome o (λ k. k ≤ℚ v)) (sym h.lower_is) (≤ℚ_refl v);
    upper = subst (λ o. IfSome o (λ k. v ≤ℚ k)) (sym h.upper_is) (≤ℚ_refl v);
  }

  tight_own : (d : ℚ) → IsTight (bounds m j) d v
  tight_own d = record { above = λ _. h.lower_is; below = λ _. h.upper_is }

  turned_own : (g : ℚ) → IsTight (turned_limits (bounds m j)) g v
  turned_own g = record { above = λ _. h.upper_is; below = λ _. h.lower_is }

  feasible : (x : List ℚ) → IsFeasible n x → IsFeasible m (insert x j v)
  feasible x f = record {
    one_each = length_one_more x v f.one_each;
    columns = each_column (λ k. IsBetween (bounds m k) (part (insert x j v) k))
        (subst (λ w. IsBetween (bounds m j) w) (sym (part_at x j v (within x f.one_each))) between_own)
        (λ k p. subst₂ IsBetween (sym (h.bounds_are k)) (sym (part_skipping x j k v (within x f.one_each))) (f.columns k p));
    rows = λ r p. subst (λ w. IsBetween (limits m r) w) (sym (activity_more x v r f.one_each))
        (moved_between (coefficient m r j *ℚ v) (activity n x r) (limits m r)
        (subst (λ l. IsBetween l (activity n x r)) (h.limits_are r (lower_row r p)) (f.rows r (lower_row r p))));
  }

  optimal : (x y : List ℚ) → length x ≡ width n → ChecksOptimal n x y → ChecksOptimal m (insert x j v) y
  optimal x y e c = record {
    feasible = feasible x c.feasible;
    columns = each_column (λ k. IsTight (bounds m k) (reduced m y k) (part (insert x j v) k))
        (subst (λ w. IsTight (bounds m j) (reduced m y j) w) (sym (part_at x j v (within x e))) (tight_own (reduced m y j)))
        (λ k p. subst (λ w. IsTight (bounds m (skipping j k)) (reduced m y (skipping j k)) w)
        (sym (part_skipping x j k v (within x e)))
        (subst₂ (λ l d. IsTight l d (part x k)) (sym (h.bounds_are k)) (sym (reduced_same y k)) (c.columns k p)));
    rows = λ r p. subst (λ w. IsTight (limits m r) (part y r) w) (sym (activity_more x v r e))
        (moved_tight (coefficient m r j *ℚ v) (part y r) (activity n x r) (limits m r)
        (subst (λ l. IsTight l (part y r) (activity n x r)) (h.limits_are r (lower_row r p)) (c.rows r (lower_row r p))));
  }

  -- where row r of n has the limit that its multiplier asks for, this limit plus what column j adds to the row is the
  -- limit that the multiplier asks for in m
  row_tight : (y : List ℚ) (r : ℕ) → r < height n → HasLimit (limits n r) (part y r) →
      IsTight (limits m r) (part y r) (asked (limits n r) (part y r) +ℚ coefficient m r j *ℚ v)
  row_tight y r p t =
      moved_tight (coefficient m r j *ℚ v) (part y r) (asked (limits n r) (part y r)) (limits m r)
      (subst (λ l. IsTight l (part y r) (asked (limits n r) (part y r))) (h.limits_are r p)
      (asked_tight (limits n r) (part y r) t))

  spread : (w a c v : ℚ) → w *ℚ (a +ℚ c *ℚ v) ≡ w *ℚ a +ℚ v *ℚ (w *ℚ c)
  spread w a c v = simp ring

  asks_more : (y : List ℚ) → ((r : ℕ) → r < height n → HasLimit (limits n r) (part y r)) →
      rows_ask m y ≡ rows_ask n y +ℚ v *ℚ priced m y j
  asks_more y t =
      ap (λ c. sum_below c (λ r. part y r *ℚ asked (limits m r) (part y r))) h.height_is
      ∙ sum_below_same (height n) (λ r. part y r *ℚ asked (limits m r) (part y r))
      (λ r. part y r *ℚ asked (limits n r) (part y r) +ℚ v *ℚ (part y r *ℚ coefficient m r j))
      (λ r p. asked_weighs (limits m r) (part y r) (asked (limits n r) (part y r) +ℚ coefficient m r j *ℚ v)
      (row_tight y r p (t r p)) ∙ spread (part y r) (asked (limits n r) (part y r)) (coefficient m r j) v)
      ∙ sum_below-+ℚ (height n) (λ r. part y r *ℚ asked (limits n r) (part y r))
      (λ r. v *ℚ (part y r *ℚ coefficient m r j))
      ∙ ap (λ w. rows_ask n y +ℚ w)
      (sym (*ℚ-sum_below v (height n) (λ r. part y r *ℚ coefficient m r j))
      ∙ ap (λ c. v *ℚ sum_below c (λ r. part y r *ℚ coefficient m r j)) (sym h.height_is))

  gives_more : (y : List ℚ) → columns_give m y ≡ columns_give n y +ℚ priced m y j *ℚ v
  gives_more y =
      ap (λ c. sum_below c (λ k. priced m y k *ℚ asked (turned_limits (bounds m k)) (priced m y k))) h.width_is
      ∙ sum_skipping (width n) j (λ k. priced m y k *ℚ asked (turned_limits (bounds m k)) (priced m y k)) h.inside
      ∙ ap₂ ◌+ℚ◌
      (sum_below_same (width n)
      (λ k. priced m y (skipping j k) *ℚ asked (turned_limits (bounds m (skipping j k))) (priced m y (skipping j k)))
      (λ k. priced n y k *ℚ asked (turned_limits (bounds n k)) (priced n y k))
      (λ k _. ap₂ (λ g l. g *ℚ asked (turned_limits l) g) (priced_same y k) (h.bounds_are k)))
      (asked_weighs (turned_limits (bounds m j)) (priced m y j) v (turned_own (priced m y j)))

  turn : (g v : ℚ) → g *ℚ v ≡ v *ℚ g
  turn g v = simp ring

  infeasible : (y : List ℚ) → ChecksInfeasible n y → ChecksInfeasible m y
  infeasible y c = record {
    rows = λ r p. tight_has (limits m r) (part y r) (asked (limits n r) (part y r) +ℚ coefficient m r j *ℚ v)
        (row_tight y r (lower_row r p) (c.rows r (lower_row r p)));
    columns = each_column (λ k. HasLimit (turned_limits (bounds m k)) (priced m y k))
        (tight_has (turned_limits (bounds m j)) (priced m y j) v (turned_own (priced m y j)))
        (λ k p. subst₂ (λ l g. HasLimit (turned_limits l) g) (sym (h.bounds_are k)) (sym (priced_same y k)) (c.columns k p));
    less = subst₂ ◌<ℚ◌ (sym (gives_more y ∙ ap (λ w. columns_give n y +ℚ w) (turn (priced m y j) v)))
        (sym (asks_more y c.rows)) (+ℚ_strict (columns_give n y) (rows_ask n y) (v *ℚ priced m y j) c.less);
  }

  clash : (k : ℕ) → ChecksClash n k → ChecksClash m (skipping j k)
  clash k c = record {
    inside = skipped_inside k c.inside;
    low = c.low;
    high = c.high;
    lower = subst (λ (l : Limits). l.lower ≡ Some c.low) (sym (h.bounds_are k)) c.lower;
    upper = subst (λ (l : Limits). l.upper ≡ Some c.high) (sym (h.bounds_are k)) c.upper;
    crossed = c.crossed;
  }
    where
      skipped_inside : (k : ℕ) → k < width n → skipping j k < width m
      skipped_inside k p = let a = skipping_inside (width n) j k p in let b = h.width_is in omega (arith, a, b)

  plus_nothing : (s c : ℚ) → s +ℚ c *ℚ 0ℚ ≡ s
  plus_nothing s c = simp ring

  unbounded : (x r : List ℚ) → length r ≡ width n → ChecksUnbounded n x r →
      ChecksUnbounded m (insert x j v) (insert r j 0ℚ)
  unbounded x r e c = record {
    feasible = feasible x c.feasible;
    columns = each_column (λ k. Allows (bounds m k) (part (insert r j 0ℚ) k))
        (subst (λ w. Allows (bounds m j) w) (sym (part_at r j 0ℚ (within r e))) (allows_zero (bounds m j)))
        (λ k p. subst₂ Allows (sym (h.bounds_are k)) (sym (part_skipping r j k 0ℚ (within r e))) (c.columns k p));
    rows = λ a p. subst (λ w. Allows (limits m a) w)
        (sym (activity_more r 0ℚ a e ∙ plus_nothing (activity n r a) (coefficient m a j)))
        (moved_allows (coefficient m a j *ℚ v) (activity n r a) (limits m a)
        (subst (λ l. Allows l (activity n r a)) (h.limits_are a (lower_row a p)) (c.rows a (lower_row a p))));
    better = subst (λ w. w <ℚ 0ℚ)
        (sym (ap₂ signed h.sense_is (cost_more r 0ℚ e ∙ plus_nothing (cost_of n r) (cost m j)))) c.better;
  }

  turn_around : (c o p : ℚ) → (c +ℚ p) +ℚ o ≡ c +ℚ (o +ℚ p)
  turn_around c o p = simp ring

  value_same : (x : List ℚ) → length x ≡ width n → value_of m (insert x j v) ≡ value_of n x
  value_same x e =
      ap (λ c. c +ℚ m.offset) (cost_more x v e) ∙ turn_around (cost_of n x) m.offset (cost m j *ℚ v)
      ∙ ap (λ o. cost_of n x +ℚ o) (sym h.offset_is)

  pub over_fixed_column : (c : ExactCertificate) → IsFor n c → Checks n c → IsCarried m n c (over_fixed j v c)
  over_fixed_column (Optimal x y) f c = record {
    fits = (length_one_more x v f.0, f.1 ∙ sym h.height_is);
    checks = optimal x y f.0 c;
    shows = ap known.Optimal (value_same x f.0);
  }
  over_fixed_column (Infeasible y) f c =
      record { fits = f ∙ sym h.height_is; checks = infeasible y c; shows = refl }
  over_fixed_column (Clash k) f c = record { fits = (clash k c).inside; checks = clash k c; shows = refl }
  over_fixed_column (Unbounded x r) f c = record {
    fits = (length_one_more x v f.0, length_one_more r 0ℚ f.1);
    checks = unbounded x r f.1 c;
    shows = refl;
  }
