-- The run finds the column that enters by Bland's rule, or that none does.
--
-- `fixed_means`: bounds that pass the test of being fixed are there, and equal.
-- `fixed_test`: bounds that are there and equal pass the test of being fixed.
use Rattle.std.proofs.Common.{◌≡◌, ◌≢◌, ℕ, zero, suc, ◌<◌, Option, Some, None, Bool}
use Rattle.std.proofs.Common.{true, false, cond, refl, sym, ap, ap₂, ◌∙◌, subst, arith}
use Rattle.spec_exact.specs.Fraction.{ℚ, 0ℚ, lt_ℚ}
use Rattle.spec_exact.proofs.Order.{lt_if, lt_test}
use Rattle.spec_exact.proofs.Same.{eq_if, eq_test}
use Rattle.spec_pivot.specs.declared.status.Status.{Status}
use Rattle.spec_pivot.specs.declared.status.Status.TheVariants.{Basic, AtLower, AtUpper, AtZero}
use Rattle.spec_pivot.specs.declared.status.Way.{Way}
use Rattle.spec_pivot.specs.declared.status.Way.TheVariants.{Up, Down}
use Rattle.spec_pivot.specs.Simplex.{Bounds, IsFixed, CanMove, Improves, IsEligible, Enters}
use Rattle.spec_pivot.proofs.Pivot.{by_eq}
use Rattle.spec_pivot.proofs.Values.{by_basic}
use Rattle.spec_simplex.specs.declared.ends.Entering.{Entering}
use Rattle.spec_simplex.specs.Tableau.{Tableau, form_columns, all_columns, reduced_at}
use Rattle.spec_simplex.specs.Tableau.{status_at, lower_at, upper_at, is_fixed}
use Rattle.spec_simplex.specs.Step.{way_by, way_at, or_enters, entering_below, entering}
use Rattle.spec_simplex.specs.Tables.{table_of, KeepsBounds}
use Rattle.spec_simplex.proofs.ListIndices.{by_lt}
use Rattle.spec_simplex.proofs.Pivots.{enters_before}

-- ---- fixed columns
pub fixed_means : (l u : Option ℚ) → is_fixed l u ≡ true → (v : ℚ) × (l ≡ Some v) × (u ≡ Some v)
fixed_means None u e = let z : false ≡ true = e in cc
fixed_means (Some l) None e = let z : false ≡ true = e in cc
fixed_means (Some l) (Some u) e = (l, refl, ap Some (sym (eq_if l u e)))

pub fixed_test : (l u : Option ℚ) (v : ℚ) → l ≡ Some v → u ≡ Some v → is_fixed l u ≡ true
fixed_test l u v p q = ap₂ is_fixed p q ∙ eq_test v v refl

-- ---- the test of a status and a reduced cost

-- where the test gives no way, no allowed move lowers the cost
way_by_none : (s : Status) (d : ℚ) (w : Way) → way_by s d ≡ None → CanMove w s → Improves w d → ⊥
way_by_none Basic d Up e c i = c
way_by_none Basic d Down e c i = c
way_by_none AtLower d Up e c i = let z : None ≡ Some Up = sym e ∙ rw (lt_test d 0ℚ i) refl in cc
way_by_none AtLower d Down e c i = c
way_by_none AtUpper d Up e c i = c
way_by_none AtUpper d Down e c i = let z : None ≡ Some Down = sym e ∙ rw (lt_test 0ℚ d i) refl in cc
way_by_none AtZero d Up e c i = let z : None ≡ Some Up = sym e ∙ rw (lt_test d 0ℚ i) refl in cc
way_by_none AtZero d Down e c i = by (lt_ℚ d 0ℚ) e
  where
    by : (t : Bool) → cond t (Some Up) (cond (lt_ℚ 0ℚ d) (Some Down) None) ≡ None → ⊥
    by true e = let z : Some Up ≡ None = e in cc
    by false e = let z : None ≡ Some Down = sym e ∙ rw (lt_test 0ℚ d i) refl in cc

-- a column of status s and reduced cost d can move the way w, and lowers the cost as it does
record Goes (w : Way) (s : Status) (d : ℚ) : Type 0 where
  status : CanMove w s
  improves : Improves w d

-- a move the way that the test gives is allowed and lowers the cost
way_by_some : (s : Status) (d : ℚ) (way : Way) → way_by s d ≡ Some way → Goes way s d
way_by_some Basic d way e = let z : None ≡ Some way = e in cc
way_by_some AtLower d way e = by (lt_ℚ d 0ℚ) refl e
  where
    by : (t : Bool) → lt_ℚ d 0ℚ ≡ t → cond t (Some Up) None ≡ Some way → Goes way AtLower d
    by true t e =
        let z : Up ≡ way = cc in
        subst (λ way. Goes way AtLower d) z (record { status = tt; improves = lt_if d 0ℚ t })
    by false t e = let z : None ≡ Some way = e in cc
way_by_some AtUpper d way e = by (lt_ℚ 0ℚ d) refl e
  where
    by : (t : Bool) → lt_ℚ 0ℚ d ≡ t → cond t (Some Down) None ≡ Some way → Goes way AtUpper d
    by true t e =
        let z : Down ≡ way = cc in
        subst (λ way. Goes way AtUpper d) z (record { status = tt; improves = lt_if 0ℚ d t })
    by false t e = let z : None ≡ Some way = e in cc
way_by_some AtZero d way e = by (lt_ℚ d 0ℚ) (lt_ℚ 0ℚ d) refl refl e
  where
    by : (t s : Bool) → lt_ℚ d 0ℚ ≡ t → lt_ℚ 0ℚ d ≡ s → cond t (Some Up) (cond s (Some Down) None) ≡ Some way →
        Goes way AtZero d
    by true s t _ e =
        let z : Up ≡ way = cc in
        subst (λ way. Goes way AtZero d) z (record { status = tt; improves = lt_if d 0ℚ t })
    by false true t s e =
        let z : Down ≡ way = cc in
        subst (λ way. Goes way AtZero d) z (record { status = tt; improves = lt_if 0ℚ d s })
    by false false t s e = let z : None ≡ Some way = e in cc

-- ---- a column of a tableau
module _ (b : Bounds) (t : Tableau) (keeps : KeepsBounds b t) where
  -- a structural or logical column whose bounds test as fixed is one that the bounds fix
  fixed_at : (k : ℕ) → k < form_columns t → is_fixed (lower_at t k) (upper_at t k) ≡ true → IsFixed b k
  fixed_at k l e =
      let v = fixed_means (lower_at t k) (upper_at t k) e in
      let l' : k < all_columns t = omega (arith, l) in
      (v.0, sym (keeps.lower k l') ∙ v.1, sym (keeps.upper k l) ∙ v.2)

  -- a structural or logical column that the bounds fix has bounds that test as fixed
  not_fixed_at : (k : ℕ) → k < form_columns t → IsFixed b k → is_fixed (lower_at t k) (upper_at t k) ≡ true
  not_fixed_at k l v =
      let l' : k < all_columns t = omega (arith, l) in
      fixed_test (lower_at t k) (upper_at t k) v.0 (keeps.lower k l' ∙ v.1) (keeps.upper k l ∙ v.2)

  -- where the test of column k gives no direction, column k is not eligible in any
  pub none_at : (k : ℕ) → way_at t k ≡ None → (w : Way) → ¬ (IsEligible b (table_of t) w k)
  none_at k e w el = by (is_fixed (lower_at t k) (upper_at t k)) refl e
    where
      before : k < form_columns t
      before = enters_before b t k keeps el.may_enter.0

      by : (c : Bool) → is_fixed (lower_at t k) (upper_at t k) ≡ c →
          cond c None (way_by (status_at t k) (reduced_at t k)) ≡ None → ⊥
      by true c e = el.may_enter.1 (fixed_at k before c)
      by false c e = way_by_none (status_at t k) (reduced_at t k) w e el.status el.improves

  -- where the test of column k gives a direction, the column is eligible in it
  eligible_at : (k : ℕ) (way : Way) → k < all_columns t → way_at t k ≡ Some way → IsEligible b (table_of t) way k
  eligible_at k way k_in e = by (is_fixed (lower_at t k) (upper_at t k)) refl e
    where
      by : (c : Bool) → is_fixed (lower_at t k) (upper_at t k) ≡ c →
          cond c None (way_by (status_at t k) (reduced_at t k)) ≡ Some way → IsEligible b (table_of t) way k
      by true c e = let z : None ≡ Some way = e in cc
      by false c e =
          let goes : Goes way (status_at t k) (reduced_at t k) =
          way_by_some (status_at t k) (reduced_at t k) way e in
          by_lt k (form_columns t)
          (λ l. record {
            may_enter = (keeps.entering k l, λ v. let z : false ≡ true = sym c ∙ not_fixed_at k l v in cc);
            status = goes.status;
            improves = goes.improves;
          })
          (λ l. by_basic (status_at t k)
          (λ s. let z : None ≡ Some way = sym (ap (λ s. way_by s (reduced_at t k)) s) ∙ e in cc)
          (λ s. let z : false ≡ true = sym c ∙ fixed_test (lower_at t k) (upper_at t k) 0ℚ
          (keeps.lower k k_in ∙ keeps.zero k l k_in) (keeps.fixed k l k_in s) in cc))

  -- ---- the least of many
  -- e is the first column that may enter, it is below n, and its way is the one in which it may
  record EntersBelow (n : ℕ) (e : Entering) : Type 0 where
    inside : e.col < n
    way_there : way_at t e.col ≡ Some e.direction
    least : (k : ℕ) → k < e.col → way_at t k ≡ None

  -- where no column below n is found to enter, the test of each of them gives no direction
  none_below : (n : ℕ) → entering_below t n ≡ None → (k : ℕ) → k < n → way_at t k ≡ None
  none_below zero h k l = absurd (let z : ⊥ = omega (arith, l) in z)
  none_below (suc n) h k l = by (entering_below t n) (way_at t n) refl h (λ p z. none_below n p k (omega (arith, l, z)))
    where
      by : (e : Option Entering) (w : Option Way) → way_at t n ≡ w → or_enters e n w ≡ None →
          (e ≡ None → k ≢ n → way_at t k ≡ None) → way_at t k ≡ None
      by (Some e) w q h before = let z : Some e ≡ None = h in cc
      by None (Some way) q h before =
          let z : ◌≡◌ {A = Option Entering} (Some (record { col = n; direction = way })) None = h in cc
      by None None q h before = by_eq k n (λ z. ap (way_at t) z ∙ q) (before refl)

  -- where a column below n is found to enter, it is the first one that may
  some_below : (n : ℕ) (x : Entering) → entering_below t n ≡ Some x → EntersBelow n x
  some_below zero x h = let z : None ≡ Some x = h in cc
  some_below (suc n) x h = by (entering_below t n) (way_at t n) refl refl h (λ p. some_below n x p)
    where
      by : (e : Option Entering) (w : Option Way) → entering_below t n ≡ e → way_at t n ≡ w →
          or_enters e n w ≡ Some x → (entering_below t n ≡ Some x → EntersBelow n x) → EntersBelow (suc n) x
      by (Some e) w p q h before =
          let z : Some e ≡ Some x = h in
          let there : EntersBelow n x = before (p ∙ z) in
          record { inside = omega (arith, there.inside); way_there = there.way_there; least = there.least }
      by None None p q h before = let z : None ≡ Some x = h in cc
      by None (Some way) p q h before =
          let z : ◌≡◌ {A = Entering} (record { col = n; direction = way }) x = cc in
          subst (EntersBelow (suc n)) z
          (record { inside = omega arith; way_there = q; least = λ k l. none_below n p k l })

  -- where the run finds no entering column, no column is eligible in any direction
  pub no_entering : entering t ≡ None → (w : Way) (k : ℕ) → k < all_columns t → ¬ (IsEligible b (table_of t) w k)
  no_entering h w k l = none_at k (none_below (all_columns t) h k l) w

  -- the entering column that the run finds is the one that enters by Bland's rule
  pub an_entering : (x : Entering) → entering t ≡ Some x → Enters (all_columns t) b (table_of t) x.direction x.col
  an_entering x h =
      let there : EntersBelow (all_columns t) x = some_below (all_columns t) x h in
      record {
        in_range = there.inside;
        eligible = eligible_at x.col x.direction there.inside there.way_there;
        least = λ k w l. none_at k (there.least k l) w;
      }
