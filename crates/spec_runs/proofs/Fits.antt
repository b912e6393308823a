-- The first basic column that is outside its bounds, and what the fit of a tableau means.
--
-- `met_suits`: a reduced cost that meets its status's need without a flip has the sign that suits the status.
-- `fit_is`: the fit found is true: primal, each basic value is within its bounds; dual, each need is met.
use Rattle.std.proofs.Common.{◌≡◌, ℕ, zero, suc, ◌<◌, Option, Some, None, IfSome, Ok, Bool, true}
use Rattle.std.proofs.Common.{false, cond, option_map, refl, sym, ap, ◌∙◌, subst, arith}
use Rattle.spec_exact.specs.Fraction.{ℚ, 0ℚ, ◌≤ℚ◌, ◌<ℚ◌}
use Rattle.spec_exact.proofs.Order.{≤ℚ_refl, <ℚ-le, le_if_not}
use Rattle.spec_exact.proofs.Same.{eq_if}
use Rattle.spec_pivot.specs.declared.status.Status.{Status}
use Rattle.spec_pivot.specs.declared.status.Status.TheVariants.{Basic, AtLower, AtUpper, AtZero}
use Rattle.spec_pivot.specs.declared.status.Way.{Way}
use Rattle.spec_pivot.specs.declared.status.Way.TheVariants.{Up, Down}
use Rattle.spec_pivot.specs.Simplex.{IsInside}
use Rattle.spec_pivot.proofs.Pivot.{by_eq}
use Rattle.spec_exact.specs.Run.{Run}
use Rattle.spec_simplex.specs.Tableau.{Tableau, all_columns, value_at, status_at, lower_at, upper_at}
use Rattle.spec_simplex.specs.Tableau.{is_basic}
use Rattle.spec_simplex.proofs.Orders.{by_order, given}
use Rattle.spec_simplex.proofs.RunParts.{then_ok, steps_ok}
use Rattle.spec_pivot.specs.Dual.{Suits, IsPast}
use Rattle.spec_simplex.specs.declared.ends.Fit.{Fit}
use Rattle.spec_simplex.specs.declared.ends.Fit.TheVariants.{Primal, Dual, Unfit}
use Rattle.spec_simplex.specs.declared.ends.Leaving.{Leaving}
use Rattle.std.specs.Ordering.{is_lt, is_gt}
use Rattle.std.proofs.lemmas.Bool.{and_parts}
use Rattle.spec_simplex.specs.Fit.{below_lower, above_upper, outside_by}
use Rattle.spec_simplex.specs.Fit.{outside_run, leaving_at, leaving_with, leaving_run, needs_flip}
use Rattle.spec_simplex.specs.Fit.{meets_need, meets_need_at, all_meet, fit_by, fit_run}
use Rattle.spec_simplex.proofs.Statuses.{basic_if}
use Rattle.spec_runs.proofs.Counts.{basic_test}

-- ---- one value
abbrev BelowIs : Option ℚ → ℚ → Bool → Type 0
BelowIs l v true = (c : ℚ) × (l ≡ Some c) × (v <ℚ c)
BelowIs l v false = IfSome l (λ c. c ≤ℚ v)

abbrev AboveIs : Option ℚ → ℚ → Bool → Type 0
AboveIs u v true = (c : ℚ) × (u ≡ Some c) × (c <ℚ v)
AboveIs u v false = IfSome u (λ c. v ≤ℚ c)

-- where the test of v against a lower bound is not refused, it says whether v is below the bound
below_is : (limit : Option ℕ) (l : Option ℚ) (v : ℚ) (c : Bool) → below_lower limit l v ≡ Ok c → BelowIs l v c
below_is limit None v c h = let z : false ≡ c = cc in subst (BelowIs None v) z tt
below_is limit (Some a) v c h =
    by_order limit v a (λ o. Ok (is_lt o)) c (BelowIs (Some a) v c) h
    (λ p e. given (BelowIs (Some a) v) true c e (a, refl, p))
    (λ p e. given (BelowIs (Some a) v) false c e (subst (λ x. a ≤ℚ x) (sym p) (≤ℚ_refl a)))
    (λ p e. given (BelowIs (Some a) v) false c e (<ℚ-le a v p))

-- where the test of v against an upper bound is not refused, it says whether v is above the bound
above_is : (limit : Option ℕ) (u : Option ℚ) (v : ℚ) (c : Bool) → above_upper limit u v ≡ Ok c → AboveIs u v c
above_is limit None v c h = let z : false ≡ c = cc in subst (AboveIs None v) z tt
above_is limit (Some a) v c h =
    by_order limit v a (λ o. Ok (is_gt o)) c (AboveIs (Some a) v c) h
    (λ p e. given (AboveIs (Some a) v) false c e (<ℚ-le v a p))
    (λ p e. given (AboveIs (Some a) v) false c e (subst (λ x. x ≤ℚ a) (sym p) (≤ℚ_refl a)))
    (λ p e. given (AboveIs (Some a) v) true c e (a, refl, p))

-- what a test of v says holds: without a way v is within both bounds; with one v is past the bound to which this leads
-- back
abbrev OutsideIs : Option ℚ → Option ℚ → ℚ → Option Way → Type 0
OutsideIs l u v None = IsInside l u v
OutsideIs l u v (Some way) = (c : ℚ) × IsPast way l u v c

-- where the test of v is not refused, it says whether v is within both bounds, or past which one
outside_is : (limit : Option ℕ) (l u : Option ℚ) (v : ℚ) (side : Option Way) → outside_run limit l u v ≡ Ok side →
    OutsideIs l u v side
outside_is limit l u v side h =
    let o = then_ok (below_lower limit l v) (outside_by limit u v) side h in
    by o.0 (below_is limit l v o.0 o.1) o.2
  where
    up : (c : Bool) → IfSome l (λ c. c ≤ℚ v) → AboveIs u v c → OutsideIs l u v (cond c (Some Down) None)
    up true b a = (a.0, (a.1, a.2))
    up false b a = record { lower = b; upper = a }

    by : (c : Bool) → BelowIs l v c → outside_by limit u v c ≡ Ok side → OutsideIs l u v side
    by true b h = let z : Some Up ≡ side = cc in subst (OutsideIs l u v) z (b.0, (b.1, b.2))
    by false b h =
        let o = then_ok (above_upper limit u v) (λ above. Ok (cond above (Some Down) None)) side h in
        let z : cond o.0 (Some Down) None ≡ side = cc in
        subst (OutsideIs l u v) z (up o.0 b (above_is limit u v o.0 o.1))

-- ---- the first of many

-- a basic column of the first n, past its bound
pub record IsLeaving (t : Tableau) (n : ℕ) (x : Leaving) : Type 0 where
  pub inside : x.col < n
  pub basic : status_at t x.col ≡ Basic
  pub bound : ℚ
  pub past : IsPast x.direction (lower_at t x.col) (upper_at t x.col) (value_at t x.col) bound

abbrev InsideAt : Tableau → ℕ → Type 0
InsideAt t k = IsInside (lower_at t k) (upper_at t k) (value_at t k)

-- what a search for a leaving column says holds: without one each basic column of the first n is within its bounds;
-- with one it is a basic one of these, past its bound
abbrev pub LeavingIs : Tableau → ℕ → Option Leaving → Type 0
LeavingIs t n None = (k : ℕ) → k < n → status_at t k ≡ Basic → IsInside (lower_at t k) (upper_at t k) (value_at t k)
LeavingIs t n (Some x) = IsLeaving t n x

module _ (limit : Option ℕ) (t : Tableau) where
  here_is : (k : ℕ) (x : Option Leaving) → status_at t k ≡ Basic → LeavingIs t k None → leaving_at limit t k ≡ Ok x →
      LeavingIs t (suc k) x
  here_is k x b before h =
      let o =
      then_ok (outside_run limit (lower_at t k) (upper_at t k) (value_at t k))
      (λ side. Ok (option_map (λ way. record { col = k; direction = way }) side)) x h in
      by o.0 (outside_is limit (lower_at t k) (upper_at t k) (value_at t k) o.0 o.1) o.2
    where
      by : (side : Option Way) → OutsideIs (lower_at t k) (upper_at t k) (value_at t k) side →
          ◌≡◌ {A = Run (Option Leaving)} (Ok (option_map (λ way. record { col = k; direction = way }) side)) (Ok x) →
          LeavingIs t (suc k) x
      by None i h =
          let z : None ≡ x = cc in
          subst (LeavingIs t (suc k)) z
          (λ j l e. by_eq j k (λ y. subst (InsideAt t) (sym y) i) (λ y. before j (omega (arith, l, y)) e))
      by (Some way) i h =
          let z : ◌≡◌ {A = Option Leaving} (Some (record { col = k; direction = way })) x = cc in
          subst (LeavingIs t (suc k)) z (record { inside = omega arith; basic = b; bound = i.0; past = i.1 })

  -- where it is known which of the columns below k leaves, what the run makes of it at column k says which of those
  -- below k + 1 does
  leaving_step : (k : ℕ) (x y : Option Leaving) → k < all_columns t → LeavingIs t k x →
      leaving_with limit t k x ≡ Ok y → LeavingIs t (suc k) y
  leaving_step k (Some x) y l was h =
      let z : Some x ≡ y = cc in
      subst (LeavingIs t (suc k)) z
      (record { inside = omega (arith, was.inside); basic = was.basic; bound = was.bound; past = was.past })
  leaving_step k None y l was h = by (is_basic (status_at t k)) refl h
    where
      by : (c : Bool) → is_basic (status_at t k) ≡ c → cond c (leaving_at limit t k) (Ok None) ≡ Ok y →
          LeavingIs t (suc k) y
      by true c h = here_is k y (basic_if (status_at t k) c) was h
      by false c h =
          let z : None ≡ y = cc in
          subst (LeavingIs t (suc k)) z
          (λ j q e. by_eq j k
          (λ z. let y : false ≡ true = sym c ∙ basic_test (status_at t k) (ap (status_at t) (sym z) ∙ e) in cc)
          (λ z. was j (omega (arith, q, z)) e))

  -- what the search for a leaving column finds is the first basic column outside its bounds, or that none is
  pub leaving_is : (x : Option Leaving) → leaving_run limit t ≡ Ok x → LeavingIs t (all_columns t) x
  leaving_is x h =
      steps_ok (LeavingIs t) (all_columns t) (leaving_with limit t) None x h
      (λ k l. absurd (let z : ⊥ = omega (arith, l) in z)) leaving_step

-- ---- needs of reduced costs

-- where all of the first n columns test as meeting their needs, each of them does
all_met : (t : Tableau) (n : ℕ) → all_meet t n ≡ true → (k : ℕ) → k < n → meets_need_at t k ≡ true
all_met t zero h k l = absurd (let z : ⊥ = omega (arith, l) in z)
all_met t (suc n) h k l =
    let o = and_parts (all_meet t n) (meets_need_at t n) h in
    by_eq k n (λ z. ap (meets_need_at t) z ∙ o.1) (λ z. all_met t n o.0 k (omega (arith, l, z)))

-- a need that is met without a flip
pub met_suits : (s : Status) (d : ℚ) (l u : Option ℚ) → meets_need s d l u ≡ true → needs_flip s d ≡ false → Suits s d
met_suits Basic d l u h n = tt
met_suits AtLower d l u h n = le_if_not d 0ℚ n
met_suits AtUpper d l u h n = le_if_not 0ℚ d n
met_suits AtZero d l u h n = eq_if d 0ℚ h

-- ---- the fit
abbrev pub FitIs : Tableau → Fit → Type 0
FitIs t Primal =
    (k : ℕ) → k < all_columns t → status_at t k ≡ Basic → IsInside (lower_at t k) (upper_at t k) (value_at t k)
FitIs t Dual = (k : ℕ) → k < all_columns t → meets_need_at t k ≡ true
FitIs t Unfit = Unit {0}

pub fit_is : (limit : Option ℕ) (t : Tableau) (fit : Fit) → fit_run limit t ≡ Ok fit → FitIs t fit
unfolding fit_run
fit_is limit t fit h =
    let o = then_ok (leaving_run limit t) (λ x. Ok (fit_by t x)) fit h in
    let z : fit_by t o.0 ≡ fit = cc in
    subst (FitIs t) z (by o.0 (leaving_is limit t o.0 o.1))
  where
    meet : (c : Bool) → all_meet t (all_columns t) ≡ c → FitIs t (cond c Dual Unfit)
    meet true e = all_met t (all_columns t) e
    meet false e = tt

    by : (x : Option Leaving) → LeavingIs t (all_columns t) x → FitIs t (fit_by t x)
    by None i = i
    by (Some x) i = meet (all_meet t (all_columns t)) refl
