-- The column that enters in the primal method: one that may, and so a nonbasic one.
--
-- `may_enter`: the entering column is one of the tableau's, and may enter in the direction that is named.
-- `not_basic`: a column that may rise or fall as it enters is not basic.
use Rattle.std.proofs.Common.{◌≡◌, ◌≢◌, ℕ, zero, suc, ◌<◌, Option, Some, None}
use Rattle.std.proofs.Common.{Bool, true, false, cond, refl, subst, ◌∙◌, arith}
use Rattle.spec_exact.specs.Fraction.{ℚ}
use Rattle.spec_pivot.specs.declared.status.Status.{Status}
use Rattle.spec_pivot.specs.declared.status.Status.TheVariants.{Basic, AtLower, AtUpper, AtZero}
use Rattle.spec_pivot.specs.declared.status.Way.{Way}
use Rattle.spec_simplex.specs.declared.ends.Entering.{Entering}
use Rattle.spec_simplex.specs.Tableau.{Tableau, all_columns}
use Rattle.spec_simplex.specs.Step.{way_by, way_at, or_enters, entering_below, entering}

-- ---- what is known of it
-- the column of e is one of the first n, and may enter in the direction of e
pub record MayEnter (t : Tableau) (n : ℕ) (e : Entering) : Type 0 where
  pub inside : e.col < n
  pub way : way_at t e.col ≡ Some e.direction

-- the entering column of the first n may enter in the direction that is named
may_enter_below : (t : Tableau) (n : ℕ) (x : Entering) → entering_below t n ≡ Some x → MayEnter t n x
may_enter_below t zero x h = let z : None ≡ Some x = h in cc
may_enter_below t (suc n) x h = by (entering_below t n) (way_at t n) refl refl h (λ p. may_enter_below t n x p)
  where
    by : (e : Option Entering) (w : Option Way) → entering_below t n ≡ e → way_at t n ≡ w → or_enters e n w ≡ Some x →
        (entering_below t n ≡ Some x → MayEnter t n x) → MayEnter t (suc n) x
    by (Some e) w p q h before =
        let there : MayEnter t n x = before (p ∙ h) in record { inside = omega (arith, there.inside); way = there.way }
    by None None p q h before = let z : None ≡ Some x = h in cc
    by None (Some w) p q h before =
        let z : ◌≡◌ {A = Entering} (record { col = n; direction = w }) x = cc in
        subst (MayEnter t (suc n)) z (record { inside = omega arith; way = q })

pub may_enter : (t : Tableau) (x : Entering) → entering t ≡ Some x → MayEnter t (all_columns t) x
may_enter t x h = may_enter_below t (all_columns t) x h

-- a column that may enter is not basic
pub not_basic : (b : Bool) (s : Status) (d : ℚ) (w : Way) → cond b None (way_by s d) ≡ Some w → s ≢ Basic
not_basic true s d w h e = let z : None ≡ Some w = h in cc
not_basic false Basic d w h e = let z : None ≡ Some w = h in cc
not_basic false AtLower d w h e = cc
not_basic false AtUpper d w h e = cc
not_basic false AtZero d w h e = cc
