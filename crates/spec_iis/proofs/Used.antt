-- The sides that a certificate uses are infeasible together.
--
-- `All-gathered`: what holds of all members of each of n lists holds of all members of these behind one another.
-- `All-side_if`: what holds of a side where a test says yes holds of all in the list that has it only then.
-- `used_clash`: where a certificate shows a model infeasible, the sides that it uses are the model's, and infeasible
--   together.
use Rattle.std.proofs.Common.{◌≡◌, ◌≢◌, ℕ, zero, suc, ◌<◌, Bool, true, false, List, [], ◌∷◌, ◌++◌, All}
use Rattle.std.proofs.Common.{Option, Some, None, IfSome, Ok, refl, ap, ◌∙◌, subst, arith, ⊎_elim}
use Rattle.std.proofs.lemmas.Bool.{cases_eq}
use Rattle.std.proofs.lemmas.List.Elements.{All-nil, All-cons, All-append}
use Rattle.spec_exact.specs.Fraction.{ℚ, 0ℚ, ◌≤ℚ◌, lt_ℚ}
use Rattle.spec_exact.proofs.Order.{lt_if, lt_test, ≤ℚ_trans, clash_ℚ}
use Rattle.spec_model.specs.Model.{Model, Limits, width, height, bounds, limits, coefficient, activity, part}
use Rattle.spec_model.specs.Truth.{IsInfeasible}
use Rattle.spec_check.specs.declared.certificate.Certificate.{Certificate}
use Rattle.spec_check.specs.declared.certificate.Certificate.TheVariants.{Optimal, Infeasible, Clash, Unbounded}
use Rattle.spec_check.specs.declared.certificate.Known.TheVariants as known
use Rattle.spec_check.specs.Certificate.{IsFor}
use Rattle.spec_check.specs.Checks.{ChecksInfeasible, ChecksClash, asked, HasLimit, turned_limits, priced}
use Rattle.spec_check.specs.Run.{check_run}
use Rattle.spec_check.proofs.RunSound.{run_sound}
use Rattle.spec_check.proofs.Duality.{Tight, infeasible}
use Rattle.spec_check.proofs.Sound.{asked_above, asked_below}
use Rattle.spec_iis.specs.declared.side.Side.{Side}
use Rattle.spec_iis.specs.Sides.{IsSide, is_listed, Meets}
use Rattle.spec_iis.specs.Only.{if_listed, only}
use Rattle.spec_iis.specs.Rule.{gathered, side_if, row_sides, column_sides, used}
use Rattle.spec_iis.proofs.Listed.{listed_holds, listed_first, listed_left, listed_right}
use Rattle.spec_iis.proofs.Points.{side, points_meet}

-- ---- lists behind one another
pub All-gathered : {A : Type 0} (P : A → Type 0) (f : ℕ → List A) (n : ℕ) → ((i : ℕ) → i < n → All P (f i)) →
    All P (gathered f n)
All-gathered P f zero h = All-nil P
All-gathered P f (suc n) h =
    All-append P (gathered f n) (f n) (All-gathered P f n (λ i l. h i (omega arith))) (h n (omega arith))

-- a side that is listed in one of the lists is listed where all of them are gathered
listed_gathered : (f : ℕ → List Side) (n i : ℕ) (s : Side) → i < n → is_listed (f i) s ≡ true →
    is_listed (gathered f n) s ≡ true
listed_gathered f zero i s l h = absurd (omega arith)
listed_gathered f (suc n) i s l h =
    ⊎_elim (λ e. listed_right (gathered f n) (f n) s (subst (λ k. is_listed (f k) s ≡ true) e h))
    (λ e. listed_left (gathered f n) (f n) s (listed_gathered f n i s (let d : i ≢ n = e in omega arith) h)) (cases_eq i n)

pub All-side_if : (P : Side → Type 0) (t : Bool) (s : Side) → (t ≡ true → P s) → All P (side_if t s)
All-side_if P true s h = All-cons P s [] (h refl) (All-nil P)
All-side_if P false s h = All-nil P

-- where the test holds, the list of a side for that test lists the side
listed_if : (t : Bool) (s : Side) → t ≡ true → is_listed (side_if t s) s ≡ true
listed_if true s h = listed_first s []
listed_if false s h = absurd (let z : false ≡ true = h in cc)

-- ---- multipliers

-- a multiplier is tight at the limit that goes with its sign, where only the limits that it uses are kept
tight_if : (l : Limits) (d : ℚ) → HasLimit l d →
    Tight (if_listed (lt_ℚ 0ℚ d) l.lower) (if_listed (lt_ℚ d 0ℚ) l.upper) d (asked l d)
tight_if l d h = record {
  above = λ p. ap (λ t. if_listed t l.lower) (lt_test 0ℚ d p) ∙ asked_above l d h p;
  below = λ p. ap (λ t. if_listed t l.upper) (lt_test d 0ℚ p) ∙ asked_below l d h p;
}

-- what holds of a bound where a test holds, holds of the number that stays by the test
met_if : (P : ℚ → Type 0) (t : Bool) (o : Option ℚ) → (t ≡ true → IfSome o P) → (k : ℚ) → if_listed t o ≡ Some k → P k
met_if P true o h k e = subst (λ o. IfSome o P) e (h refl)
met_if P false o h k e = absurd (let z : None ≡ Some k = e in cc)

module _ (m : Model) (y : List ℚ) where
  -- the multiplier of row i
  abbrev d : ℕ → ℚ
  d i = part y i

  -- the part of the multipliers in column j: the sum of its coefficients times the multipliers of their rows
  abbrev g : ℕ → ℚ
  g j = priced m y j

  -- the sides that the multipliers use, those of rows first
  abbrev uses : List Side
  uses = gathered (λ i. row_sides i (d i)) (height m) ++ gathered (λ j. column_sides j (g j)) (width m)

  -- a side that the multiplier of row i uses is among those that all multipliers use
  row_listed : (i : ℕ) (s : Side) → i < height m → is_listed (row_sides i (d i)) s ≡ true → is_listed uses s ≡ true
  row_listed i s l h = listed_left _ _ s (listed_gathered (λ i. row_sides i (d i)) (height m) i s l h)

  -- a side of column j that the multipliers use is among those that they use in all
  column_listed : (j : ℕ) (s : Side) → j < width m → is_listed (column_sides j (g j)) s ≡ true → is_listed uses s ≡ true
  column_listed j s l h =
      listed_right (gathered (λ i. row_sides i (d i)) (height m)) _ s
      (listed_gathered (λ j. column_sides j (g j)) (width m) j s l h)

  -- where the multiplier of a row is above 0, the multipliers use the row's lower limit
  lower_row : (i : ℕ) → i < height m → lt_ℚ 0ℚ (d i) ≡ true → is_listed uses (side true i false) ≡ true
  unfolding row_sides
  lower_row i l h = row_listed i (side true i false) l (listed_left _ _ (side true i false) (listed_if _ (side true i false) h))

  -- where the multiplier of a row is below 0, the multipliers use the row's upper limit
  upper_row : (i : ℕ) → i < height m → lt_ℚ (d i) 0ℚ ≡ true → is_listed uses (side true i true) ≡ true
  unfolding row_sides
  upper_row i l h =
      row_listed i (side true i true) l
      (listed_right (side_if (lt_ℚ 0ℚ (d i)) (side true i false)) _ (side true i true) (listed_if _ (side true i true) h))

  -- where the multipliers' part in a column is below 0, they use the column's lower bound
  lower_column : (j : ℕ) → j < width m → lt_ℚ (g j) 0ℚ ≡ true → is_listed uses (side false j false) ≡ true
  unfolding column_sides
  lower_column j l h =
      column_listed j (side false j false) l (listed_left _ _ (side false j false) (listed_if _ (side false j false) h))

  -- where the multipliers' part in a column is above 0, they use the column's upper bound
  upper_column : (j : ℕ) → j < width m → lt_ℚ 0ℚ (g j) ≡ true → is_listed uses (side false j true) ≡ true
  unfolding column_sides
  upper_column j l h =
      column_listed j (side false j true) l
      (listed_right (side_if (lt_ℚ (g j) 0ℚ) (side false j false)) _ (side false j true) (listed_if _ (side false j true) h))

  module _ (h : ChecksInfeasible m y) where
    -- the sides that accepted multipliers use are sides of the model
    uses_present : All (IsSide m) uses
    unfolding row_sides column_sides
    uses_present =
        All-append (IsSide m) _ _
        (All-gathered (IsSide m) (λ i. row_sides i (d i)) (height m) (λ i l. All-append (IsSide m) _ _
        (All-side_if (IsSide m) (lt_ℚ 0ℚ (d i)) (side true i false)
        (λ e. record { inside = l; there = (h.rows i l).above (lt_if 0ℚ (d i) e) }))
        (All-side_if (IsSide m) (lt_ℚ (d i) 0ℚ) (side true i true)
        (λ e. record { inside = l; there = (h.rows i l).below (lt_if (d i) 0ℚ e) }))))
        (All-gathered (IsSide m) (λ j. column_sides j (g j)) (width m) (λ j l. All-append (IsSide m) _ _
        (All-side_if (IsSide m) (lt_ℚ (g j) 0ℚ) (side false j false)
        (λ e. record { inside = l; there = (h.columns j l).below (lt_if (g j) 0ℚ e) }))
        (All-side_if (IsSide m) (lt_ℚ 0ℚ (g j)) (side false j true)
        (λ e. record { inside = l; there = (h.columns j l).above (lt_if 0ℚ (g j) e) }))))

    -- no point meets all sides that accepted multipliers use
    uses_infeasible : IsInfeasible (only m uses)
    uses_infeasible z f =
        infeasible (width m) (height m) (coefficient m)
        (λ j. if_listed (lt_ℚ (g j) 0ℚ) (bounds m j).lower) (λ j. if_listed (lt_ℚ 0ℚ (g j)) (bounds m j).upper)
        (λ i. if_listed (lt_ℚ 0ℚ (d i)) (limits m i).lower) (λ i. if_listed (lt_ℚ (d i) 0ℚ) (limits m i).upper)
        (part y) (λ i. asked (limits m i) (d i)) (λ j. asked (turned_limits (bounds m j)) (g j)) (part z)
        (λ i l. tight_if (limits m i) (d i) (h.rows i l))
        (λ j l. tight_if (turned_limits (bounds m j)) (g j) (h.columns j l)) h.less
        (record {
          columns = λ j l. record {
            low = met_if (λ k. k ≤ℚ part z j) (lt_ℚ (g j) 0ℚ) (bounds m j).lower
                (λ e. meets (side false j false) (lower_column j l e));
            high = met_if (λ k. part z j ≤ℚ k) (lt_ℚ 0ℚ (g j)) (bounds m j).upper
                (λ e. meets (side false j true) (upper_column j l e));
          };
          rows = λ i l. record {
            low = met_if (λ k. k ≤ℚ activity m z i) (lt_ℚ 0ℚ (d i)) (limits m i).lower
                (λ e. meets (side true i false) (lower_row i l e));
            high = met_if (λ k. activity m z i ≤ℚ k) (lt_ℚ (d i) 0ℚ) (limits m i).upper
                (λ e. meets (side true i true) (upper_row i l e));
          };
        })
      where
        meets : (s : Side) → is_listed uses s ≡ true → Meets m z s
        meets s e = listed_holds (Meets m z) uses s (points_meet m uses uses_present z f).met e

-- ---- a clash
module _ (m : Model) (j : ℕ) (h : ChecksClash m j) where
  -- both bounds of column j
  abbrev pair : List Side
  pair = side false j false ∷ side false j true ∷ []

  -- both bounds of a column that clashes are sides of the model
  pair_present : All (IsSide m) pair
  pair_present =
      All-cons (IsSide m) (side false j false) (side false j true ∷ []) (record { inside = h.inside; there = (h.low, h.lower) })
      (All-cons (IsSide m) (side false j true) [] (record { inside = h.inside; there = (h.high, h.upper) })
      (All-nil (IsSide m)))

  -- no point meets both bounds of a column that clashes
  pair_infeasible : IsInfeasible (only m pair)
  pair_infeasible z f =
      let met = (points_meet m pair pair_present z f).met in
      let low : IfSome (bounds m j).lower (λ k. k ≤ℚ part z j) =
      listed_holds (Meets m z) pair (side false j false) met (listed_first (side false j false) (side false j true ∷ [])) in
      let high : IfSome (bounds m j).upper (λ k. part z j ≤ℚ k) =
      listed_holds (Meets m z) pair (side false j true) met
      (listed_right (side false j false ∷ []) (side false j true ∷ []) (side false j true) (listed_first (side false j true) [])) in
      clash_ℚ h.high h.low h.crossed
      (≤ℚ_trans h.low (part z j) h.high (subst (λ o. IfSome o (λ k. k ≤ℚ part z j)) h.lower low)
      (subst (λ o. IfSome o (λ k. part z j ≤ℚ k)) h.upper high))

-- ---- a certificate
-- the sides are sides of the model, and no point meets all of them
pub record Clashes (m : Model) (sides : List Side) : Type 0 where
  pub present : All (IsSide m) sides
  pub infeasible : IsInfeasible (only m sides)

pub used_clash : (limit : Option ℕ) (m : Model) (cert : Certificate (List ℚ)) → IsFor m cert →
    check_run limit m cert ≡ Ok known.Infeasible → Clashes m (used m cert)
unfolding used
used_clash limit m (Optimal x y) fits e =
    absurd (let h = (run_sound limit m (Optimal x y) known.Infeasible fits e).1 in cc)
used_clash limit m (Infeasible y) fits e =
    let h = (run_sound limit m (Infeasible y) known.Infeasible fits e).0 in
    record { present = uses_present m y h; infeasible = uses_infeasible m y h }
used_clash limit m (Clash j) fits e =
    let h = (run_sound limit m (Clash j) known.Infeasible fits e).0 in
    record { present = pair_present m j h; infeasible = pair_infeasible m j h }
used_clash limit m (Unbounded x r) fits e =
    absurd (let h = (run_sound limit m (Unbounded x r) known.Infeasible fits e).1 in cc)
