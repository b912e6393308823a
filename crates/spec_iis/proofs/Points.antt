-- The points that are feasible with some sides alone: those that meet each of these sides.
--
-- `stays_by`: the row of a listed side stays in the model with the listed sides alone.
-- `more_points`: a point that is feasible with some sides alone is feasible with fewer of them.
use Rattle.std.proofs.Common.{◌≡◌, ℕ, ◌<◌, Bool, true, false, cond, List, All}
use Rattle.std.proofs.Common.{get_or, Option, Some, None, IfSome, refl, sym, ap, ap₂, ◌∙◌, subst, ◌||◌}
use Rattle.std.proofs.lemmas.Bool.{or_right}
use Rattle.spec_exact.specs.Fraction.{ℚ, ◌*ℚ◌, ◌≤ℚ◌}
use Rattle.spec_exact.specs.Sums.{sum_below}
use Rattle.spec_exact.proofs.RunsInOrder.{length-made, get_or-made}
use Rattle.spec_exact.proofs.Sums.{sum_below_same}
use Rattle.spec_model.specs.Model.{Model, Limits, ExactRow, ExactColumn, no_row, no_column, limits_of, bounds_of}
use Rattle.spec_model.specs.Model.{width, height, column, row, bounds, limits, entry_of, coefficient, activity, part}
use Rattle.spec_model.specs.Truth.{IsBetween, IsFeasible}
use Rattle.spec_iis.specs.declared.side.Side.{Side}
use Rattle.spec_iis.specs.Sides.{limits_at, end_of, IsSide, is_listed, IsWithin, Meets, MeetsAll}
use Rattle.spec_iis.specs.Only.{has_lower, has_upper, stays, with_sides, only_row, rank, only_row_at}
use Rattle.spec_iis.specs.Only.{if_listed, only_column_at, only}
use Rattle.spec_iis.proofs.Listed.{listed_holds, all_listed}
use Rattle.spec_iis.proofs.Picked.{IsAt, rank_mono, rank_onto, length-picked, get_or-picked}
use Rattle.spec_iis.proofs.Entries.{entry_of-only}

-- ---- the limits that stay
-- the second of two flags, for the upper side, where the first argument says upper; else the first, for the lower side
abbrev pub if_listed_of : Bool → Bool → Bool → Bool
if_listed_of true a b = b
if_listed_of false a b = a

-- a number is there
abbrev pub Is : Option ℚ → Type 0
Is o = (b : ℚ) × (o ≡ Some b)

-- the limits whose flags are set, the lower and the upper one; the others absent
abbrev pub chosen : Bool → Bool → Limits → Limits
chosen lower upper l = record { lower = if_listed lower l.lower; upper = if_listed upper l.upper }

-- a row that keeps some limits that it has, and at least one, has exactly these limits
limits_of-chosen : (lower upper : Bool) (r : ExactRow) → (lower ≡ true → Is (limits_of r).lower) →
    (upper ≡ true → Is (limits_of r).upper) → lower || upper ≡ true →
    limits_of (only_row lower upper r) ≡ chosen lower upper (limits_of r)
unfolding only_row
limits_of-chosen lower upper r f g h = by lower upper (limits_of r).lower (limits_of r).upper refl refl f g h
  where
    by : (a b : Bool) (l u : Option ℚ) → (limits_of r).lower ≡ l → (limits_of r).upper ≡ u → (a ≡ true → Is l) →
        (b ≡ true → Is u) → a || b ≡ true →
        limits_of (with_sides a b r l u) ≡ record { lower = if_listed a l; upper = if_listed b u }
    by true true l u p q f g h = ap₂ (λ l u. record { lower = l; upper = u }) p q
    by true false None u p q f g h = let e = f refl in absurd (let z : None ≡ Some e.0 = e.1 in cc)
    by true false (Some l) None p q f g h = ap₂ (λ l u. record { lower = l; upper = u }) p q
    by true false (Some l) (Some u) p q f g h = refl
    by false true l None p q f g h = let e = g refl in absurd (let z : None ≡ Some e.0 = e.1 in cc)
    by false true None (Some u) p q f g h = ap₂ (λ l u. record { lower = l; upper = u }) p q
    by false true (Some l) (Some u) p q f g h = refl
    by false false l u p q f g h = absurd (let z : false ≡ true = h in cc)

module _ (m : Model) (sides : List Side) where
  -- the model with some sides alone has as many columns as the model
  pub width-only : width (only m sides) ≡ width m
  unfolding only
  width-only = length-made (width m) (only_column_at m sides)

  -- the model with some sides alone has as many rows as stay
  pub height-only : height (only m sides) ≡ rank (stays sides) (height m)
  unfolding only
  height-only = length-picked (stays sides) (only_row_at m sides) (height m)

  -- column j of the model with some sides alone is column j with its listed bounds and the entries that stay
  column-only : (j : ℕ) → j < width m → column (only m sides) j ≡ only_column_at m sides j
  unfolding only
  column-only j l = get_or-made (width m) (only_column_at m sides) j no_column l

  -- a row that stays is, under its new number, the row with its listed sides alone
  row-only : (i : ℕ) → i < height m → stays sides i ≡ true →
      row (only m sides) (rank (stays sides) i) ≡ only_row_at m sides i
  unfolding only
  row-only i l h = get_or-picked (stays sides) (only_row_at m sides) (height m) i no_row l h

  -- a row that stays has at each point the same activity in the model with some sides alone, under its new number
  pub activity-only : (z : List ℚ) (i : ℕ) → stays sides i ≡ true →
      activity (only m sides) z (rank (stays sides) i) ≡ activity m z i
  activity-only z i h =
      ap (λ n. sum_below n (λ j. coefficient (only m sides) (rank (stays sides) i) j *ℚ part z j)) width-only
      ∙ sum_below_same (width m) _ _
      (λ j l. ap (λ a. a *ℚ part z j)
      (ap (λ (c : ExactColumn). entry_of c.entries (rank (stays sides) i)) (column-only j l)
      ∙ entry_of-only (stays sides) (column m j).entries i h))

  -- in the model with some sides alone column j has those of its bounds that are listed
  pub bounds-only : (j : ℕ) → j < width m →
      bounds (only m sides) j ≡ chosen (has_lower sides false j) (has_upper sides false j) (bounds m j)
  bounds-only j l = ap bounds_of (column-only j l)

  module _ (present : All (IsSide m) sides) where
    -- each listed side is a limit or bound that the model has
    side_there : (s : Side) → is_listed sides s ≡ true → Is (end_of s.upper (limits_at m s))
    side_there s h = (listed_holds (IsSide m) sides s present h).there

    -- in the model with some sides alone a row that stays has, under its new number, those of its limits that are
    -- listed
    pub limits-only : (i : ℕ) → i < height m → stays sides i ≡ true →
        limits (only m sides) (rank (stays sides) i)
        ≡ chosen (has_lower sides true i) (has_upper sides true i) (limits m i)
    limits-only i l h =
        ap limits_of (row-only i l h)
        ∙ limits_of-chosen (has_lower sides true i) (has_upper sides true i) (row m i)
        (side_there (record { row = true; at = i; upper = false }))
        (side_there (record { row = true; at = i; upper = true })) h

-- ---- the points

-- a number between limits of which some are chosen is within each end that is chosen
within_chosen : (upper : Bool) (a b : Bool) (l : Limits) (v : ℚ) → (if_listed_of upper a b ≡ true) →
    IsBetween (chosen a b l) v → IsWithin upper (end_of upper l) v
within_chosen true a b l v h g = subst (λ t. IfSome (if_listed t l.upper) (λ k. v ≤ℚ k)) h g.upper
within_chosen false a b l v h g = subst (λ t. IfSome (if_listed t l.lower) (λ k. k ≤ℚ v)) h g.lower

-- a number within each end that is chosen is between the chosen limits
between_chosen : (a b : Bool) (l : Limits) (v : ℚ) → (a ≡ true → IsWithin false l.lower v) →
    (b ≡ true → IsWithin true l.upper v) → IsBetween (chosen a b l) v
between_chosen a b l v f g = record { lower = low a f; upper = high b g }
  where
    low : (a : Bool) → (a ≡ true → IsWithin false l.lower v) → IfSome (if_listed a l.lower) (λ k. k ≤ℚ v)
    low true f = f refl
    low false f = tt

    high : (b : Bool) → (b ≡ true → IsWithin true l.upper v) → IfSome (if_listed b l.upper) (λ k. v ≤ℚ k)
    high true g = g refl
    high false g = tt

-- where a holds, a or b holds
or_left : (a b : Bool) → a ≡ true → a || b ≡ true
or_left true b h = refl
or_left false b h = absurd (let z : false ≡ true = h in cc)

-- the upper or lower side, by the second flag, of row i if the first flag says so, else of column i
abbrev pub side : Bool → ℕ → Bool → Side
side r i u = record { row = r; at = i; upper = u }

-- a row stays that a listed side is of, by which of the two it is
pub stays_by : (sides : List Side) (i : ℕ) (u : Bool) → is_listed sides (side true i u) ≡ true → stays sides i ≡ true
stays_by sides i true h = or_right (has_lower sides true i) (has_upper sides true i) h
stays_by sides i false h = or_left (has_lower sides true i) (has_upper sides true i) h

module _ (m : Model) (sides : List Side) (present : All (IsSide m) sides) where
  -- where a side of a row or column is listed, the flag for this side is set
  flag_by : (r : Bool) (i : ℕ) (u : Bool) → is_listed sides (side r i u) ≡ true →
      if_listed_of u (has_lower sides r i) (has_upper sides r i) ≡ true
  flag_by r i true h = h
  flag_by r i false h = h

  -- a point that is feasible with some sides alone meets each of them
  met_by : (z : List ℚ) → IsFeasible (only m sides) z → (s : Side) → is_listed sides s ≡ true → IsSide m s → Meets m z s
  met_by z f s h k = by s.row s.at s.upper h k.inside
    where
      by : (r : Bool) (i : ℕ) (u : Bool) → is_listed sides (side r i u) ≡ true →
          i < cond r (height m) (width m) → Meets m z (side r i u)
      by true i u h l =
          let t : stays sides i ≡ true = stays_by sides i u h in
          let below : rank (stays sides) i < height (only m sides) =
          subst (λ n. rank (stays sides) i < n) (sym (height-only m sides)) (rank_mono (stays sides) i (height m) l t) in
          within_chosen u (has_lower sides true i) (has_upper sides true i) (limits m i) (activity m z i)
          (flag_by true i u h)
          (subst (λ v. IsBetween (chosen (has_lower sides true i) (has_upper sides true i) (limits m i)) v)
          (activity-only m sides z i t)
          (subst (λ k. IsBetween k (activity (only m sides) z (rank (stays sides) i))) (limits-only m sides present i l t)
          (f.rows (rank (stays sides) i) below)))
      by false j u h l =
          within_chosen u (has_lower sides false j) (has_upper sides false j) (bounds m j) (part z j) (flag_by false j u h)
          (subst (λ k. IsBetween k (part z j)) (bounds-only m sides j l)
          (f.columns j (subst (λ n. j < n) (sym (width-only m sides)) l)))

  -- a point that is feasible with some sides alone has a value for each column and meets each of these sides
  pub points_meet : (z : List ℚ) → IsFeasible (only m sides) z → MeetsAll m sides z
  points_meet z f = record {
    one_each = f.one_each ∙ width-only m sides;
    met = λ k d l. met_by z f (get_or sides k d) (all_listed sides k d l) (present k d l);
  }

  -- a point that has a value for each column and meets each of some sides is feasible with these sides alone
  pub meeting_points : (z : List ℚ) → MeetsAll m sides z → IsFeasible (only m sides) z
  meeting_points z h = record {
    one_each = h.one_each ∙ sym (width-only m sides);
    columns = λ j l. in_bounds j (subst (λ n. j < n) (width-only m sides) l);
    rows = λ k l. in_limits k (rank_onto (stays sides) (height m) k (subst (λ n. k < n) (height-only m sides) l));
  }
    where
      meets : (s : Side) → is_listed sides s ≡ true → Meets m z s
      meets s g = listed_holds (Meets m z) sides s h.met g

      in_bounds : (j : ℕ) → j < width m → IsBetween (bounds (only m sides) j) (part z j)
      in_bounds j l =
          subst (λ k. IsBetween k (part z j)) (sym (bounds-only m sides j l))
          (between_chosen (has_lower sides false j) (has_upper sides false j) (bounds m j) (part z j)
          (meets (side false j false)) (meets (side false j true)))

      in_limits : (k : ℕ) → IsAt (stays sides) (height m) k →
          IsBetween (limits (only m sides) k) (activity (only m sides) z k)
      in_limits k r =
          subst (λ k. IsBetween (limits (only m sides) k) (activity (only m sides) z k)) r.number
          (subst (λ v. IsBetween (limits (only m sides) (rank (stays sides) r.item)) v)
          (sym (activity-only m sides z r.item r.passes))
          (subst (λ k. IsBetween k (activity m z r.item)) (sym (limits-only m sides present r.item r.inside r.passes))
          (between_chosen (has_lower sides true r.item) (has_upper sides true r.item) (limits m r.item) (activity m z r.item)
          (meets (side true r.item false)) (meets (side true r.item true)))))

pub more_points : (m : Model) (few more : List Side) (z : List ℚ) → All (IsSide m) more →
    All (λ s. is_listed more s ≡ true) few → IsFeasible (only m more) z → IsFeasible (only m few) z
more_points m few more z present among f =
    let h = points_meet m more present z f in
    meeting_points m few (λ k d l. listed_holds (IsSide m) more _ present (among k d l)) z
    (record { one_each = h.one_each; met = λ k d l. listed_holds (Meets m z) more _ h.met (among k d l) })
