-- What stops the entering column, with its ratio as a fraction.
use Rattle.std.specs.Prelude.{ℕ, ◌*◌, ℤ, ◌-ℤ◌, ◌*ℤ◌, pos, ◌≡◌, Option, Some, None, Ok}
use Rattle.std.specs.declared.cmp.Ordering.{Ordering}
use Rattle.std.specs.declared.cmp.Ordering.TheVariants.{Less, Equal, Greater}
use Rattle.spec_exact.specs.Run.{Run}
use Rattle.spec_simplex.specs.Step.{better_run, rise_run, fall_run}
use Rattle.lp_natural.specs.declared.words.signed.Signed.{Signed}
use Rattle.spec_exact.specs.Fraction.{ℚ, over}
use Rattle.spec_simplex.specs.declared.ends.Best.{Best}
use Rattle.lp_natural.specs.Whole.{whole}
use Rattle.lp_rows.specs.declared.ratio.Stopper.{Stopper}
use Rattle.lp_rows.specs.declared.ratio.Gap.{Gap}
use Rattle.spec_pivot.specs.declared.status.Status.{Status}
use Rattle.spec_pivot.specs.declared.status.Way.{Way}
use Rattle.spec_pivot.specs.declared.status.Way.TheVariants.{Up, Down}

-- a stop of the code as the best of the ratio test: its ratio as a fraction, the gap over d times the entry, its
-- column, position and bound; d is the denominator of all bounds
abbrev pub best_of : {T : Type 0} → (T → ℕ) → ℕ → Stopper T → Best ℚ
best_of value d s =
    record {
      ratio = over (whole s.gap.negative (value s.gap.size)) (d * value s.entry);
      col = s.col;
      place = s.position;
      to = s.to;
    }

-- how far a value is below a bound, for the way up, or above it, for the way down; negative where the value is past the
-- bound
abbrev pub room_of : Way → ℤ → ℤ → ℤ
room_of Up bound value = bound -ℤ value
room_of Down bound value = value -ℤ bound

-- a bound that the code holds over the denominator d, as a fraction; none where there is none
abbrev pub bound_of : {T : Type 0} → (T → ℕ) → ℕ → Option (Signed T) → Option ℚ
bound_of value d None = None
bound_of value d (Some b) = Some (over (whole b.negative (value b.size)) d)

-- the better of the best ratio so far and what stops the entering column in one more position; the best so far where
-- nothing stops it there
abbrev pub stopped : {T : Type 0} → (T → ℕ) → ℕ → Option (Stopper T) → Option (Best ℚ) → Run (Option (Best ℚ))
stopped value d None best = Ok best
stopped value d (Some s) best = better_run None (best_of value d s) best

-- a gap of the code as a fraction, with the status at its bound; none where there is none. d is the denominator of all
-- bounds, and e that of the row
abbrev pub gap_of : {T : Type 0} → (T → ℕ) → ℕ → ℕ → Option (Gap T) → Option (ℚ × Status)
gap_of value d e None = None
gap_of value d e (Some g) = Some (over (whole g.size.negative (value g.size.size)) (d * e), g.to)

-- how far the value v may move until a bound stops it, with the status there: a column with the sign `Less` rises, with
-- `Greater` it falls, and with `Equal` it stands, which gives none
abbrev pub gap_by : Ordering → Option ℚ → Option ℚ → ℚ → Run (Option (ℚ × Status))
gap_by Less lower upper v = rise_run None upper v
gap_by Equal lower upper v = Ok None
gap_by Greater lower upper v = fall_run None lower v

-- the gap that the code gives is that between the bound, times the row's denominator e, and the value v, which is on e
-- already: v below the bound for the way up, above it for down. Its status is `to`. There is no gap if and only if
-- there is no bound.
abbrev pub IsGap : {T : Type 0} → (T → ℕ) → Way → Option (Signed T) → Signed T → ℕ → Status → Option (Gap T) → Type 0
IsGap value way None v e to None = Unit {0}
IsGap value way None v e to (Some g) = ⊥
IsGap value way (Some b) v e to None = ⊥
IsGap value way (Some b) v e to (Some g) =
    (whole g.size.negative (value g.size.size) ≡
    room_of way (whole b.negative (value b.size) *ℤ pos e) (whole v.negative (value v.size)))
    × (g.to ≡ to)
