-- Which row or column goes next, under a limit. The first rule that applies is taken, and in it the first column or row.
use Rattle.std.specs.Prelude.{ℕ, zero, suc, ◌||◌, Bool, false, not, pos, ◌^◌, Option, Some, None, Ok, if◌then◌else◌}
use Rattle.std.specs.Ordering.{is_lt, is_gt}
use Rattle.spec_exact.specs.Fraction.{ℚ, 0ℚ, abs_ℚ, whole, lt_ℚ, eq_ℚ}
use Rattle.spec_exact.specs.Run.{Run, ◌>>=◌, order_run, quotient_run, steps}
use Rattle.spec_model.specs.Model.{Model, width, height, bounds, row, coefficient}
use Rattle.spec_simplex.specs.Form.{limits_run}
use Rattle.spec_presolve.specs.declared.reduction.InRow.{InRow}
use Rattle.spec_presolve.specs.declared.reduction.InRow.TheVariants.{Nothing, One, More}
use Rattle.spec_presolve.specs.declared.reduction.Reduction.{Reduction}
use Rattle.spec_presolve.specs.declared.reduction.Reduction.TheVariants.{Empty, Single, Fixed}
use Rattle.spec_presolve.specs.declared.reduction.Halt.TheVariants.{Done, Clash, Above, Below}
use Rattle.spec_presolve.specs.declared.reduction.Choice.{Choice}
use Rattle.spec_presolve.specs.declared.reduction.Choice.TheVariants.{Reduce, Halt}

-- a reduction with exact numbers
abbrev pub ExactReduction : Type 0
ExactReduction = Reduction ℚ

-- a choice with exact numbers
abbrev pub ExactChoice : Type 0
ExactChoice = Choice ℚ

-- ---- what is first

-- what was found already; else what the run finds
abbrev pub unless : {A : Type 0} → Option A → Run (Option A) → Run (Option A)
unless None run = run
unless (Some a) run = Ok (Some a)

-- what the first of f 0, f 1 .. f (n - 1) that finds something finds, and the later ones are not run; none where no one
-- does; or the refusal, where one is refused before that
abbrev pub first : {A : Type 0} → ℕ → (ℕ → Run (Option A)) → Run (Option A)
first n f = steps n (λ k found. unless found (f k)) None

-- ---- bounds that clash

-- whether a lower bound is above an upper one, or the refusal of their comparison; no where one is absent
abbrev pub crossed : Option ℕ → Option ℚ → Option ℚ → Run Bool
crossed limit None upper = Ok false
crossed limit (Some l) None = Ok false
crossed limit (Some l) (Some u) = order_run limit l u >>= λ o. Ok (is_gt o)

-- the choice to halt because the bounds of column j clash; none where they do not; or the refusal of their comparison
abbrev pub clash_at : Option ℕ → Model → ℕ → Run (Option ExactChoice)
clash_at limit m j =
    crossed limit (bounds m j).lower (bounds m j).upper >>= λ c. Ok (if c then Some (Halt (Clash j)) else None)

-- ---- the entries of a row

-- what a row has, by what was found in it so far and one entry more, a in column j: this one alone, or more than one
abbrev pub one_more : InRow ℚ → ℕ → ℚ → InRow ℚ
one_more Nothing j a = One j a
one_more (One k b) j a = More
one_more More j a = More

-- what a row has, by what was found in it so far and its coefficient a in column j: one entry more, or the same where a
-- is 0
abbrev pub and_next : InRow ℚ → ℕ → ℚ → InRow ℚ
and_next found j a = if eq_ℚ a 0ℚ then found else one_more found j a

-- the entries of row i in the first n columns: none, one, or more
abbrev pub in_row_below : Model → ℕ → ℕ → InRow ℚ
in_row_below m i zero = Nothing
in_row_below m i (suc n) = and_next (in_row_below m i n) n (coefficient m i n)

-- the entries of row i in the model's columns: none, one, or more
abbrev pub in_row : Model → ℕ → InRow ℚ
in_row m i = in_row_below m i (width m)

-- ---- a row without entries goes, unless its sum, which is 0, is outside its limits

-- whether there is a lower limit, and it is above 0
abbrev pub is_above : Option ℚ → Bool
is_above None = false
is_above (Some l) = lt_ℚ 0ℚ l

-- whether there is an upper limit, and it is below 0
abbrev pub is_below : Option ℚ → Bool
is_below None = false
is_below (Some u) = lt_ℚ u 0ℚ

-- the choice for row i, which has no entries and these limits: to remove it where 0 is within them, else to halt as
-- infeasible
abbrev pub empty_row : ℕ → Option ℚ → Option ℚ → ExactChoice
empty_row i lower upper =
    if is_above lower then Halt (Above i) else if is_below upper then Halt (Below i) else Reduce (Empty i)

-- the choice for row i if it has no entries: to remove it, or to halt because 0 is outside its limits; or the refusal
-- of its limits. None if it has some.
abbrev pub empty_by : Option ℕ → Model → ℕ → InRow ℚ → Run (Option ExactChoice)
empty_by limit m i Nothing = limits_run limit (row m i) >>= λ l. Ok (Some (empty_row i l.0 l.1))
empty_by limit m i (One j a) = Ok None
empty_by limit m i More = Ok None

-- the choice for row i of a model if it has no entries: to remove it, or to halt because 0 is outside its limits; or
-- the refusal of its limits. None if it has some.
abbrev pub empty_at : Option ℕ → Model → ℕ → Run (Option ExactChoice)
empty_at limit m i = empty_by limit m i (in_row m i)

-- ---- a row with one entry gives its column bounds, where they are tighter than those that the column has

-- a row's limit divided by its entry a, or the refusal; none where there is no limit
abbrev pub quotient : Option ℕ → Option ℚ → ℚ → Run (Option ℚ)
quotient limit None a = Ok None
quotient limit (Some l) a = quotient_run limit l a >>= λ q. Ok (Some q)

-- whether there is a bound, and it is 10^20 or more from 0
abbrev pub is_far : Option ℚ → Bool
is_far None = false
is_far (Some q) = not (lt_ℚ (abs_ℚ q) (whole (pos (10 ^ 20))))

-- the given lower bound if it is tighter than the old one, or there is no old one; else none; or the refusal of their
-- comparison
abbrev pub raised : Option ℕ → Option ℚ → Option ℚ → Run (Option ℚ)
raised limit None old = Ok None
raised limit (Some q) None = Ok (Some q)
raised limit (Some q) (Some l) = order_run limit q l >>= λ o. Ok (if is_gt o then Some q else None)

-- the given upper bound if it is tighter than the old one, or there is no old one; else none; or the refusal of their
-- comparison
abbrev pub cut : Option ℕ → Option ℚ → Option ℚ → Run (Option ℚ)
cut limit None old = Ok None
cut limit (Some q) None = Ok (Some q)
cut limit (Some q) (Some u) = order_run limit q u >>= λ o. Ok (if is_lt o then Some q else None)

-- the choice to remove row i, whose one entry a holds column j between l and u, with those of these bounds that are
-- tighter than the column's; or the refusal of a comparison
abbrev pub given : Option ℕ → Model → ℕ → ℕ → ℚ → Option ℚ → Option ℚ → Run (Option ExactChoice)
given limit m i j a l u =
    raised limit l (bounds m j).lower >>= λ lower. cut limit u (bounds m j).upper >>= λ upper.
    Ok (Some (Reduce (Single i j a lower upper)))

-- The choice for row i with the one entry a, in column j, where p is its lower and q its upper limit divided by a: to
-- remove it, with those of the bounds for column j that are tighter. With a below 0, q is the lower bound and p the
-- upper one. There is no choice where p or q is 10^20 or more from 0. Or the refusal of a comparison.
abbrev pub near : Option ℕ → Model → ℕ → ℕ → ℚ → Option ℚ → Option ℚ → Run (Option ExactChoice)
near limit m i j a p q =
    if is_far p || is_far q then Ok None
    else if lt_ℚ a 0ℚ then given limit m i j a q p else given limit m i j a p q

-- the choice for row i if it has one entry: to give its column bounds and remove it; none if it has another number of
-- entries, or a bound would be 10^20 or more from 0; or the first refusal
abbrev pub single_by : Option ℕ → Model → ℕ → InRow ℚ → Run (Option ExactChoice)
single_by limit m i Nothing = Ok None
single_by limit m i (One j a) =
    limits_run limit (row m i) >>= λ l.
    quotient limit l.0 a >>= λ p. quotient limit l.1 a >>= λ q. near limit m i j a p q
single_by limit m i More = Ok None

-- the choice to remove row i of a model if it has one entry, with the bounds that it gives its column; none if it has
-- another number of entries, or a bound would be 10^20 or more from 0; or the first refusal
abbrev pub single_at : Option ℕ → Model → ℕ → Run (Option ExactChoice)
single_at limit m i = single_by limit m i (in_row m i)

-- ---- a column that stands still

-- the choice to remove column j if its bounds are there and equal; else none
abbrev pub fixed_by : ℕ → Option ℚ → Option ℚ → Option ExactChoice
fixed_by j None upper = None
fixed_by j (Some l) None = None
fixed_by j (Some l) (Some u) = if eq_ℚ l u then Some (Reduce (Fixed j l)) else None

-- the choice to remove column j of a model if it is fixed; else none
abbrev pub fixed_at : Model → ℕ → Run (Option ExactChoice)
fixed_at m j = Ok (fixed_by j (bounds m j).lower (bounds m j).upper)

-- ---- what comes next

-- the choice that was found; else to halt because nothing more can be reduced
abbrev pub or_done : Option ExactChoice → ExactChoice
or_done None = Halt Done
or_done (Some choice) = choice

-- What comes next for a model, by the first of these that there is: to halt at the first column whose bounds clash; to
-- remove the first row without entries, or to halt where 0 is outside its limits; to remove the first row with one
-- entry that gives no bound of 10^20 or more; to remove the first fixed column; else to halt. Or the first refusal.
unfoldable pub chosen : Option ℕ → Model → Run ExactChoice
chosen limit m =
    first (width m) (clash_at limit m) >>= λ a.
    unless a (first (height m) (empty_at limit m)) >>= λ b.
    unless b (first (height m) (single_at limit m)) >>= λ c.
    unless c (first (width m) (fixed_at m)) >>= λ d. Ok (or_done d)
