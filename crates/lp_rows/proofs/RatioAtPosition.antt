-- The ratio test over a tableau of rows, position by position, and the choice that follows.
--
-- `by_some`: where P implies Q, an optional item that has P, if it is there, has Q.
-- `stays`: a position whose entry is 0 leaves the best ratio as it was.
-- `between`: the ratio that the entering column's own bounds u / d and l / d give is (u - l) / d, which ends at the
--   other bound.
-- `chosen_by`: where the ratio test gives `best`, the step for the entering column is the one that `best` makes.
-- `goes_none`: an artificial column may enter in no direction.
-- `stop_more`: a stop that names no position is a stop of any number of positions.
-- `range_is`: how far the column itself may move by the rows' bounds is how far it may by the tableau's.
-- `one_position`: the best ratio of the positions below i and the ratio at position i give the best ratio of those
--   below i + 1.
-- `all_positions`: the best ratio after all positions is that of the ratio test.
-- `choice_is`: where e is the column that enters, the tableau's next step is the one for e.
-- `priced_is`: the row of costs holds the reduced costs of the tableau that the rows show, with its statuses and
--   fixed columns.
use Rattle.std.proofs.Common.{◌≡◌, ℕ, suc, ◌+◌, ◌*◌, ◌<◌, ◌≤◌, List, length, get_or, Option, Some, None, Ok, Bool}
use Rattle.std.proofs.Common.{true, false, cond}
use Rattle.std.proofs.Common.{ℤ, pos, ◌-ℤ◌, refl, sym, ap, ap₂, ◌∙◌, subst, arith, int_cmp, Equal}
use Rattle.std.specs.Prelude.{IfSome}
use Rattle.std.proofs.lemmas.List.{get_or_default}
use Rattle.std.proofs.Math.Nat.{mul-one}
use Rattle.spec_exact.specs.Fraction.{ℚ, 0ℚ, over}
use Rattle.spec_exact.specs.Run.{Run, ◌>>=◌, difference_run, steps}
use Rattle.spec_pivot.specs.declared.status.Status.{Status}
use Rattle.spec_pivot.specs.declared.status.Way.{Way}
use Rattle.spec_pivot.specs.declared.status.Way.TheVariants.{Up, Down}
use Rattle.spec_pivot.specs.Simplex.{Bounds}
use Rattle.spec_pivot.proofs.Values.{by_basic}
use Rattle.spec_simplex.specs.declared.ends.Entering.{Entering}
use Rattle.spec_simplex.specs.declared.ends.Best.{Best}
use Rattle.spec_simplex.specs.declared.ends.Choice.{Choice}
use Rattle.spec_simplex.specs.Tableau.{Tableau, form_columns, all_columns, entry_at, basic_at, value_at, lower_at}
use Rattle.spec_simplex.specs.Tableau.{upper_at}
use Rattle.spec_simplex.specs.Tableau.{status_at, reduced_at, is_fixed}
use Rattle.spec_simplex.specs.Step.{way_by, way_at, with_gap, range_run, best_with, best_run, choice_by, choice_of}
use Rattle.spec_simplex.specs.Step.{entering, choice_run}
use Rattle.spec_simplex.specs.Tables.{KeepsBounds}
use Rattle.spec_simplex.proofs.Enters.{fixed_test}
use Rattle.lp_natural.specs.Whole.{whole}
use Rattle.lp_natural.specs.declared.words.signed.Signed.{Signed}
use Rattle.lp_rows.specs.declared.fractions.Row.{Row}
use Rattle.lp_rows.specs.declared.ratio.Stopper.{Stopper}
use Rattle.lp_rows.specs.Row.{fraction_at, toward}
use Rattle.lp_rows.specs.Entering.{IsPriced}
use Rattle.lp_rows.specs.Ratio.{bound_of}
use Rattle.lp_rows.proofs.Done.{item-at}
use Rattle.lp_rows.proofs.Cleared.{fraction-at}
use Rattle.lp_rows.proofs.Gaps.{together, difference_is}
use Rattle.lp_rows.proofs.Ratios.{gap_run_is}
use Rattle.lp_rows.specs.declared.tableau.tableau.RowTableau.{RowTableau}
use Rattle.lp_rows.specs.Shows.{IsRow, IsWhole, IsReached, Shows, row_at, height, width}
use Rattle.lp_rows.specs.Moves.{number_at, number_in}
use Rattle.lp_rows.specs.Stops.{IsStop, best_at}
use Rattle.lp_rows.proofs.TableauNumbers.{number_in-get, row_at-one, row_at-get}

pub by_some : {A : Type 0} (o : Option A) (P Q : A → Type 0) → ((a : A) → P a → Q a) → IfSome o P → IfSome o Q
by_some None P Q f h = h
by_some (Some a) P Q f h = f a h

-- ---- an entry of 0

-- an entry of magnitude 0, with whatever sign, in either direction of the column, compares as equal with 0
no_sign : (way : Way) (b : Bool) (size : ℕ) → size ≡ 0 → Equal ≡ int_cmp (toward way (whole b size)) (pos 0)
no_sign way b size e =
    subst (λ n. Equal ≡ int_cmp (toward way (whole b n)) (pos 0)) (sym e) (by way b)
  where
    by : (way : Way) (b : Bool) → Equal ≡ int_cmp (toward way (whole b 0)) (pos 0)
    by Up true = refl
    by Up false = refl
    by Down true = refl
    by Down false = refl

pub stays : (way : Way) (i k : ℕ) (b : Bool) (size e : ℕ) (lower upper : Option ℚ) (v : ℚ) (best : Option (Best ℚ)) →
    size ≡ 0 → 0 < e → ◌≡◌ {A = Run (Option (Best ℚ))} (best_at way i k (over (whole b size) e) lower upper v best)
    (Ok best)
stays way i k b size e lower upper v best h p =
    ap (λ (o : Run (Option (ℚ × Status))). o >>= λ gap. with_gap None i k (over (whole b size) e) best gap)
    (gap_run_is way (whole b size) e Equal lower upper v p (no_sign way b size h))

-- ---- the column's own range
pub between : (u l g : ℤ) (d one k : ℕ) (to side : Status) → 0 < d → one ≡ 1 → g ≡ u -ℤ l → side ≡ to →
    ◌≡◌ {A = Run (Option (Best ℚ))}
    (difference_run None (over u d) (over l d) >>=
    λ range. Ok (Some (record { ratio = range; col = k; place = None; to = to })))
    (Ok (Some (record { ratio = over g (d * one); col = k; place = None; to = side })))
between u l g d one k to side p e h f =
    ap (λ (o : Run ℚ). o >>= λ range. Ok (Some (record { ratio = range; col = k; place = None; to = to })))
    (difference_is (over u d) (over l d))
    ∙ ap₂ (λ (q : ℚ) (to : Status). Ok (Some (record { ratio = q; col = k; place = None; to = to })))
    (together u l d p ∙ ap₂ over (sym h) (sym (ap (λ n. d * n) e ∙ mul-one d))) (sym f)

-- ---- a position as the tableau has it
module _ {T : Type 0} (value : T → ℕ) (r : RowTableau T) (t : Tableau) (shows : Shows value r t)
    (whole_r : IsWhole value r)
    (e : Entering) (column : e.col < width r) (i : ℕ) (place : i < height r) (row : Row T)
    (row_is : row ≡ get_or r.rows.items i row) where
  abbrev d : ℕ
  d = value r.denominator

  shape : IsRow value (width r) row
  shape = subst (IsRow value (width r)) (sym row_is) (whole_r.each_row i row place)

  number_is : (k : ℕ) → number_in value r.rows.items i k ≡ number_at value row k
  number_is k = number_in-get value r.rows.items i k row place ∙ ap (λ z. number_at value z k) (sym row_is)

  -- at position i, the step of the ratio test over t is `best_at` of the entry, bounds and value that are read of row i
  pub position_is : (col : ℕ) (z : ℕ) → col ≡ get_or r.basic.items i z → (entry last : Signed T) →
      entry ≡ get_or row.numbers.items e.col entry → last ≡ get_or row.numbers.items (width r) last →
      (lower upper : Option (Signed T)) (lz uz : Option (Signed T)) → lower ≡ get_or r.lower.items col lz →
      upper ≡ get_or r.upper.items col uz → (best : Option (Best ℚ)) →
      best_with None t e i best ≡
      best_at e.direction i col (over (whole entry.negative (value entry.size)) (value row.denominator))
      (bound_of value d lower)
      (bound_of value d upper) (over (whole last.negative (value last.size)) (d * value row.denominator)) best
  position_is col z col_is entry last entry_is last_is lower upper lz uz lower_is upper_is best =
      ap (λ q. best_at e.direction i q (entry_at t i e.col) (lower_at t q) (upper_at t q)
      (value_at t (basic_at t i)) best) basic
      ∙ ap₂ (λ a v. best_at e.direction i col a (lower_at t col) (upper_at t col) v best) entry_there value_there
      ∙ ap₂ (λ l u. best_at e.direction i col (over (whole entry.negative (value entry.size)) (value row.denominator)) l u
      (over (whole last.negative (value last.size)) (d * value row.denominator)) best) lower_there upper_there
    where
      basic : basic_at t i ≡ col
      basic =
          sym (ap (λ (l : List ℕ). get_or l i 0) shows.basic)
          ∙ get_or_default r.basic.items i 0 z (omega (arith, place, whole_r.all_basic))
          ∙ sym col_is

      inside : col < all_columns t
      inside =
          let h = whole_r.in_range i z (omega (arith, place, whole_r.all_basic)) in
          omega (arith, h, col_is, shows.rows, shows.cols)

      lower_there : lower_at t col ≡ bound_of value d lower
      lower_there =
          shows.lower col inside
          ∙ ap (bound_of value d) (get_or_default r.lower.items col None lz
          (omega (arith, inside, whole_r.all_lower, shows.rows, shows.cols)) ∙ sym lower_is)

      upper_there : upper_at t col ≡ bound_of value d upper
      upper_there =
          shows.upper col inside
          ∙ ap (bound_of value d) (get_or_default r.upper.items col None uz
          (omega (arith, inside, whole_r.all_upper, shows.rows, shows.cols)) ∙ sym upper_is)

      entry_there : entry_at t i e.col ≡ over (whole entry.negative (value entry.size)) (value row.denominator)
      entry_there =
          let l : e.col < length row.numbers.items = omega (arith, column, shape.numbers) in
          shows.entries i e.col (omega (arith, place, shows.rows)) (omega (arith, column, shows.rows, shows.cols))
          ∙ row_at-one value r.rows.items i e.col
          ∙ number_is e.col
          ∙ fraction-at value row.numbers.items (value row.denominator) e.col l
          ∙ ap (λ n. over n (value row.denominator)) (item-at value row.numbers.items e.col entry l entry_is)

      value_there : value_at t (basic_at t i) ≡
          over (whole last.negative (value last.size)) (d * value row.denominator)
      value_there =
          let l : width r < length row.numbers.items = omega (arith, shape.numbers) in
          shows.values i (omega (arith, place, shows.rows))
          ∙ ap (λ k. row_at value d r.rows.items i k)
          (let z : form_columns t ≡ width r = omega (arith, shows.rows, shows.cols) in z)
          ∙ row_at-get value d r.rows.items i (width r) row place
          ∙ ap (λ (z : Row T). fraction_at value z.numbers.items (d * value z.denominator) (width r)) (sym row_is)
          ∙ fraction-at value row.numbers.items (d * value row.denominator) (width r) l
          ∙ ap (λ n. over n (d * value row.denominator)) (item-at value row.numbers.items (width r) last l last_is)

-- ---- the choice
pub chosen_by : (t : Tableau) (e : Entering) (best : Option (Best ℚ)) → best_run None t e ≡ Ok best →
    ◌≡◌ {A = Run (Choice ℚ)} (choice_of None t (Some e)) (Ok (choice_by e best))
chosen_by t e best h = ap (λ (o : Run (Option (Best ℚ))). o >>= λ best. Ok (choice_by e best)) h

-- ---- artificial columns
pub goes_none : (b : Bounds) (t : Tableau) → KeepsBounds b t → (k : ℕ) → form_columns t ≤ k → k < all_columns t →
    way_at t k ≡ None
goes_none b t keeps k h l =
    by_basic (status_at t k)
    (λ s. ap (λ st. cond (is_fixed (lower_at t k) (upper_at t k)) None (way_by st (reduced_at t k))) s
    ∙ both (is_fixed (lower_at t k) (upper_at t k)))
    (λ s. ap (λ c. cond c None (way_by (status_at t k) (reduced_at t k)))
    (fixed_test (lower_at t k) (upper_at t k) 0ℚ (keeps.lower k l ∙ keeps.zero k h l) (keeps.fixed k h l s)))
  where
    both : (c : Bool) → ◌≡◌ {A = Option Way} (cond c None None) None
    both true = refl
    both false = refl

-- ---- many positions
pub stop_more : {T : Type 0} (value : T → ℕ) (n : ℕ) (s : Option (Stopper T)) → IsStop value 0 s → IsStop value n s
stop_more value n None h = h
stop_more value n (Some s) h =
    (h.0, by_some s.position (λ p. p < 0) (λ p. p < n) (λ p l. absurd (omega (arith, l))) h.1)

pub range_is : {T : Type 0} (value : T → ℕ) (r : RowTableau T) (t : Tableau) (e : Entering)
    (lower upper lz uz : Option (Signed T))
    (best : Option (Best ℚ)) → Shows value r t → IsWhole value r → e.col < width r →
    lower ≡ get_or r.lower.items e.col lz →
    upper ≡ get_or r.upper.items e.col uz →
    range_run None e (bound_of value (value r.denominator) lower)
    (bound_of value (value r.denominator) upper) ≡ Ok best →
    range_run None e (lower_at t e.col) (upper_at t e.col) ≡ Ok best
range_is value r t e lower upper lz uz best shows whole_r column l u h =
    let inside : e.col < all_columns t = omega (arith, column, shows.rows, shows.cols) in
    ap₂ (range_run None e)
    (shows.lower e.col inside ∙ ap (bound_of value (value r.denominator))
    (get_or_default r.lower.items e.col None lz (omega (arith, column, whole_r.all_lower)) ∙ sym l))
    (shows.upper e.col inside ∙ ap (bound_of value (value r.denominator))
    (get_or_default r.upper.items e.col None uz (omega (arith, column, whole_r.all_upper)) ∙ sym u))
    ∙ h

pub one_position : (t : Tableau) (e : Entering) (i : ℕ) (x best next : Option (Best ℚ)) →
    steps i (best_with None t e) x ≡ Ok best → best_with None t e i best ≡ Ok next →
    steps (i + 1) (best_with None t e) x ≡ Ok next
one_position t e i x best next h k =
    (let z : i + 1 ≡ suc i = omega arith in ap (λ n. steps n (best_with None t e) x) z)
    ∙ ap (λ (o : Run (Option (Best ℚ))). o >>= best_with None t e i) h
    ∙ k

pub all_positions : (t : Tableau) (e : Entering) (i : ℕ) (x best : Option (Best ℚ)) → i ≡ t.rows →
    range_run None e (lower_at t e.col) (upper_at t e.col) ≡ Ok x → steps i (best_with None t e) x ≡ Ok best →
    best_run None t e ≡ Ok best
all_positions t e i x best n h k =
    ap (λ (o : Run (Option (Best ℚ))). o >>= λ best. steps t.rows (best_with None t e) best) h
    ∙ ap (λ i. steps i (best_with None t e) x) (sym n)
    ∙ k

-- ---- what enters
pub choice_is : (t : Tableau) (e : Option Entering) → e ≡ entering t → choice_run None t ≡ choice_of None t e
unfolding choice_run
choice_is t e h = ap (choice_of None t) (sym h)

pub priced_is : {T : Type 0} (value : T → ℕ) (r : RowTableau T) (t : Tableau) (status : List Status)
    (fixed : List Bool) →
    IsReached t → Shows value r t → IsWhole value r → status ≡ r.status.items → fixed ≡ r.fixed.items →
    IsPriced value t r.costs.numbers.items (value r.costs.denominator) status fixed
priced_is value r t status fixed reached shows whole_r s f =
    record {
      columns = ap length f ∙ omega (arith, whole_r.all_fixed, shows.rows, shows.cols);
      status = sym (s ∙ shows.status);
      reduced = shows.reduced;
      fixes = λ k h. shows.fixed k h ∙ ap (λ (xs : List Bool). get_or xs k false) (sym f);
      stay = goes_none reached.bounds t reached.tableau.bounds;
    }
