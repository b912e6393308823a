-- Costs less rows of a tableau: the reduced costs.
--
-- `nothing_off`: a is a - 0 * b.
-- `taken_off`: clearing the costs by the row of a position, in the position's basic column, makes them less that row
--   times the cost of the basic column.
-- `none_off`: where the basic column of position i is artificial, costs that stay as they are are less row i times the
--   column's cost of 0.
-- `none_yet`: before any row is taken off, the costs are less the first 0 rows.
-- `one_more`: costs less the first i rows, less row i as its basic column's cost says, are less the first i + 1.
-- `priced_row`: the form's costs less all rows are the reduced costs of the form's costs.
-- `stated_costs`: the reduced costs that a tableau gets for its costs are these less all rows, each by its cost.
use Rattle.std.proofs.Common.{◌≡◌, ◌≢◌, ℕ, suc, ◌+◌, ◌*◌, ◌<◌, ◌≤◌, nat_lt, cond, true, false, List, length, get_or}
use Rattle.std.proofs.Common.{None, Ok, sym, ap, ap₂, ◌∙◌, arith, ne_eqb}
use Rattle.std.proofs.lemmas.List.{get_or_default, get_or_past}
use Rattle.spec_exact.specs.Fraction.{ℚ, 0ℚ, 1ℚ, ◌+ℚ◌, ◌-ℚ◌, ◌*ℚ◌}
use Rattle.spec_exact.specs.Sums.{sum_below}
use Rattle.spec_exact.specs.Run.{less_product}
use Rattle.spec_exact.proofs.Field.{*ℚ_zero, *ℚ_comm}
use Rattle.spec_exact.proofs.Ruleset.{ring}
use Rattle.spec_exact.proofs.Sums.{sum_below_none}
use Rattle.spec_pivot.specs.Tableau.{IsUnit}
use Rattle.spec_simplex.specs.Start.{cost_at, reduced_run, priced_run}
use Rattle.spec_simplex.specs.Tableau.{Tableau, all_columns, entry_at, basic_at}
use Rattle.spec_simplex.proofs.ListIndices.{by_lt}
use Rattle.spec_simplex.proofs.RunParts.{less_ok, steps_ok, IsListOf, list_ok}
use Rattle.lp_rows.specs.declared.fractions.Row.{Row}
use Rattle.lp_rows.specs.Row.{fraction_at, AreNow}
use Rattle.lp_rows.specs.declared.tableau.tableau.RowTableau.{RowTableau}
use Rattle.lp_rows.specs.Shows.{IsRow, IsWhole, Shows, row_at, height, width}
use Rattle.lp_rows.specs.Held.{IsRowOf}
use Rattle.lp_rows.specs.Second.{fraction_of, cost_in, IsLess, IsLessRows, IsPricedRow}
use Rattle.lp_rows.proofs.Asks.{row-at}

pub nothing_off : (a b : ℚ) → a ≡ a -ℚ 0ℚ *ℚ b
nothing_off a b = simp (*ℚ_comm 0ℚ b, *ℚ_zero b, ring)

-- the cost of a column below n is the row's fraction in that column
cost_there : {T : Type 0} (value : T → ℕ) (n : ℕ) (row : Row T) (k : ℕ) → k < n →
    cost_in value n row k ≡ fraction_of value row k
cost_there value n row k h = ap (λ c. cond c (fraction_of value row k) 0ℚ) (less k n h)
  where
    less : (k n : ℕ) → k < n → nat_lt k n ≡ true
    less k n h = grind (arith, h)

-- the cost of a column from n on is 0
cost_past : {T : Type 0} (value : T → ℕ) (n : ℕ) (row : Row T) (k : ℕ) → n ≤ k → cost_in value n row k ≡ 0ℚ
cost_past value n row k h = ap (λ c. cond c (fraction_of value row k) 0ℚ) (not_less k n h)
  where
    not_less : (k n : ℕ) → n ≤ k → nat_lt k n ≡ false
    not_less k n h = grind (arith, h)

-- ---- one row
pub taken_off : {T : Type 0} (value : T → ℕ) (r : RowTableau T) (i j b : ℕ) (old new by : Row T) → IsWhole value r →
    i < height r → IsRow value (width r) old → b ≡ get_or r.basic.items i b → j ≡ b → j < width r →
    by ≡ get_or r.rows.items i by →
    AreNow value (λ k. fraction_of value old k -ℚ fraction_of value old j *ℚ fraction_of value by k)
    (length old.numbers.items) new.numbers.items (value new.denominator) → 0 < value new.denominator →
    IsLess value r i old new
taken_off value r i j b old new by w l is g e m h now p =
    let all : length old.numbers.items ≡ width r + 1 = is.numbers in
    record {
      row = record { numbers = now.len ∙ all; positive = p };
      less = λ k below.
          now.each k (omega (arith, below, all))
          ∙ ap₂ (λ u v. fraction_of value old k -ℚ u *ℚ v)
          (sym (cost_there value (width r) old j m)
          ∙ ap (cost_in value (width r) old)
          (e ∙ g ∙ get_or_default r.basic.items i b 0 (omega (arith, l, w.all_basic))))
          ((let one : value by.denominator ≡ 1 * value by.denominator = omega arith in
          ap (λ d. fraction_at value by.numbers.items d k) one)
          ∙ sym (row-at value 1 r.rows.items i k by l h));
    }

pub none_off : {T : Type 0} (value : T → ℕ) (r : RowTableau T) (i j b : ℕ) (old : Row T) → IsWhole value r →
    i < height r → IsRow value (width r) old → b ≡ get_or r.basic.items i b → j ≡ b → width r ≤ j →
    IsLess value r i old old
none_off value r i j b old w l is g e m =
    record {
      row = is;
      less = λ k below.
          nothing_off (fraction_of value old k) (row_at value 1 r.rows.items i k)
          ∙ ap (λ u. fraction_of value old k -ℚ u *ℚ row_at value 1 r.rows.items i k)
          (sym (ap (cost_in value (width r) old)
          (sym (get_or_default r.basic.items i b 0 (omega (arith, l, w.all_basic))) ∙ sym g ∙ sym e)
          ∙ cost_past value (width r) old j m));
    }

-- ---- all rows
pub none_yet : {T : Type 0} (value : T → ℕ) (r : RowTableau T) (old : Row T) → IsRow value (width r) old →
    IsLessRows value r 0 old old
none_yet value r old is =
    record { row = is; less = λ t units s cost begin past k l. begin k l ∙ whole (cost k) }
  where
    whole : (a : ℚ) → a ≡ a -ℚ 0ℚ
    whole a = simp ring

-- of a basic column the rows of other positions have no entry
no_entry : (t : Tableau) → IsUnit t.rows (entry_at t) (basic_at t) → (i r : ℕ) → i < t.rows → r < t.rows → i ≢ r → entry_at t r (basic_at t i) ≡ 0ℚ
no_entry t units i r l m n =
    units i r l m ∙ ap (λ c. cond c 1ℚ 0ℚ) (ne_eqb i r n)

-- in costs less the rows of the first i positions, the basic column of position i has the cost that it had before any
-- row was taken off
first_cost : {T : Type 0} (value : T → ℕ) (r : RowTableau T) (i b : ℕ) (old mid : Row T) (t : Tableau) →
    IsUnit t.rows (entry_at t) (basic_at t) → Shows value r t → i < height r → (cost : ℕ → ℚ) → ((k : ℕ) → width r ≤ k → cost k ≡ 0ℚ) → basic_at t i ≡ b →
    ((k : ℕ) → k < width r →
    fraction_of value mid k ≡ cost k -ℚ sum_below i (λ j. cost (basic_at t j) *ℚ entry_at t j k)) →
    cost_in value (width r) mid b ≡ cost (basic_at t i)
first_cost value r i b old mid t units s l cost past e so_far =
    by_lt b (width r)
    (λ h. cost_there value (width r) mid b h ∙ so_far b h
    ∙ ap (λ z. cost b -ℚ z)
    (sum_below_none i (λ j. cost (basic_at t j) *ℚ entry_at t j b)
    (λ j m. ap (λ z. cost (basic_at t j) *ℚ z)
    (ap (entry_at t j) (sym e)
    ∙ no_entry t units i j (omega (arith, l, s.rows)) (omega (arith, l, m, s.rows)) (λ q. apart i j m q))
    ∙ *ℚ_zero (cost (basic_at t j))))
    ∙ less_nothing (cost b) ∙ ap cost (sym e))
    (λ h. cost_past value (width r) mid b h ∙ sym (ap cost e ∙ past b h))
  where
    apart : (i j : ℕ) → j < i → i ≡ j → ⊥
    apart i j m q = absurd (omega (arith, m, q))

    less_nothing : (a : ℚ) → a -ℚ 0ℚ ≡ a
    less_nothing a = simp ring

pub one_more : {T : Type 0} (value : T → ℕ) (r : RowTableau T) (i : ℕ) (old mid new : Row T) → i < height r →
    IsLessRows value r i old mid → IsLess value r i mid new → IsLessRows value r (i + 1) old new
one_more value r i old mid new l so_far one =
    record {
      row = one.row;
      less = λ t units s cost begin past k below.
          one.less k below
          ∙ ap₂ (λ u v. u -ℚ v) (so_far.less t units s cost begin past k below)
          (ap₂ (λ u v. u *ℚ v)
          (first_cost value r i (get_or r.basic.items i 0) old mid t units s l cost past
          (sym (ap (λ (ks : List ℕ). get_or ks i 0) s.basic)) (so_far.less t units s cost begin past))
          (sym (s.entries i k (omega (arith, l, s.rows)) (omega (arith, below, s.rows, s.cols)))))
          ∙ more (cost k) (sum_below i (λ j. cost (basic_at t j) *ℚ entry_at t j k))
          (cost (basic_at t i) *ℚ entry_at t i k)
          ∙ ap (λ n. cost k -ℚ sum_below n (λ j. cost (basic_at t j) *ℚ entry_at t j k)) (next_is i);
    }
  where
    next_is : (i : ℕ) → suc i ≡ i + 1
    next_is i = omega arith

    more : (c s p : ℚ) → (c -ℚ s) -ℚ p ≡ c -ℚ (s +ℚ p)
    more c s p = simp ring

-- ---- the form's costs
pub priced_row : {T : Type 0} (value : T → ℕ) (r : RowTableau T) (costs : List ℚ) (last : ℚ) (d : ℕ) (old new : Row T) →
    length costs ≡ width r → IsRowOf value costs last d old → IsLessRows value r (height r) old new →
    IsPricedRow value r costs new
priced_row value r costs last d old new len is less =
    record {
      is_row = less.row;
      less = λ t units s k below.
          less.less t units s (λ k. get_or costs k 0ℚ) (λ k l. is.entries k (omega (arith, l, len)))
          (λ k l. get_or_past costs k 0ℚ (omega (arith, l, len))) k below
          ∙ ap (λ n. get_or costs k 0ℚ -ℚ sum_below n (λ i. get_or costs (basic_at t i) 0ℚ *ℚ entry_at t i k)) s.rows;
    }

-- what the stated reduced costs are
pub stated_costs : (t : Tableau) (costs reduced : List ℚ) → priced_run None t costs ≡ Ok reduced → (k : ℕ) →
    k < all_columns t →
    get_or reduced k 0ℚ ≡ cost_at costs k -ℚ sum_below t.rows (λ i. cost_at costs (basic_at t i) *ℚ entry_at t i k)
unfolding priced_run
stated_costs t costs reduced ok k h =
    let is : IsListOf (all_columns t) (reduced_run None t costs) 0ℚ reduced =
    list_ok (all_columns t) (reduced_run None t costs) 0ℚ reduced ok in
    steps_ok (λ i d. d ≡ cost_at costs k -ℚ sum_below i (λ i. cost_at costs (basic_at t i) *ℚ entry_at t i k)) t.rows
    (λ i d. less_product None (cost_at costs (basic_at t i)) (entry_at t i k) d)
    (cost_at costs k) (get_or reduced k 0ℚ) (is.each k h) (whole (cost_at costs k))
    (λ i d e l was done. less_ok None (cost_at costs (basic_at t i)) (entry_at t i k) d e done
    ∙ ap (λ d. d -ℚ cost_at costs (basic_at t i) *ℚ entry_at t i k) was
    ∙ more (cost_at costs k) (sum_below i (λ i. cost_at costs (basic_at t i) *ℚ entry_at t i k))
    (cost_at costs (basic_at t i) *ℚ entry_at t i k))
  where
    whole : (a : ℚ) → a ≡ a -ℚ 0ℚ
    whole a = simp ring

    more : (c s p : ℚ) → (c -ℚ s) -ℚ p ≡ c -ℚ (s +ℚ p)
    more c s p = simp ring

-- end of Taken
