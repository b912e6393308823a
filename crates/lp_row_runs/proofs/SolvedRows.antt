-- Rows that are solved for one basic column more.
--
-- `solving_begins`: the unsolved equations with no position taken are solved for the columns below 0.
-- `open_is`: a position that is not taken and has an entry that is not 0 is open, and no other is.
-- `entry_none`: whether the size of a row's number is 0 says whether the row's entry in that column is 0.
-- `column_passed`: equations that are solved below a nonbasic column are solved below the next column.
-- `done_of`: where a call's progress is `Done`, and P holds if it is `Done`, P holds.
-- `if_done`: where Q follows from P, and P holds if the progress is `Done`, Q holds if it is `Done`.
-- `none_over`: the whole number 0 over 1 is the fraction 0.
-- `turned_whole`: where a pivot took the rows that were lent to those written back, and the basic column was noted, a
--   whole tableau of rows stays whole.
-- `turned_here`: where a pivot took the rows that were lent to those written back, it took the rows of the elimination
--   before to the rows of the one after.
use Rattle.std.proofs.Common.{◌≡◌, ℕ, ◌+◌, ◌<◌, List, length, get_or, set, replicate, map}
use Rattle.std.proofs.Common.{Some, None, Result, Ok, Bool, true, false, not, ◌&&◌, cond, IsTrue}
use Rattle.std.proofs.Common.{◌↔◌, All, ℤ, pos, refl, sym, ap, ap₂, subst, subst₂, ◌∙◌, arith}
use Rattle.std.proofs.Math.Path.{fun_ext}
use Rattle.std.proofs.lemmas.List.{length-set, get_or-set_same, get_or-set_other, get_or-replicate, length-replicate}
use Rattle.std.proofs.lemmas.List.{ext_get_or, get_or_default}
use Rattle.spec_exact.specs.Fraction.{ℚ, 0ℚ, eq_ℚ, over, ◌-ℚ◌, ◌*ℚ◌}
use Rattle.spec_exact.proofs.Ruleset.{ring}
use Rattle.spec_exact.specs.Run.{made}
use Rattle.spec_exact.proofs.RunsInOrder.{length-made, get_or-made, steps_more}
use Rattle.spec_pivot.specs.declared.status.Status.{Status}
use Rattle.spec_pivot.specs.declared.status.Status.TheVariants.{Basic}
use Rattle.spec_pivot.specs.Tableau.{pivot_row, pivoted}
use Rattle.spec_pivot.proofs.Pivot.{by_eq}
use Rattle.spec_simplex.specs.declared.ends.StartStop.{StartStop}
use Rattle.spec_simplex.specs.Form.{Form}
use Rattle.spec_simplex.specs.Step.{turned_run}
use Rattle.spec_simplex.specs.Tableau.{at_place, is_basic}
use Rattle.spec_simplex.specs.Eliminate as stated
use Rattle.spec_simplex.specs.Eliminate.{basis_at, basis_value, has_none, or_first, is_open, open_below, solved_run}
use Rattle.spec_simplex.specs.Eliminate.{unsolved}
use Rattle.spec_simplex.proofs.LimitStart.{turned_agrees}
use Rattle.spec_simplex.proofs.PivotedRows.{turned_entry}
use Rattle.spec_runs.proofs.PhaseSteps.{given}
use Rattle.spec_runs.proofs.Counts.{basic_test}
use Rattle.spec_runs.proofs.Eliminated.{Solving, eliminated_below}
use Rattle.lp_tableau.proofs.EliminatedColumns.{is_solved}
use Rattle.lp_natural.specs.declared.words.signed.Signed.{Signed}
use Rattle.lp_rows.specs.declared.fractions.Row.{Row}
use Rattle.lp_rows.specs.Ratio.{bound_of}
use Rattle.lp_rows.specs.Shows.{IsRow, IsWhole, height, width}
use Rattle.lp_rows.specs.Moves.{number_at, number_in, AreTurned}
use Rattle.lp_rows.specs.declared.tableau.tableau.RowTableau.{RowTableau}
use Rattle.lp_rows.proofs.Asks.{zero-over}
use Rattle.lp_rows.proofs.Lasts.{over_none}
use Rattle.lp_rows.proofs.TableauNumbers.{number_in-get}
use Rattle.lp_rows.proofs.Read.{read_at}
use Rattle.lp_rows.proofs.SameCounts.{whole_pivoted}
use Rattle.lp_row_runs.specs.Rows.{AreRowsAt, IsUnsolved, IsSolvedBelow, IfDone}
use Rattle.lp_row_runs.specs.declared.elimination.Progress.{Progress}
use Rattle.lp_row_runs.specs.declared.elimination.Progress.TheVariants.{Done, Narrow, Stopped}
use Rattle.lp_row_runs.specs.declared.elimination.Elimination.{Elimination}
use Rattle.lp_row_runs.proofs.Placed.{turned_rows}

-- ---- without a limit nothing is refused

-- one column of the elimination
abbrev solve_at : Form → List Status → ℕ → stated.Elimination → Result stated.Elimination (StartStop ℚ)
solve_at f basis j e = cond (is_basic (basis_at basis j)) (solved_run None f e j) (Ok e)

-- ---- the beginning
pub solving_begins : {T : Type 0} (value : T → ℕ) (f : Form) (basis : List Status) (e : Elimination T) →
    IsUnsolved value f basis (f.cols + f.rows) e.tab → e.taken.items ≡ replicate f.rows false →
    IsSolvedBelow value f basis 0 e
solving_begins value f basis e u t = record {
  now = unsolved f;
  run = refl;
  form = u.form;
  rows = u.rows;
  basic = u.basic ∙ none_yet;
  taken = λ i h.
      ap (λ bs. get_or bs i false) t ∙ get_or-replicate f.rows i false false h
      ∙ sym (ap (λ o. not (has_none o)) (get_or-replicate f.rows i None None h));
}
  where
    none_yet : replicate f.rows 0 ≡ made f.rows (λ i. or_first (get_or (replicate f.rows None) i None))
    none_yet =
        ext_get_or 0 (replicate f.rows 0) (made f.rows (λ i. or_first (get_or (replicate f.rows None) i None)))
        (length-replicate {A = ℕ} f.rows 0
        ∙ sym (length-made f.rows (λ i. or_first (get_or (replicate f.rows None) i None))))
        (λ i l.
        let h : i < f.rows = omega (arith, l, length-replicate {A = ℕ} f.rows 0) in
        get_or-replicate f.rows i 0 0 h
        ∙ sym (get_or-made f.rows (λ i. or_first (get_or (replicate f.rows None) i None)) i 0 h
        ∙ ap or_first (get_or-replicate f.rows i None None h)))

-- ---- whether a position is open

-- by whether it has a column, and whether its entry is 0
pub open_is : (e : stated.Elimination) (j i : ℕ) (taken none : Bool) → taken ≡ not (has_none (get_or e.basic i None)) →
    none ≡ eq_ℚ (at_place e.rows i j) 0ℚ → cond taken false (not none) ≡ is_open e j i
open_is e j i taken none t z = by (has_none (get_or e.basic i None)) (eq_ℚ (at_place e.rows i j) 0ℚ) t z
  where
    by : (c o : Bool) → taken ≡ not c → none ≡ o → cond taken false (not none) ≡ c && not o
    by true o t z = ap₂ (λ t z. cond t false (not z)) t z
    by false o t z = ap₂ (λ t z. cond t false (not z)) t z

-- whether a row has no entry in a column
pub entry_none : {T : Type 0} (value : T → ℕ) (rows : List (Row T)) (n i j : ℕ) (row : Row T) (x x' : Signed T)
    (b : Bool) → All (IsRow value n) rows → i < length rows → row ≡ get_or rows i row →
    x ≡ get_or row.numbers.items j x → j < n → IsTrue b ↔ (value x.size ≡ 0) →
    b ≡ eq_ℚ (number_in value rows i j) 0ℚ
entry_none value rows n i j row x x' b all h row_is x_is l z =
    let r : IsRow value n row = subst (IsRow value n) (sym row_is) (all i row h) in
    zero-over b x.negative (value x.size) (value row.denominator) r.positive z
    ∙ ap (λ q. eq_ℚ q 0ℚ)
    (read_at value row.numbers.items (value row.denominator) (value row.denominator) j x
    (omega (arith, l, r.numbers)) x_is refl
    ∙ ap (λ row. number_at value row j) row_is
    ∙ sym (number_in-get value rows i j row h))

module _ {T : Type 0} (value : T → ℕ) (f : Form) (basis : List Status) (k : ℕ) (e : Elimination T)
    (s : IsSolvedBelow value f basis k e) (i j : ℕ) (i_in : i < height e.tab) (j_in : j < width e.tab)
    (all : length e.taken.items ≡ height e.tab) where
  -- the test of a position, by what is read of it
  pub open_read : (t none : Bool) → t ≡ get_or e.taken.items i t →
      none ≡ eq_ℚ (number_in value e.tab.rows.items i j) 0ℚ → cond t false (not none) ≡ is_open s.now j i
  open_read t none g z =
      open_is s.now j i t none
      (g ∙ get_or_default e.taken.items i t false (omega (arith, i_in, all)) ∙ s.taken i (omega (arith, i_in, s.rows.len)))
      (z ∙ ap (λ q. eq_ℚ q 0ℚ)
      (s.rows.entries i j (omega (arith, i_in, s.rows.len)) (omega (arith, j_in, s.rows.len, s.form.cols))))

  -- a position that reads as taken is not open for column j
  pub taken_read : (t : Bool) → t ≡ get_or e.taken.items i t → t ≡ true → false ≡ is_open s.now j i
  taken_read t g is =
      ap (λ t. cond t false (not (eq_ℚ (number_in value e.tab.rows.items i j) 0ℚ))) (sym is)
      ∙ open_read t (eq_ℚ (number_in value e.tab.rows.items i j) 0ℚ) g refl

  -- a position that reads as not taken is open for column j just where its entry there is not 0
  pub free_read : (t none : Bool) → t ≡ get_or e.taken.items i t → t ≡ false →
      none ≡ eq_ℚ (number_in value e.tab.rows.items i j) 0ℚ → not none ≡ is_open s.now j i
  free_read t none g is z = ap (λ t. cond t false (not none)) (sym is) ∙ open_read t none g z

-- ---- a column that takes a position
module _ {T : Type 0} (value : T → ℕ) (f : Form) (basis : List Status) (j p : ℕ) (old new : Elimination T)
    (s : IsSolvedBelow value f basis j old) (whole : IsWhole value old.tab) (j_in : j < f.cols + f.rows)
    (p_in : p < f.rows) (basic : basis_at basis j ≡ Basic) (opens : open_below s.now j f.rows ≡ Some p) (v w : ℚ)
    (v_is : v ≡ 0ℚ) (w_is : w ≡ 0ℚ)
    (turned : AreTurned value (f.cols + f.rows) p j v w old.tab.rows.items new.tab.rows.items old.tab.costs
    new.tab.costs) where
  abbrev m : ℕ
  m = f.rows

  abbrev all : ℕ
  all = f.cols + f.rows + f.rows

  -- the stated elimination up to column j is solved for the basic columns below j
  so_far : Solving None f basis j s.now
  so_far = eliminated_below None f basis j s.now s.run

  -- the stated rows can be pivoted at position p and column j, without a limit
  turn : (rows : List (List ℚ)) × (turned_run None m all s.now.rows p j ≡ Ok rows)
  turn = given (turned_run None m all s.now.rows p j) (turned_agrees None m all s.now.rows p j).exact

  abbrev next : stated.Elimination
  next = record { rows = turn.0; basic = set s.now.basic p (Some j) }

  -- the entries after the stated pivot are those of the pivoted rows
  entry_is : (i k : ℕ) → at_place turn.0 i k ≡ pivoted (at_place s.now.rows) p j i k
  entry_is = turned_entry None m all s.now.rows so_far.all_rows so_far.whole_rows p j p_in turn.0 turn.1

  -- one column of the stated elimination takes position p for column j
  one_run : solve_at f basis j s.now ≡ Ok next
  one_run =
      ap (λ b. cond b (solved_run None f s.now j) (Ok s.now)) (basic_test (basis_at basis j) basic)
      ∙ is_solved None f s.now.rows s.now.basic j p (sym opens) turn.0 turn.1

  p_basic : p < length s.now.basic
  p_basic = omega (arith, p_in, so_far.all_basic)

  -- the rows that were turned are those of the stated rows after the pivot
  rows_are : value old.tab.denominator ≡ value new.tab.denominator →
      AreRowsAt value (value new.tab.denominator) m (f.cols + m) (f.cols + m) (basis_value f basis) (at_place turn.0)
      new.tab.rows.items
  rows_are d =
      let t = turned_rows value (value old.tab.denominator) m (f.cols + m) (basis_value f basis) (at_place s.now.rows)
      old.tab.rows.items whole.positive s.rows p j p_in j_in v w new.tab.rows.items old.tab.costs new.tab.costs v_is
      w_is turned in
      subst (λ d. AreRowsAt value d m (f.cols + m) (f.cols + m) (basis_value f basis) (at_place turn.0)
      new.tab.rows.items) d
      (same_equations (pivoted (at_place s.now.rows) p j) (at_place turn.0)
      (λ i k. sym (entry_is i k)) t)
    where
      same_equations : (g h : ℕ → ℕ → ℚ) → ((i k : ℕ) → g i k ≡ h i k) →
          AreRowsAt value (value old.tab.denominator) m (f.cols + m) (f.cols + m) (basis_value f basis) g
          new.tab.rows.items →
          AreRowsAt value (value old.tab.denominator) m (f.cols + m) (f.cols + m) (basis_value f basis) h
          new.tab.rows.items
      same_equations g h e a =
          subst (λ g. AreRowsAt value (value old.tab.denominator) m (f.cols + m) (f.cols + m) (basis_value f basis) g
          new.tab.rows.items)
          (fun_ext (λ i. fun_ext (λ k. e i k))) a

  abbrev before : ℕ → ℕ
  before i = or_first (get_or s.now.basic i None)

  abbrev after : ℕ → ℕ
  after i = or_first (get_or next.basic i None)

  -- the basic columns, with j set at position p, are those of the stated elimination after column j
  basic_is : new.tab.basic.items ≡ set old.tab.basic.items p j → new.tab.basic.items ≡ made m after
  basic_is e =
      e ∙ ap (λ ks. set ks p j) s.basic
      ∙ ext_get_or 0 (set (made m before) p j) (made m after)
      (length-set (made m before) p j ∙ length-made m before ∙ sym (length-made m after))
      (λ i l.
      let h : i < m = omega (arith, l, length-set (made m before) p j, length-made m before) in
      by_eq i p
      (λ q. ap (λ i. get_or (set (made m before) p j) i 0) q
      ∙ get_or-set_same (made m before) p j 0 (omega (arith, p_in, length-made m before))
      ∙ sym (get_or-made m after i 0 h
      ∙ ap or_first (ap (λ i. get_or next.basic i None) q ∙ get_or-set_same s.now.basic p (Some j) None p_basic)))
      (λ q. get_or-set_other (made m before) p i j 0 q ∙ get_or-made m before i 0 h
      ∙ sym (get_or-made m after i 0 h ∙ ap or_first (get_or-set_other s.now.basic p i (Some j) None q))))

  -- a position is taken after column j just where it has a column in the stated elimination
  taken_is : length old.taken.items ≡ m → new.taken.items ≡ set old.taken.items p true → (i : ℕ) → i < m →
      get_or new.taken.items i false ≡ not (has_none (get_or next.basic i None))
  taken_is l e i h =
      ap (λ bs. get_or bs i false) e
      ∙ by_eq i p
      (λ q. ap (λ i. get_or (set old.taken.items p true) i false) q
      ∙ get_or-set_same old.taken.items p true false (omega (arith, p_in, l))
      ∙ sym (ap (λ o. not (has_none o))
      (ap (λ i. get_or next.basic i None) q ∙ get_or-set_same s.now.basic p (Some j) None p_basic)))
      (λ q. get_or-set_other old.taken.items p i true false q ∙ s.taken i h
      ∙ sym (ap (λ o. not (has_none o)) (get_or-set_other s.now.basic p i (Some j) None q)))

  -- the costs are 0 still after the rows were turned
  costs_are : (k : ℕ) → k < f.cols + f.rows → number_at value new.tab.costs k ≡ 0ℚ
  costs_are k h =
      turned.reduced k h
      ∙ ap₂ (λ a b. a -ℚ b *ℚ pivot_row (number_in value old.tab.rows.items) p j k) (s.form.costs k h)
      (s.form.costs j j_in)
      ∙ none (pivot_row (number_in value old.tab.rows.items) p j k)
    where
      none : (a : ℚ) → 0ℚ -ℚ 0ℚ *ℚ a ≡ 0ℚ
      none a = simp ring

  -- where rows were turned for column j at position p, this is noted, and all else is as before, the equations are
  -- solved for the columns below j + 1
  pub column_solved : new.tab.cols ≡ old.tab.cols → new.tab.status ≡ old.tab.status →
      new.tab.lower ≡ old.tab.lower → new.tab.upper ≡ old.tab.upper → new.tab.fixed ≡ old.tab.fixed →
      new.tab.denominator ≡ old.tab.denominator → new.tab.basic.items ≡ set old.tab.basic.items p j →
      length old.taken.items ≡ f.rows → new.taken.items ≡ set old.taken.items p true →
      IsSolvedBelow value f basis (j + 1) new
  column_solved cols status lower upper fixed denominator basic taken_all taken = record {
    now = next;
    run = steps_more j (solve_at f basis) (unsolved f) s.now next s.run one_run;
    form = record {
      cols = cols ∙ s.form.cols;
      costs = costs_are;
      status = ap (λ (ss : _). ss.items) status ∙ s.form.status;
      lower = ap₂ (λ (d : T) (bs : _). map (bound_of value (value d)) bs.items) denominator lower ∙ s.form.lower;
      upper = ap₂ (λ (d : T) (bs : _). map (bound_of value (value d)) bs.items) denominator upper ∙ s.form.upper;
      fixed = ap (λ (bs : _). bs.items) fixed ∙ s.form.fixed;
    };
    rows = rows_are (ap value (sym denominator));
    basic = basic_is basic;
    taken = taken_is taken_all taken;
  }

-- ---- a column that is not basic
pub column_passed : {T : Type 0} (value : T → ℕ) (f : Form) (basis : List Status) (j : ℕ) (e : Elimination T) →
    is_basic (basis_at basis j) ≡ false → IsSolvedBelow value f basis j e → IsSolvedBelow value f basis (j + 1) e
column_passed value f basis j e b s = record {
  now = s.now;
  run =
      steps_more j (solve_at f basis) (unsolved f) s.now s.now s.run
      (ap (λ b. cond b (solved_run None f s.now j) (Ok s.now)) b);
  form = s.form;
  rows = s.rows;
  basic = s.basic;
  taken = s.taken;
}

-- ---- what a call gives
pub done_of : (r : Progress) (P : Type 0) → r ≡ Done → IfDone r P → P
done_of r P e h = subst (λ r. IfDone r P) e h

pub if_done : (r : Progress) (P Q : Type 0) → (P → Q) → IfDone r P → IfDone r Q
if_done Done P Q f h = f h
if_done Narrow P Q f h = tt
if_done Stopped P Q f h = tt

pub none_over : (z : ℤ) → z ≡ pos 0 → over z 1 ≡ 0ℚ
none_over z e = ap (λ z. over z 1) e ∙ over_none 1 (omega arith)

pub turned_whole : {T : Type 0} (value : T → ℕ) (j p n : ℕ) (old new : RowTableau T) → IsWhole value old →
    j < width old → (lent rows : List (Row T)) (costs : Row T) (v w : ℚ) → n ≡ width old → lent ≡ old.rows.items →
    new.rows.items ≡ rows → new.costs ≡ costs → AreTurned value n p j v w lent rows old.costs costs →
    new.cols ≡ old.cols → new.status ≡ old.status → new.lower ≡ old.lower → new.upper ≡ old.upper →
    new.fixed ≡ old.fixed → new.denominator ≡ old.denominator → new.basic.items ≡ set old.basic.items p j →
    IsWhole value new
turned_whole value j p n old new whole column lent rows costs v w n_is lent_is rows_is costs_is t cols status lower
    upper fixed denominator basic =
    let turned : AreTurned value (width old) p j v w old.rows.items new.rows.items old.costs new.costs =
    subst (λ c. AreTurned value (width old) p j v w old.rows.items new.rows.items old.costs c) (sym costs_is)
    (subst₂ (λ x y. AreTurned value (width old) p j v w x y old.costs costs) lent_is (sym rows_is)
    (subst (λ n. AreTurned value n p j v w lent rows old.costs costs) n_is t)) in
    whole_pivoted value old new whole p j v w turned column cols basic (ap (λ (ss : _). length ss.items) status) lower
    (ap (λ (bs : _). length bs.items) upper) fixed denominator

pub turned_here : {T : Type 0} (value : T → ℕ) (f : Form) (basis : List Status) (j p n : ℕ) (old new : Elimination T)
    (s : IsSolvedBelow value f basis j old) (lent rows : List (Row T)) (costs : Row T) (v w : ℚ) → n ≡ width old.tab →
    lent ≡ old.tab.rows.items → new.tab.rows.items ≡ rows → new.tab.costs ≡ costs →
    AreTurned value n p j v w lent rows old.tab.costs costs →
    AreTurned value (f.cols + f.rows) p j v w old.tab.rows.items new.tab.rows.items old.tab.costs new.tab.costs
turned_here value f basis j p n old new s lent rows costs v w n_is lent_is rows_is costs_is t =
    let wide : n ≡ f.cols + f.rows = omega (arith, n_is, s.form.cols, s.rows.len) in
    subst (λ c. AreTurned value (f.cols + f.rows) p j v w old.tab.rows.items new.tab.rows.items old.tab.costs c)
    (sym costs_is)
    (subst₂ (λ x y. AreTurned value (f.cols + f.rows) p j v w x y old.tab.costs costs) lent_is (sym rows_is)
    (subst (λ n. AreTurned value n p j v w lent rows old.tab.costs costs) wide t))
