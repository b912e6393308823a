-- Elimination: the form's equations solved for the basic columns, one column after the other.
--
-- `none_more`: where no position below k is open for a column, and k is not, none below k + 1 is.
-- `open_at`: where k is open and none below it is, k is the least open position.
-- `open_entry`: the entry of an open position in the column is not 0.
-- `one_inside`: columns that are all below n stay so where a position gets a column below n.
use Rattle.std.proofs.Common.{◌≡◌, ◌≢◌, ℕ, zero, suc, ◌+◌, ◌-◌, ◌<◌, List, length, get_or}
use Rattle.std.proofs.Common.{replicate, IfSome, Option, Some, None, Result, Ok, Err, Bool, true}
use Rattle.std.proofs.Common.{false, not, ◌&&◌, cond, refl, sym, ap, ap₂, ◌∙◌, subst, arith}
use Rattle.std.specs.Prelude.{slice_set}
use Rattle.std.proofs.lemmas.List.{length-replicate}
use Rattle.std.proofs.lemmas.List.Elements.{All-nil, All-cons, All-set}
use Rattle.spec_exact.specs.Fraction.{ℚ, 0ℚ, eq_ℚ}
use Rattle.spec_exact.proofs.Same.{eq_test}
use Rattle.spec_pivot.specs.declared.status.Status.{Status}
use Rattle.spec_simplex.specs.declared.ends.RowStart.TheVariants.{Within}
use Rattle.spec_simplex.specs.Form.{Form}
use Rattle.spec_exact.specs.Run.{Run, ◌>>=◌, refused_as, steps, made}
use Rattle.spec_simplex.specs.Start.{start_entry}
use Rattle.spec_simplex.specs.Step.{turned_run}
use Rattle.spec_simplex.specs.Tableau.{at_place}
use Rattle.spec_exact.proofs.RunsInOrder.{steps_more, steps_stop, length-made, All-made}
use Rattle.spec_simplex.specs.Tableau.{is_basic}
use Rattle.spec_simplex.specs.declared.ends.StartStop.{StartStop}
use Rattle.spec_simplex.specs.declared.ends.StartStop.TheVariants as start
use Rattle.spec_simplex.specs.Eliminate.{Elimination, equation, unsolved, has_none, is_open, or_place}
use Rattle.spec_simplex.specs.Eliminate.{open_below, solved_by, solved_run, eliminate_run, basis_at}
use Rattle.lp_frac.specs.declared.stop.Stop.{Stop}
use Rattle.lp_form.specs.declared.stop.Singular.{Singular}
use Rattle.lp_frac.specs.declared.stop.Stop.TheVariants as stop
use Rattle.lp_tableau.specs.Grid.{IsGrid}
use Rattle.lp_tableau.specs.Based.{AreInside, StopsAt}

-- ---- the least open position

-- where p is the least open position among the first n, it is the least among the first n + d
stays : (e : Elimination) (j n d p : ℕ) → open_below e j n ≡ Some p → open_below e j (n + d) ≡ Some p
stays e j n zero p h = (let z : n + 0 ≡ n = omega arith in ap (open_below e j) z) ∙ h
stays e j n (suc d) p h =
    (let z : n + suc d ≡ suc (n + d) = omega arith in ap (open_below e j) z)
    ∙ ap (λ o. or_place o (n + d) (is_open e j (n + d))) (stays e j n d p h)

pub none_more : (e : Elimination) (j k : ℕ) → open_below e j k ≡ None → is_open e j k ≡ false →
    open_below e j (k + 1) ≡ None
none_more e j k h g = (let z : k + 1 ≡ suc k = omega arith in ap (open_below e j) z) ∙ ap₂ (λ o b. or_place o k b) h g

pub open_at : (e : Elimination) (j k n : ℕ) → open_below e j k ≡ None → k < n → is_open e j k ≡ true →
    open_below e j n ≡ Some k
open_at e j k n h l g =
    let z : suc k + (n - suc k) ≡ n = omega arith in
    subst (λ i. open_below e j i ≡ Some k) z (stays e j (suc k) (n - suc k) k (ap₂ (λ o b. or_place o k b) h g))

-- where the test of a and not b holds, b is false
both : (a b : Bool) → a && not b ≡ true → b ≡ false
both true true h = let z : false ≡ true = h in cc
both true false h = refl
both false b h = let z : false ≡ true = h in cc

pub open_entry : (e : Elimination) (j i : ℕ) → is_open e j i ≡ true → at_place e.rows i j ≢ 0ℚ
open_entry e j i h z =
    let f : eq_ℚ (at_place e.rows i j) 0ℚ ≡ false =
    both (has_none (get_or e.basic i None)) (eq_ℚ (at_place e.rows i j) 0ℚ) h in
    let g : true ≡ false = sym (eq_test (at_place e.rows i j) 0ℚ z) ∙ f in
    cc

-- ---- one column
abbrev width_of : Form → ℕ
width_of f = f.cols + f.rows + f.rows

module _ (limit : Option ℕ) (f : Form) (rows : List (List ℚ)) (basic : List (Option ℕ)) (j : ℕ) where
  abbrev now : Elimination
  now = record { rows = rows; basic = basic }

  pub is_singular : None ≡ open_below now j f.rows → solved_run limit f now j ≡ Err start.Singular
  is_singular h = ap (solved_by limit f now j) (sym h)

  module _ (p : ℕ) (h : Some p ≡ open_below now j f.rows) where
    abbrev placed : Run (List (List ℚ)) → Result Elimination (StartStop ℚ)
    placed o = refused_as start.Past (o >>= λ rows. Ok (record { rows = rows; basic = slice_set basic p (Some j) }))

    pub is_solved : (after : List (List ℚ)) → turned_run limit f.rows (width_of f) rows p j ≡ Ok after →
        solved_run limit f now j ≡ Ok (record { rows = after; basic = slice_set basic p (Some j) })
    is_solved after g = ap (solved_by limit f now j) (sym h) ∙ ap placed g

pub one_inside : (n : ℕ) (basic : List (Option ℕ)) (p j : ℕ) → AreInside n basic → j < n →
    AreInside n (slice_set basic p (Some j))
one_inside n basic p j a l = All-set (λ (o : Option ℕ). IfSome o (λ k. k < n)) basic p (Some j) l a

-- ---- all columns
abbrev solve_at : Option ℕ → Form → List Status → ℕ → Elimination → Result Elimination (StartStop ℚ)
solve_at limit f basis j e = cond (is_basic (basis_at basis j)) (solved_run limit f e j) (Ok e)

-- the rows are solved for the basic columns below j: the run gives these rows and columns of positions, of the right
-- sizes
pub record Solving (limit : Option ℕ) (f : Form) (basis : List Status)
    (j : ℕ) (rows : List (List ℚ)) (basic : List (Option ℕ)) : Type 0 where
  pub so_far : steps j (solve_at limit f basis) (unsolved f) ≡ Ok (record { rows = rows; basic = basic })
  pub shape : IsGrid f.rows (f.cols + f.rows + f.rows) rows
  pub places : length basic ≡ f.rows
  pub inside : AreInside (f.cols + f.rows + f.rows) basic

-- where no position has a column, each column that a position has is below n
none_inside : (n m : ℕ) → AreInside n (replicate m None)
none_inside n zero = All-nil (λ (o : Option ℕ). IfSome o (λ k. k < n))
none_inside n (suc m) = All-cons (λ (o : Option ℕ). IfSome o (λ k. k < n)) None (replicate m None) tt (none_inside n m)

module _ (limit : Option ℕ) (f : Form) (basis : List Status) where
  unsolved_grid : IsGrid f.rows (width_of f) (made f.rows (equation f))
  unsolved_grid = record {
    height = length-made f.rows (equation f);
    width =
        All-made (λ row. length row ≡ width_of f) f.rows (equation f)
        (λ i l. length-made (width_of f) (start_entry f (Within 0ℚ) i));
  }

  pub solving_begins : (rows : List (List ℚ)) (basic : List (Option ℕ)) → rows ≡ (unsolved f).rows →
      basic ≡ (unsolved f).basic → Solving limit f basis 0 rows basic
  solving_begins rows basic p q = record {
    so_far = ap₂ (λ rows basic. Ok (record { rows = rows; basic = basic })) (sym p) (sym q);
    shape = subst (IsGrid f.rows (width_of f)) (sym p) unsolved_grid;
    places = ap length q ∙ length-replicate f.rows None;
    inside = subst (AreInside (width_of f)) (sym q) (none_inside (width_of f) f.rows);
  }

  module _ (j : ℕ) (rows : List (List ℚ)) (basic : List (Option ℕ)) (v : Solving limit f basis j rows basic) where
    pub solving_passes : is_basic (basis_at basis j) ≡ false → Solving limit f basis (j + 1) rows basic
    solving_passes h = record {
      so_far =
          steps_more j (solve_at limit f basis) (unsolved f) _ _ v.so_far
          (ap (λ b. cond b (solved_run limit f (record { rows = rows; basic = basic }) j)
          (Ok (record { rows = rows; basic = basic }))) h);
      shape = v.shape;
      places = v.places;
      inside = v.inside;
    }

    here : (o : Result Elimination (StartStop ℚ)) → is_basic (basis_at basis j) ≡ true →
        solved_run limit f (record { rows = rows; basic = basic }) j ≡ o →
        solve_at limit f basis j (record { rows = rows; basic = basic }) ≡ o
    here o h g =
        ap (λ b. cond b (solved_run limit f (record { rows = rows; basic = basic }) j)
        (Ok (record { rows = rows; basic = basic }))) h ∙ g

    pub solving_goes_on : (after : List (List ℚ)) (then : List (Option ℕ)) → is_basic (basis_at basis j) ≡ true →
        solved_run limit f (record { rows = rows; basic = basic }) j ≡ Ok (record { rows = after; basic = then })
        → IsGrid f.rows (width_of f) after → length then ≡ f.rows →
        AreInside (width_of f) then → Solving limit f basis (j + 1) after then
    solving_goes_on after then h g s l i = record {
      so_far = steps_more j (solve_at limit f basis) (unsolved f) _ _ v.so_far (here _ h g);
      shape = s;
      places = l;
      inside = i;
    }

    stopped : (e : StartStop ℚ) → j < f.cols + f.rows → is_basic (basis_at basis j) ≡ true →
        solved_run limit f (record { rows = rows; basic = basic }) j ≡ Err e → eliminate_run limit f basis ≡ Err e
    unfolding eliminate_run
    stopped e l h g = steps_stop j (f.cols + f.rows) (solve_at limit f basis) (unsolved f) _ e l v.so_far (here _ h g)

    pub solving_stops : (s : Stop Singular) → j < f.cols + f.rows → is_basic (basis_at basis j) ≡ true →
        StopsAt (solved_run limit f (record { rows = rows; basic = basic }) j) s →
        StopsAt (eliminate_run limit f basis) s
    solving_stops (stop.Cause why) l h g = stopped start.Singular l h g
    solving_stops (stop.Past p) l h g = stopped (start.Past p) l h g
    solving_stops stop.NoMemory l h g = tt

    pub solving_ends : j ≡ f.cols + f.rows → eliminate_run limit f basis ≡ Ok (record { rows = rows; basic = basic })
    unfolding eliminate_run
    solving_ends e = ap (λ n. steps n (solve_at limit f basis) (unsolved f)) (sym e) ∙ v.so_far
