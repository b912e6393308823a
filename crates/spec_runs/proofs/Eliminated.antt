-- Elimination keeps the span of the equations, and makes the basic columns those of the unit matrix.
use Rattle.std.proofs.Common.{◌≡◌, ◌≢◌, ℕ, zero, suc, ◌+◌, ◌<◌, List, [], length, get_or}
use Rattle.std.proofs.Common.{set, Option, Some, None, Ok, Bool, true, false}
use Rattle.std.proofs.Common.{not, ◌&&◌, cond, refl, sym, ap, ◌∙◌, subst, subst₂, arith}
use Rattle.std.proofs.lemmas.Bool.{false≢true}
use Rattle.std.proofs.Math.Path.{fun_ext}
use Rattle.std.proofs.lemmas.List.{length-set, length-replicate, get_or-set_same, get_or-set_other, get_or-replicate}
use Rattle.spec_exact.specs.Fraction.{ℚ, 0ℚ, eq_ℚ}
use Rattle.spec_exact.proofs.Same.{eq_test}
use Rattle.spec_pivot.specs.declared.status.Status.{Status}
use Rattle.spec_pivot.specs.declared.status.Status.TheVariants.{Basic}
use Rattle.spec_pivot.specs.Tableau.{Spans, delta, pivoted}
use Rattle.spec_pivot.proofs.Pivot.{by_eq, delta_other, forth, back, kept, new_unit, Spans_trans}
use Rattle.spec_simplex.specs.Form.{Form}
use Rattle.spec_exact.specs.Run.{refused_as, steps}
use Rattle.spec_simplex.specs.Step.{turned_run}
use Rattle.spec_simplex.specs.Tableau.{at_place}
use Rattle.spec_exact.proofs.RunsInOrder.{length-made}
use Rattle.spec_simplex.specs.Tableau.{is_basic}
use Rattle.spec_simplex.proofs.RunParts.{then_ok, refused_ok, steps_ok}
use Rattle.spec_simplex.proofs.PivotedRows.{turned_rows, turned_whole, turned_entry}
use Rattle.spec_simplex.specs.declared.ends.StartStop.{StartStop}
use Rattle.spec_simplex.specs.declared.ends.StartStop.TheVariants as stop
use Rattle.spec_runs.specs.Based.{equations}
use Rattle.spec_simplex.specs.Eliminate.{basis_at, basics_below, Elimination, equation, unsolved, has_none, is_open}
use Rattle.spec_simplex.specs.Eliminate.{or_place, open_below, solved_at, solved_by, solved_run, eliminate_run}
use Rattle.spec_simplex.proofs.Statuses.{basic_if}
use Rattle.spec_runs.proofs.Counts.{basic_test, filled, filled_set, none_is}
use Rattle.spec_exact.proofs.Results.{ok_same, err_not_ok}
use Rattle.spec_runs.proofs.Unsolved.{unsolved_length, unsolved_forth, unsolved_back}

-- ---- the position that is taken
pub record IsOpen (e : Elimination) (j n p : ℕ) : Type 0 where
  pub position : p < n
  pub free : has_none (get_or e.basic p None) ≡ true
  pub entry : ¬ (at_place e.rows p j ≡ 0ℚ)

-- a position that tests as open has no column, and its entry in column j is not 0
open_means : (e : Elimination) (j n p : ℕ) → p < n → is_open e j p ≡ true → IsOpen e j n p
open_means e j n p h o = by (has_none (get_or e.basic p None)) (eq_ℚ (at_place e.rows p j) 0ℚ) refl refl o
  where
    by : (c d : Bool) → has_none (get_or e.basic p None) ≡ c → eq_ℚ (at_place e.rows p j) 0ℚ ≡ d → c && not d ≡ true →
        IsOpen e j n p
    by true false c d o =
        record {
          position = h;
          free = c;
          entry = λ z. false≢true (sym d ∙ eq_test (at_place e.rows p j) 0ℚ z);
        }
    by true true c d o = absurd (false≢true o)
    by false d c y o = absurd (false≢true o)

-- a position that the search gives is open: it has no column, and its entry in column j is not 0
pub open_is : (e : Elimination) (j n p : ℕ) → open_below e j n ≡ Some p → IsOpen e j n p
open_is e j zero p h = let z : None ≡ Some p = h in cc
open_is e j (suc n) p h = by (open_below e j n) (is_open e j n) refl h (λ h. open_is e j n p h)
  where
    by : (o : Option ℕ) (c : Bool) → is_open e j n ≡ c → or_place o n c ≡ Some p → (o ≡ Some p → IsOpen e j n p) →
        IsOpen e j (suc n) p
    by (Some x) c q h before =
        let there : IsOpen e j n p = before h in
        record { position = omega (arith, there.position); free = there.free; entry = there.entry }
    by None true q h before =
        let z : n ≡ p = cc in subst (IsOpen e j (suc n)) z (open_means e j (suc n) n (omega arith) q)
    by None false q h before = let z : None ≡ Some p = h in cc

module _ (limit : Option ℕ) (f : Form) (basis : List Status) where
  abbrev m : ℕ
  m = f.rows

  abbrev n : ℕ
  n = f.cols + f.rows + f.rows

  -- after the columns below j
  pub record Solving (j : ℕ) (e : Elimination) : Type 0 where
    pub all_rows : length e.rows ≡ f.rows
    pub whole_rows : (i : ℕ) → i < f.rows → length (get_or e.rows i []) ≡ f.cols + f.rows + f.rows
    pub all_basic : length e.basic ≡ f.rows
    pub forth : Spans f.rows (at_place e.rows) (equations f)
    pub back : Spans f.rows (equations f) (at_place e.rows)
    pub units : (i k r : ℕ) → i < f.rows → r < f.rows → get_or e.basic i None ≡ Some k → at_place e.rows r k ≡ delta i r
    pub placed : (k : ℕ) → k < j → basis_at basis k ≡ Basic → (i : ℕ) × (i < f.rows) × (get_or e.basic i None ≡ Some k)
    pub only : (i k : ℕ) → i < f.rows → get_or e.basic i None ≡ Some k → (k < j) × (basis_at basis k ≡ Basic)
    pub count : filled e.basic f.rows ≡ basics_below basis j

  -- before elimination no position has a column
  none_yet : (i : ℕ) → i < f.rows → get_or (unsolved f).basic i None ≡ None
  none_yet i h = get_or-replicate f.rows i None None h

  none_filled : (i : ℕ) → i < suc f.rows → filled (unsolved f).basic i ≡ 0
  none_filled zero h = refl
  none_filled (suc i) h =
      ap (λ o. filled (unsolved f).basic i + cond (has_none o) 0 1) (none_yet i (omega (arith, h)))
      ∙ (let z : filled (unsolved f).basic i ≡ 0 = none_filled i (omega (arith, h)) in
      let y : filled (unsolved f).basic i + 0 ≡ 0 = omega (arith, z) in y)

  -- the unsolved equations are solved for the basic columns below 0
  begins : Solving 0 (unsolved f)
  begins = record {
    all_rows = length-made f.rows (equation f);
    whole_rows = unsolved_length f;
    all_basic = length-replicate f.rows None;
    forth = unsolved_forth f;
    back = unsolved_back f;
    units = λ i k r h l e. let z : None ≡ Some k = sym (none_yet i h) ∙ e in cc;
    placed = λ k h. absurd (let z : ⊥ = omega (arith, h) in z);
    only = λ i k h e. let z : None ≡ Some k = sym (none_yet i h) ∙ e in cc;
    count = none_filled f.rows (omega arith);
  }

  -- ---- a column that is not basic
  goes_by : (j : ℕ) (e : Elimination) → is_basic (basis_at basis j) ≡ false → Solving j e → Solving (suc j) e
  goes_by j e c s = record {
    all_rows = s.all_rows;
    whole_rows = s.whole_rows;
    all_basic = s.all_basic;
    forth = s.forth;
    back = s.back;
    units = s.units;
    placed = λ k h b. by_eq k j
        (λ z. absurd (false≢true (sym c ∙ basic_test (basis_at basis j) (ap (basis_at basis) (sym z) ∙ b))))
        (λ z. s.placed k (omega (arith, h, z)) b);
    only = λ i k h z. let o = s.only i k h z in (omega (arith, o.0), o.1);
    count =
        s.count ∙ sym (ap (λ c. basics_below basis j + cond c 1 0) c
        ∙ (let z : basics_below basis j + 0 ≡ basics_below basis j = omega arith in z));
  }

  -- ---- one that is
  module _ (j : ℕ) (e : Elimination) (s : Solving j e) (b : basis_at basis j ≡ Basic)
      (p : ℕ) (o : IsOpen e j f.rows p) (rows : List (List ℚ))
      (ok : turned_run limit f.rows (f.cols + f.rows + f.rows) e.rows p j ≡ Ok rows) where
    abbrev next : Elimination
    next = record { rows = rows; basic = set e.basic p (Some j) }

    entries : at_place rows ≡ pivoted (at_place e.rows) p j
    entries =
        fun_ext (λ i. fun_ext (λ k. turned_entry limit f.rows
        (f.cols + f.rows + f.rows) e.rows s.all_rows s.whole_rows p j o.position rows ok i k))

    p_in : p < length e.basic
    p_in = omega (arith, o.position, s.all_basic)

    by_place : {P : Type 0} (i k : ℕ) → get_or (set e.basic p (Some j)) i None ≡ Some k → (i ≡ p → k ≡ j → P) →
        (i ≢ p → get_or e.basic i None ≡ Some k → P) → P
    by_place i k h f g =
        by_eq i p
        (λ z. f z (let y : Some j ≡ Some k = sym (get_or-set_same e.basic p (Some j) None p_in)
        ∙ ap (λ i. get_or (set e.basic p (Some j)) i None) (sym z) ∙ h in let x : k ≡ j = cc in x))
        (λ z. g z (sym (get_or-set_other e.basic p i (Some j) None z) ∙ h))

    -- after a pivot at position p and column j, the basic columns, with j at p, are those of the unit matrix
    units_kept : (i k r : ℕ) → i < f.rows → r < f.rows → get_or (set e.basic p (Some j)) i None ≡ Some k →
        pivoted (at_place e.rows) p j r k ≡ delta i r
    units_kept i k r h l e' =
        by_place i k e'
        (λ z y. subst₂ (λ i k. pivoted (at_place e.rows) p j r k ≡ delta i r)
        (sym z) (sym y) (new_unit (at_place e.rows) p j r o.entry))
        (λ z y. kept (at_place e.rows) p j r k (s.units i k p h o.position y ∙ delta_other i p z) ∙ s.units i k r h l y)

    -- where the equations are solved for the basic columns below j, and column j takes position p, they are solved for
    -- those below j + 1
    solved : Solving (suc j) next
    solved = record {
      all_rows =
          turned_rows limit f.rows (f.cols + f.rows + f.rows) e.rows s.all_rows s.whole_rows p j o.position rows ok;
      whole_rows =
          turned_whole limit f.rows (f.cols + f.rows + f.rows) e.rows s.all_rows s.whole_rows p j o.position rows ok;
      all_basic = length-set e.basic p (Some j) ∙ s.all_basic;
      forth =
          subst (λ t. Spans f.rows t (equations f)) (sym entries)
          (Spans_trans f.rows _ _ _ (forth f.rows (at_place e.rows) p j o.position) s.forth);
      back =
          subst (λ t. Spans f.rows (equations f) t) (sym entries)
          (Spans_trans f.rows _ _ _ s.back (back f.rows (at_place e.rows) p j o.position o.entry));
      units = λ i k r h l y. ap (λ t. t r k) entries ∙ units_kept i k r h l y;
      placed = λ k h y. by_eq k j
          (λ z. (p, o.position, get_or-set_same e.basic p (Some j) None p_in ∙ ap Some (sym z)))
          (λ z. let w = s.placed k (omega (arith, h, z)) y in (
            w.0,
            w.1,
            get_or-set_other e.basic p w.0 (Some j) None
                (λ x. none_is (get_or e.basic p None) o.free k (ap (λ i. get_or e.basic i None) (sym x) ∙ w.2)) ∙ w.2,
          ));
      only = λ i k h y. by_place i k y
          (λ z x. (omega (arith, x), ap (basis_at basis) x ∙ b))
          (λ z x. let w = s.only i k h x in (omega (arith, w.0), w.1));
      count =
          filled_set e.basic p j f.rows o.position p_in o.free ∙ ap (λ c. c + 1) s.count
          ∙ sym (ap (λ c. basics_below basis j + cond c 1 0) (basic_test (basis_at basis j) b));
    }

  -- ---- the run
  step : (j : ℕ) (e u : Elimination) → Solving j e →
      cond (is_basic (basis_at basis j)) (solved_run limit f e j) (Ok e) ≡ Ok u → Solving (suc j) u
  step j e u s h = by (is_basic (basis_at basis j)) refl h
    where
      taken : (p : ℕ) → open_below e j f.rows ≡ Some p → basis_at basis j ≡ Basic →
          refused_as stop.Past (solved_at limit f e j p) ≡ Ok u → Solving (suc j) u
      taken p o b h =
          let a =
          then_ok (turned_run limit f.rows (f.cols + f.rows + f.rows) e.rows p j) _ u
          (refused_ok stop.Past (solved_at limit f e j p) u h) in
          subst (Solving (suc j)) (ok_same (record { rows = a.0; basic = set e.basic p (Some j) }) u a.2)
          (solved j e s b p (open_is e j f.rows p o) a.0 a.1)

      place : (o : Option ℕ) → open_below e j f.rows ≡ o → basis_at basis j ≡ Basic → solved_by limit f e j o ≡ Ok u →
          Solving (suc j) u
      place None o b h = err_not_ok {E = StartStop ℚ} stop.Singular u h
      place (Some p) o b h = taken p o b h

      by : (c : Bool) → is_basic (basis_at basis j) ≡ c → cond c (solved_run limit f e j) (Ok e) ≡ Ok u →
          Solving (suc j) u
      by true c h = place (open_below e j f.rows) refl (basic_if (basis_at basis j) c) h
      by false c h = subst (Solving (suc j)) (ok_same e u h) (goes_by j e c s)

  -- where the steps of elimination for the columns below j give e, e is solved for the basic ones among these columns
  pub eliminated_below : (j : ℕ) (e : Elimination) →
      steps j (λ j e. cond (is_basic (basis_at basis j)) (solved_run limit f e j) (Ok e)) (unsolved f) ≡ Ok e →
      Solving j e
  eliminated_below j e h =
      steps_ok Solving j (λ j e. cond (is_basic (basis_at basis j)) (solved_run limit f e j) (Ok e))
      (unsolved f) e h begins (λ i x y l s k. step i x y s k)

  -- where elimination gives e, e is solved for all basic columns of the form
  pub eliminated : (e : Elimination) → eliminate_run limit f basis ≡ Ok e → Solving (f.cols + f.rows) e
  unfolding eliminate_run
  eliminated e h = eliminated_below (f.cols + f.rows) e h
