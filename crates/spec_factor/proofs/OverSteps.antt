-- A flip and a pivot over factors leave a state of the tableau that the same step leaves.
--
-- `there_is`: a run that is never refused, as one without a limit, has a result.
-- `places_of`: where pairs stand for the basic columns of a form's tableau, these stand in their places.
use Rattle.std.proofs.Common.{◌≡◌, ◌≢◌, ℕ, suc, ◌+◌, ◌<◌, ◌≤◌, List, [], length, get_or, set, map, Option, Some}
use Rattle.std.proofs.Common.{None, Ok, Err, cond, refl, sym, ap, ap₂, ◌∙◌, subst, subst₂, eq-eqb, ne_eqb}
use Rattle.std.proofs.lemmas.List.{length-set, get_or-map, get_or-set_same, get_or-set_other}
use Rattle.spec_exact.specs.Fraction.{ℚ, ◌*ℚ◌, 0ℚ}
use Rattle.spec_exact.proofs.Field.{*ℚ_zero}
use Rattle.spec_pivot.specs.declared.status.Status.{Status}
use Rattle.spec_pivot.specs.declared.status.Way.{Way}
use Rattle.spec_pivot.specs.Simplex.{Bounds, IsWithin, Enters, Pivots}
use Rattle.spec_pivot.specs.Ratio.{way_of, bound_ahead}
use Rattle.spec_pivot.specs.Simplex.{ray}
use Rattle.spec_pivot.proofs.Pivot.{by_eq}
use Rattle.spec_pivot.proofs.SameEquations.{entry_not_zero}
use Rattle.spec_pivot.proofs.RatioTest.{best_pivots}
use Rattle.spec_simplex.specs.declared.ends.RowStart.{RowStart}
use Rattle.spec_simplex.specs.declared.ends.Entering.{Entering}
use Rattle.spec_simplex.specs.declared.ends.Best.{Best}
use Rattle.spec_simplex.specs.declared.ends.PrimalEnd.TheVariants.{Optimal, Unbounded}
use Rattle.spec_simplex.specs.declared.ends.Choice.{Choice}
use Rattle.spec_simplex.specs.declared.ends.Choice.TheVariants.{End, Flip, Pivot}
use Rattle.spec_simplex.specs.Form.{Form}
use Rattle.spec_exact.specs.Run.{Run, ◌>>=◌, less_product, steps}
use Rattle.spec_simplex.specs.Start.{cost_at}
use Rattle.spec_simplex.specs.Tableau.{Tableau, all_columns, basic_at, entry_at, status_at}
use Rattle.spec_simplex.specs.Step.{entering, directed, other_bound, best_run, choice_at, choice_by}
use Rattle.spec_simplex.specs.Step.{choice_of, choice_run, is_place, moved_at, moved_run, flip_way}
use Rattle.spec_simplex.specs.Step.{flipped, flip_run, shifted_run, exchanged, turned, pivot_run}
use Rattle.spec_simplex.specs.Phases.{done_run}
use Rattle.spec_exact.proofs.RunsInOrder.{length-made, get_or-made}
use Rattle.spec_simplex.specs.Tables.{table_of, IsTableauOf, IsWithinBounds}
use Rattle.spec_simplex.specs.Begins.{form_rows, signs_of}
use Rattle.spec_simplex.proofs.RunParts.{then_ok}
use Rattle.spec_simplex.proofs.Enters.{an_entering}
use Rattle.spec_simplex.proofs.Refusals.{Agrees, as_it_is}
use Rattle.spec_simplex.proofs.LimitStart.{flip_agrees, pivot_agrees}
use Rattle.spec_simplex.proofs.LeastIndexSteps.{choice_is_meant}
use Rattle.spec_simplex.proofs.Tests.{plain, a_best}
use Rattle.spec_factor.specs.Factors.{Pair, column_entry, column_of, with_pair, replace_run}
use Rattle.spec_factor.specs.Basis.{StandsFor, SolvesColumns, with_column, basis_of}
use Rattle.spec_factor.specs.Revised.{Revised, bare_of, factor_column, sign_of}
use Rattle.spec_factor.specs.Revised.{seen, flip_over_run, factors_at, exchange_run}
use Rattle.spec_factor.proofs.RunLists.{read}
use Rattle.spec_factor.proofs.Solves.{ftran_solves, replaced}
use Rattle.spec_factor.specs.Same.{SameChoice, Places, bare_with, state, GoesWith}
use Rattle.spec_factor.proofs.SameChoices.{own_table, columns_are}
use Rattle.spec_factor.proofs.FactoredTableau.{plain_column}
use Rattle.spec_factor.proofs.Selection.{steps_same, SameColumn, W, W_is, Sees, seen_at}
use Rattle.spec_factor.proofs.Next.{Flipped, flip_out, Pivoted, pivot_out, next_statuses, bare_same}
use Rattle.spec_factor.proofs.Refactor.{stands_as}

-- without a limit there is a result
pub there_is : {A : Type 0} (o : Run A) → Agrees as_it_is o o → (a : A) × (o ≡ Ok a)
there_is (Ok a) h = (a, refl)
there_is (Err p) h = absurd (h.exact p refl)

-- where two tableaus have the same column j, their values move the same along it
moved_same : (limit : Option ℕ) (t u : Tableau) (j : ℕ) (theta : ℚ) (but : Option ℕ) → SameColumn t u j →
    moved_run limit t j theta but ≡ moved_run limit u j theta but
unfolding moved_run
moved_same limit t u j theta but s =
    ap₂ (λ m v. steps m (λ i values. cond (is_place but i) (Ok values) (moved_at limit t j theta i values)) v)
    s.rows s.values
    ∙ steps_same u.rows _ _ u.value (λ i x l. ap (λ o. cond (is_place but i) (Ok x) o)
    (ap (λ a. less_product limit a theta (get_or x (basic_at t i) 0ℚ) >>= λ v. Ok (set x (basic_at t i) v))
    (s.entries i l)
    ∙ ap (λ b. less_product limit (entry_at u i j) theta (get_or x (get_or b i 0) 0ℚ) >>=
    λ v. Ok (set x (get_or b i 0) v)) s.basic))

-- ---- a pivot that was chosen is one by the rule
pub record ChosenPivot (b : Bounds) (t : Tableau) (p j : ℕ) : Type 0 where
  pub way : Way
  pub ratio : ℚ
  pub to : Status
  pub pivots : Pivots t.rows (all_columns t) b (table_of t) way j p ratio to

module _ (m n : ℕ) (F : ℕ → ℕ → ℚ) (cost : ℕ → ℚ) (b : Bounds) (t : Tableau) (st : IsTableauOf m n F cost b t)
    (inside : IsWithinBounds m n b t) where
  own_within : IsWithin (all_columns t) b (table_of t)
  own_within = subst (λ n. IsWithin n b (table_of t)) (sym (columns_are m n F cost b t st)) inside

  pub chosen_pivot : (limit : Option ℕ) (p j : ℕ) (theta : ℚ) (to : Status) →
      choice_run limit t ≡ Ok (Pivot p j theta to) → ChosenPivot b t p j
  unfolding choice_run
  chosen_pivot limit p j theta to h = by (entering t) refl h
    where
      at_place : (e : Entering) → entering t ≡ Some e → (x : Best ℚ) → best_run limit t e ≡ Ok (Some x) →
          (o : Option ℕ) → x.place ≡ o → choice_at e x o ≡ Pivot p j theta to → ChosenPivot b t p j
      at_place e is x found None z h = let y : ◌≡◌ {A = Choice ℚ} (Flip e.col) (Pivot p j theta to) = h in cc
      at_place e is x found (Some i) z h =
          let y : ◌≡◌ {A = Choice ℚ} (Pivot i e.col (directed e.direction x.ratio) x.to) (Pivot p j theta to) = h in
          let pi : i ≡ p = cc in
          let ji : e.col ≡ j = cc in
          let enters : Enters (all_columns t) b (table_of t) e.direction e.col = an_entering b t st.bounds e is in
          let v : Pivots t.rows (all_columns t) b (table_of t) e.direction e.col i x.ratio
          (bound_ahead (way_of (ray t.rows (table_of t) e.direction e.col (basic_at t i)))) =
          best_pivots t.rows (all_columns t) F cost b (table_of t) e.direction e.col
          (own_table m n F cost b t st) own_within enters (plain x)
          (a_best limit t st.whole F cost b (own_table m n F cost b t st) st.bounds e enters x found) i z in
          subst₂ (λ j p. ChosenPivot b t p j) ji pi (record {
            way = e.direction;
            ratio = x.ratio;
            to = bound_ahead (way_of (ray t.rows (table_of t) e.direction e.col (basic_at t i)));
            pivots = v;
          })

      with_best : (e : Entering) → entering t ≡ Some e → (best : Option (Best ℚ)) → best_run limit t e ≡ Ok best →
          choice_by e best ≡ Pivot p j theta to → ChosenPivot b t p j
      with_best e is None found h =
          let y : ◌≡◌ {A = Choice ℚ} (End (Unbounded e.col e.direction)) (Pivot p j theta to) = h in cc
      with_best e is (Some x) found h = at_place e is x found x.place refl h

      by : (o : Option Entering) → entering t ≡ o → choice_of limit t o ≡ Ok (Pivot p j theta to) → ChosenPivot b t p j
      by None e h =
          let z : ◌≡◌ {A = Run (Choice ℚ)} (Ok (End Optimal)) (Ok (Pivot p j theta to)) =
          h in let y : ◌≡◌ {A = Choice ℚ} (End Optimal) (Pivot p j theta to) = cc in cc
      by (Some e) is h =
          let a = then_ok (best_run limit t e) (λ best. Ok (choice_by e best)) (Pivot p j theta to) h in
          with_best e is a.0 a.1
          (let z : ◌≡◌ {A = Run (Choice ℚ)} (Ok (choice_by e a.0)) (Ok (Pivot p j theta to)) = a.2 in cc)

-- ---- the places of a tableau of this form
pub places_of : (f : Form) (F : ℕ → ℕ → ℚ) (cost : ℕ → ℚ) (b : Bounds) (w : Tableau) (pairs : List Pair) →
    IsTableauOf f.rows f.cols F cost b w → StandsFor f.rows pairs (basis_of f (map (λ k. factor_column w k) w.basic)) →
    Places f w w.basic pairs
places_of f F cost b w pairs s stands = record {
  all = s.whole.all_basic ∙ s.rows;
  in_range =
      λ p l. subst (λ n. basic_at w p < n) (sym (columns_are f.rows f.cols F cost b w s)) (s.tableau.in_range p l);
  marked = s.tableau.marked;
  placed = λ k l e. s.tableau.placed k (subst (λ n. k < n) (columns_are f.rows f.cols F cost b w s) l) e;
  stands = stands;
}

-- the places of a tableau are places of the tableau without its rows and reduced costs
to_bare : (f : Form) (t : Tableau) (basic : List ℕ) (pairs : List Pair) → Places f t basic pairs →
    Places f (bare_with t basic) basic pairs
to_bare f t basic pairs h =
    record { all = h.all; in_range = h.in_range; marked = h.marked; placed = h.placed; stands = h.stands }

-- the places of a tableau without its rows and reduced costs are places of the tableau itself
from_bare : (f : Form) (t : Tableau) (basic : List ℕ) (pairs : List Pair) → Places f (bare_with t basic) basic pairs →
    Places f t basic pairs
from_bare f t basic pairs h =
    record { all = h.all; in_range = h.in_range; marked = h.marked; placed = h.placed; stands = h.stands }

-- where two tableaus are the same without rows and reduced costs, places of one are places of the other
places_as : (f : Form) (t u : Tableau) (basic : List ℕ) (pairs : List Pair) →
    bare_with t basic ≡ bare_with u basic → Places f t basic pairs → Places f u basic pairs
places_as f t u basic pairs e h =
    from_bare f u basic pairs (subst (λ t. Places f t basic pairs) e (to_bare f t basic pairs h))

-- ---- the steps
module _ (f : Form) (starts : List (RowStart ℚ)) (costs : List ℚ) (b : Bounds)
    (t : Tableau) (st : IsTableauOf f.rows f.cols (form_rows f (signs_of starts)) (cost_at costs) b t)
    (inside : IsWithinBounds f.rows f.cols b t) (few : length costs ≤ f.cols + f.rows + f.rows)
    (basic : List ℕ) (pairs : List Pair) (g : Places f t basic pairs) (replaced_before : ℕ) where
  abbrev F : ℕ → ℕ → ℚ
  F = form_rows f (signs_of starts)

  abbrev w : Tableau
  w = W f starts costs b t st few basic pairs g

  w_is : IsTableauOf f.rows f.cols F (cost_at costs) b w
  w_is = W_is f starts costs b t st few basic pairs g

  abbrev now : Revised
  now = state t basic pairs replaced_before

  -- a state of a tableau with the statuses of u is a state of u
  goes : (v u : Tableau) (new : List ℕ) (ps : List Pair) (r : ℕ) → IsTableauOf f.rows f.cols F (cost_at costs) b v →
      IsTableauOf f.rows f.cols F (cost_at costs) b u → u.status ≡ v.status → Places f v new ps →
      GoesWith f u (state v new ps r)
  goes v u new ps r sv su same h =
      let e : bare_with u new ≡ bare_with v new = bare_same f.rows f.cols F (cost_at costs) b u v su sv same new in
      record {
        basic = new;
        pairs = ps;
        replaced = r;
        same = ap (λ t. record { bare = t; pairs = ps; replaced = r }) (sym e);
        places = places_as f v u new ps (sym e) h;
      }

  -- a flip
  module _ (j : ℕ) (v : Tableau) (sight : Sees f starts costs b t st few basic pairs g None j v)
      (chosen : choice_run None w ≡ Ok (Flip j)) where
    record FlipsOver (u : Tableau) : Type 0 where
      next : Tableau
      over : flip_over_run None now v j ≡ Ok (state next basic pairs replaced_before)
      places : Places f next basic pairs
      after : IsTableauOf f.rows f.cols F (cost_at costs) b next
      done : flip_run None w j ≡ Ok next

    flips_over : (u : Tableau) → flip_run None w j ≡ Ok u → FlipsOver u
    unfolding flip_over_run flip_run
    flips_over u h =
        let o : Flipped None w j u = flip_out None w j u h in
        let to : Status = other_bound (flip_way (status_at w j)) in
        let after : IsTableauOf f.rows f.cols F (cost_at costs) b u =
        (choice_is_meant None f.rows f.cols F (cost_at costs) b w (Flip j) w_is inside chosen u h).after in
        let seen_j : Tableau = seen starts (bare_with t basic) j sight.column in
        let same : SameColumn seen_j w j = subst (λ v. SameColumn v w j) sight.sight sight.same in
        let run : flip_run None seen_j j ≡ Ok (flipped seen_j j to o.values) =
        ap (λ r. r >>= λ range. moved_run None seen_j j (directed (flip_way (status_at w j)) range) None >>=
        λ values. Ok (flipped seen_j j to values)) o.range_ok
        ∙ ap (λ r. r >>= λ values. Ok (flipped seen_j j to values))
        (moved_same None seen_j w j (directed (flip_way (status_at w j)) o.range) None same ∙ o.values_ok) in
        let after' : IsTableauOf f.rows f.cols F (cost_at costs) b (flipped w j to o.values) =
        subst (IsTableauOf f.rows f.cols F (cost_at costs) b) (sym o.is) after in
        record {
          next = flipped w j to o.values;
          over =
              ap (λ v. flip_run None v j >>= λ u. Ok (record now { bare = bare_of u })) sight.sight
              ∙ ap (λ r. r >>= λ u. Ok (record now { bare = bare_of u })) run;
          places = places_of f F (cost_at costs) b (flipped w j to o.values) pairs after' g.stands;
          after = after';
          done = h ∙ ap Ok (sym o.is);
        }

    pub flip_goes : (c : Choice ℚ) (u : Tableau) → SameChoice t w c (Flip j) → choice_run None t ≡ Ok c →
        done_run None t c ≡ Ok u → IsTableauOf f.rows f.cols F (cost_at costs) b u →
        (s : Revised) × (flip_over_run None now v j ≡ Ok s) × GoesWith f u s
    flip_goes c u same chosen_t done su =
        let a = there_is (flip_run None w j) (flip_agrees None w j) in
        let o : FlipsOver a.0 = flips_over a.0 a.1 in (
          state o.next basic pairs replaced_before,
          o.over,
          goes o.next u basic pairs replaced_before o.after su
              (next_statuses None None t w c (Flip j) u o.next same refl done o.done) o.places,
        )

  -- a pivot
  module _ (p j : ℕ) (theta : ℚ) (to : Status) (v : Tableau)
      (sight : Sees f starts costs b t st few basic pairs g None j v)
      (chosen : choice_run None w ≡ Ok (Pivot p j theta to)) where
    by_rule : ChosenPivot b w p j
    by_rule = chosen_pivot f.rows f.cols F (cost_at costs) b w w_is inside None p j theta to chosen

    p_in : p < f.rows
    p_in = subst (λ n. p < n) w_is.rows by_rule.pivots.position

    abbrev seen_j : Tableau
    seen_j = seen starts (bare_with t basic) j sight.column

    same_j : SameColumn seen_j w j
    same_j = subst (λ v. SameColumn v w j) sight.sight sight.same

    not_zero : read sight.column p ≢ 0ℚ
    not_zero e =
        entry_not_zero w.rows (all_columns w) F (cost_at costs) b (table_of w)
        (own_table f.rows f.cols F (cost_at costs) b w w_is) by_rule.way j p by_rule.ratio by_rule.to by_rule.pivots
        (sym (same_j.entries p by_rule.pivots.position)
        ∙ seen_at f starts costs b t st few basic pairs g j sight.column p p_in
        ∙ ap (λ a. sign_of starts t (get_or basic p 0) *ℚ a) e ∙ *ℚ_zero _)

    abbrev new_pairs : List Pair
    new_pairs = with_pair pairs p sight.column

    replace_ok : replace_run None f.rows (factors_at now) p j (column_of f j)
        ≡ Ok (record { pairs = new_pairs; basic = set basic p j })
    unfolding replace_run
    replace_ok = ap (λ o. o >>= λ v. Ok (record { pairs = with_pair pairs p v; basic = set basic p j })) sight.ftran

    new_stands : StandsFor f.rows new_pairs (basis_of f (map (λ k. factor_column t k) (set basic p j)))
    new_stands =
        stands_as f.rows new_pairs (with_column (basis_of f (map (λ k. factor_column t k) basic)) p (column_of f j))
        (basis_of f (map (λ k. factor_column t k) (set basic p j)))
        ((replaced f.rows (basis_of f (map (λ k. factor_column t k) basic)) None (factors_at now)
        (record { pairs = new_pairs; basic = set basic p j }) p j (column_of f j) g.stands p_in
        (length-made f.rows (λ i. column_entry f i j)) entry replace_ok).stand)
        columns
      where
        entry : (z : List ℚ) →
            SolvesColumns f.rows (basis_of f (map (λ k. factor_column t k) basic)) (column_of f j) z → read z p ≢ 0ℚ
        entry z s e =
            not_zero (sym
            ((ftran_solves f.rows pairs (basis_of f (map (λ k. factor_column t k) basic)) g.stands None (column_of f j)
            sight.column (length-made f.rows (λ i. column_entry f i j)) sight.ftran).only (read z) s.solves p p_in) ∙ e)

        columns : (r q : ℕ) → r < f.rows → q < f.rows →
            with_column (basis_of f (map (λ k. factor_column t k) basic)) p (column_of f j) r q
            ≡ basis_of f (map (λ k. factor_column t k) (set basic p j)) r q
        columns r q l h =
            by_eq q p
            (λ d. subst (λ q. with_column (basis_of f (map (λ k. factor_column t k) basic)) p (column_of f j) r q
            ≡ basis_of f (map (λ k. factor_column t k) (set basic p j)) r q) (sym d)
            (at_own r ∙ get_or-made f.rows (λ i. column_entry f i j) r 0ℚ l
            ∙ ap (column_entry f r) (sym
            (new_at p p_in ∙ ap (factor_column t) (get_or-set_same basic p j 0 (subst (λ n. p < n) (sym g.all) p_in))
            ∙ plain_column f starts t st.rows st.cols j sight.before))))
            (λ d. at_other r q d
            ∙ ap (column_entry f r) (get_or-map (λ k. factor_column t k) basic q 0 0 (subst (λ n. q < n) (sym g.all) h)
            ∙ ap (factor_column t) (sym (get_or-set_other basic p q j 0 d)) ∙ sym (new_at q h)))
          where
            new_at : (q : ℕ) → q < f.rows →
                get_or (map (λ k. factor_column t k) (set basic p j)) q 0 ≡ factor_column t (get_or (set basic p j) q 0)
            new_at q h =
                get_or-map (λ k. factor_column t k) (set basic p j) q 0 0
                (subst (λ n. q < n) (sym (length-set basic p j ∙ g.all)) h)

            at_own : (r : ℕ) →
                with_column (basis_of f (map (λ k. factor_column t k) basic)) p (column_of f j) r p
                ≡ read (column_of f j) r
            at_own r = rw (eq-eqb p p refl) refl

            at_other : (r q : ℕ) → q ≢ p →
                with_column (basis_of f (map (λ k. factor_column t k) basic)) p (column_of f j) r q
                ≡ basis_of f (map (λ k. factor_column t k) basic) r q
            at_other r q d = rw (ne_eqb q p d) refl

    record PivotsOver : Type 0 where
      next : Tableau
      over : exchange_run None f now v p j theta to ≡ Ok (state next (set basic p j) new_pairs (suc replaced_before))
      places : Places f next (set basic p j) new_pairs
      after : IsTableauOf f.rows f.cols F (cost_at costs) b next
      done : pivot_run None w p j theta to ≡ Ok next

    pivots_over : (u : Tableau) → pivot_run None w p j theta to ≡ Ok u → PivotsOver
    unfolding exchange_run
    pivots_over u h =
        let o : Pivoted None w p j theta to u = pivot_out None w p j theta to u h in
        let next : Tableau = exchanged (turned w o.shifted o.rows o.reduced) p j to in
        let after : IsTableauOf f.rows f.cols F (cost_at costs) b u =
        (choice_is_meant None f.rows f.cols F (cost_at costs) b w (Pivot p j theta to) w_is inside chosen u h).after in
        let after' : IsTableauOf f.rows f.cols F (cost_at costs) b next =
        subst (IsTableauOf f.rows f.cols F (cost_at costs) b) (sym o.is) after in
        let replace' : replace_run None t.rows (factors_at now) p j (column_of f j)
        ≡ Ok (record { pairs = new_pairs; basic = set basic p j }) =
        subst (λ m. replace_run None m (factors_at now) p j (column_of f j)
        ≡ Ok (record { pairs = new_pairs; basic = set basic p j })) (sym st.rows) replace_ok in
        record {
          next = next;
          over =
              ap (λ v. exchange_run None f now v p j theta to) sight.sight
              ∙ ap (λ r. r >>= λ values. shifted_run None values j theta >>=
              λ shifted. replace_run None t.rows (factors_at now) p j (column_of f j) >>= λ factors.
              Ok (record {
                bare = exchanged (turned (bare_with t basic) shifted [] []) p j to;
                pairs = factors.pairs;
                replaced = suc replaced_before;
              }))
              (moved_same None seen_j w j theta (Some p) same_j ∙ o.values_ok)
              ∙ ap (λ r. r >>= λ shifted. replace_run None t.rows (factors_at now) p j (column_of f j) >>= λ factors.
              Ok (record {
                bare = exchanged (turned (bare_with t basic) shifted [] []) p j to;
                pairs = factors.pairs;
                replaced = suc replaced_before;
              }))
              o.shifted_ok
              ∙ ap (λ r. r >>= λ factors. Ok (record {
                bare = exchanged (turned (bare_with t basic) o.shifted [] []) p j to;
                pairs = factors.pairs;
                replaced = suc replaced_before;
              })) replace';
          places = places_of f F (cost_at costs) b next new_pairs after' new_stands;
          after = after';
          done = h ∙ ap Ok (sym o.is);
        }

    pub pivot_goes : (c : Choice ℚ) (u : Tableau) → SameChoice t w c (Pivot p j theta to) → choice_run None t ≡ Ok c →
        done_run None t c ≡ Ok u → IsTableauOf f.rows f.cols F (cost_at costs) b u →
        (s : Revised) × (exchange_run None f now v p j theta to ≡ Ok s) × GoesWith f u s
    pivot_goes c u same chosen_t done su =
        let a = there_is (pivot_run None w p j theta to) (pivot_agrees None w p j theta to) in
        let o : PivotsOver = pivots_over a.0 a.1 in (
          state o.next (set basic p j) new_pairs (suc replaced_before),
          o.over,
          goes o.next u (set basic p j) new_pairs (suc replaced_before) o.after su
              (next_statuses None None t w c (Pivot p j theta to) u o.next same refl done o.done) o.places,
        )
