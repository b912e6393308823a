-- Without a limit, steps over factors end as steps on whole tableaus do.
use Rattle.std.proofs.Common.{◌≡◌, ℕ, zero, suc, ◌+◌, ◌<◌, ◌≤◌, List, length, None, Result}
use Rattle.std.proofs.Common.{Ok, Err, Bool, true, false, cond, nat_eq, refl, ap, ◌∙◌, subst}
use Rattle.spec_exact.specs.Fraction.{ℚ, 0ℚ}
use Rattle.spec_pivot.specs.Simplex.{Bounds}
use Rattle.spec_simplex.specs.declared.ends.RowStart.{RowStart}
use Rattle.spec_simplex.specs.declared.ends.PrimalEnd.{PrimalEnd}
use Rattle.spec_simplex.specs.declared.ends.Choice.{Choice}
use Rattle.spec_simplex.specs.declared.ends.Choice.TheVariants.{End, Flip, Pivot}
use Rattle.spec_simplex.specs.declared.ends.RunStop.{RunStop}
use Rattle.spec_simplex.specs.declared.ends.RunStop.TheVariants as stop
use Rattle.spec_simplex.specs.Form.{Form}
use Rattle.spec_exact.specs.Run.{◌>>=◌, refused_as}
use Rattle.spec_simplex.specs.Start.{cost_at}
use Rattle.spec_simplex.specs.Tableau.{Tableau}
use Rattle.spec_simplex.specs.Step.{choice_run, flip_run, pivot_run}
use Rattle.spec_simplex.specs.Phases.{PrimalEnded, end_or_spent, end_or_next, run_from, done_run}
use Rattle.spec_simplex.specs.Tables.{IsTableauOf, IsWithinBounds}
use Rattle.spec_simplex.specs.Begins.{form_rows, signs_of}
use Rattle.spec_runs.specs.Cold.{multipliers, certificate_at}
use Rattle.spec_simplex.proofs.LimitStart.{choice_agrees, flip_agrees, pivot_agrees}
use Rattle.spec_simplex.proofs.LeastIndexSteps.{choice_is_meant}
use Rattle.spec_factor.specs.Factors.{Pair}
use Rattle.spec_factor.specs.Revised.{Revised, replacements, refreshed_run, refactor_run, Selection, selection_run}
use Rattle.spec_factor.specs.Over.{RevisedEnded, over_or_spent, over_or_next, over_from, negatives, over_certificate}
use Rattle.spec_factor.specs.Same.{SameChoice, Places, state, GoesWith}
use Rattle.spec_factor.proofs.SameChoices.{same_choice}
use Rattle.spec_factor.proofs.Selection.{W, W_is, SelectionRuns, selection_ok, SeesFor}
use Rattle.spec_factor.proofs.OverSteps.{there_is, flip_goes, pivot_goes}
use Rattle.spec_factor.proofs.OverLimits.{selection_agrees}
use Rattle.spec_factor.proofs.Refactor.{refactored_goes}
use Rattle.spec_factor.proofs.SameEnds.{negatives_are, certificate_same}

module _ (f : Form) (starts : List (RowStart ℚ)) (costs : List ℚ)
    (b : Bounds) (few : length costs ≤ f.cols + f.rows + f.rows)
    (free : (i : ℕ) → i < f.rows → cost_at costs (f.cols + i) ≡ 0ℚ) where
  abbrev Is : Tableau → Type 0
  Is t =
      IsTableauOf f.rows f.cols (form_rows f (signs_of starts)) (cost_at costs) b t × IsWithinBounds f.rows f.cols b t

  -- ---- the same end
  pub record SameEnd (e : PrimalEnded) (o : RevisedEnded) : Type 0 where
    pub after : Is e.tableau
    pub end : o.end ≡ e.end
    pub used : o.used ≡ e.used
    pub goes : GoesWith f e.tableau o.state
    pub certificate : over_certificate o.state.bare o.selection o.end ≡ certificate_at e.tableau e.end
    pub multipliers : negatives o.state.bare.rows o.selection.multipliers ≡ multipliers e.tableau

  pub data Both (r : Result PrimalEnded (RunStop ℚ)) (q : Result RevisedEnded (RunStop ℚ)) : Type 0 where
    ended : (e : PrimalEnded) (o : RevisedEnded) → r ≡ Ok e → q ≡ Ok o → SameEnd e o → Both r q
    spent : r ≡ Err stop.Spent → q ≡ Err stop.Spent → Both r q

  both_as : (r s : Result PrimalEnded (RunStop ℚ)) (p q : Result RevisedEnded (RunStop ℚ)) → r ≡ s → p ≡ q → Both s q →
      Both r p
  both_as r s p q x y (ended e o h k z) = ended e o (x ∙ h) (y ∙ k) z
  both_as r s p q x y (spent h k) = spent (x ∙ h) (y ∙ k)

  -- ---- a step of a state
  module _ (t : Tableau) (st : Is t) (basic : List ℕ) (pairs : List Pair)
      (replaced : ℕ) (g : Places f t basic pairs) where
    abbrev now : Revised
    now = state t basic pairs replaced

    abbrev w : Tableau
    w = W f starts costs b t st.0 few basic pairs g

    module _ (c : Choice ℚ) (c_ok : choice_run None t ≡ Ok c) (selection : Selection)
        (l : SelectionRuns f starts costs b t st.0 few basic pairs g None selection) where
      same : SameChoice t w c selection.choice
      same =
          same_choice f.rows f.cols (form_rows f (signs_of starts)) (cost_at costs) b t w st.0
          (W_is f starts costs b t st.0 few basic pairs g) (λ k _. refl) None None c selection.choice c_ok l.choice

      sees : (d : Choice ℚ) → selection.choice ≡ d →
          SeesFor f starts costs b t st.0 few basic pairs g None d selection.tableau
      sees d e = subst (λ d. SeesFor f starts costs b t st.0 few basic pairs g None d selection.tableau) e l.sees

      at_end : (used : ℕ) (end : PrimalEnd) → c ≡ End end → selection.choice ≡ End end
          → Both (Ok (record { end = end; tableau = t; used = used }))
          (Ok (record { end = end; state = now; selection = selection; used = used }))
      at_end used end e d =
          ended (record { end = end; tableau = t; used = used })
          (record { end = end; state = now; selection = selection; used = used }) refl refl (record {
            after = st;
            end = refl;
            used = refl;
            goes = record { basic = basic; pairs = pairs; replaced = replaced; same = refl; places = g };
            certificate =
                certificate_same f starts costs b t st.0 st.1 few free basic pairs g selection end l (c_ok ∙ ap Ok e) d;
            multipliers =
                negatives_are f starts costs b t st.0 st.1 few free basic pairs g selection.multipliers l.multipliers;
          })

      -- where no budget is left
      pub none_left : (used : ℕ) → Both (end_or_spent t used c) (over_or_spent now used selection selection.choice)
      none_left used = by c refl same
        where
          by : (d : Choice ℚ) → c ≡ d → SameChoice t w d selection.choice →
              Both (end_or_spent t used d) (over_or_spent now used selection selection.choice)
          by (End end) e s = both_as _ _ _ _ refl (ap (over_or_spent now used selection) s) (at_end used end e s)
          by (Flip j) e s = spent refl (ap (over_or_spent now used selection) s)
          by (Pivot p j theta to) e s = spent refl (ap (over_or_spent now used selection) s.3)

      -- factors are taken anew in time
      refreshed : (u : Tableau) (s : Revised) → Is u → GoesWith f u s →
          (v : Revised) × (refreshed_run None f s ≡ Ok v) × GoesWith f u v
      refreshed u s su h = by (nat_eq s.replaced replacements)
        where
          by : (test : Bool) → (v : Revised) × (cond test (refactor_run None f s.bare) (Ok s) ≡ Ok v) × GoesWith f u v
          by true = refactored_goes f u s su.0.rows su.0.cols h
          by false = (s, refl, h)

      -- with one more step
      pub one_more : (used : ℕ) (r : Tableau → Result PrimalEnded (RunStop ℚ))
          (q : Revised → Result RevisedEnded (RunStop ℚ)) →
          ((u : Tableau) (s : Revised) → Is u → GoesWith f u s → Both (r u) (q s))
          → Both (end_or_next None t used r c) (over_or_next None f now used q selection selection.choice)
      one_more used r q more = by c refl same
        where
          after : (u : Tableau) (d : Choice ℚ) → c ≡ d → done_run None t d ≡ Ok u → Is u
          after u (End end) e h = let z : t ≡ u = cc in subst Is z st
          after u (Flip j) e h =
              let o =
              choice_is_meant None f.rows f.cols (form_rows f (signs_of starts))
              (cost_at costs) b t (Flip j) st.0 st.1 (c_ok ∙ ap Ok e) u h in (o.after, o.within)
          after u (Pivot p j theta to) e h =
              let o =
              choice_is_meant None f.rows f.cols (form_rows f (signs_of starts))
              (cost_at costs) b t (Pivot p j theta to) st.0 st.1 (c_ok ∙ ap Ok e) u h in (o.after, o.within)

          by : (d : Choice ℚ) → c ≡ d → SameChoice t w d selection.choice →
              Both (end_or_next None t used r d) (over_or_next None f now used q selection selection.choice)
          by (End end) e s =
              both_as _ _ _ _ refl (ap (over_or_next None f now used q selection) s) (at_end used end e s)
          by (Flip j) e s =
              let a = there_is (flip_run None t j) (flip_agrees None t j) in
              let su : Is a.0 = after a.0 (Flip j) e a.1 in
              let o =
              flip_goes f starts costs b t st.0 st.1 few basic pairs g replaced j selection.tableau
              (sees (Flip j) s) (l.choice ∙ ap Ok s) (Flip j) a.0 refl (c_ok ∙ ap Ok e) a.1 su.0 in
              both_as _ _ _ _
              (ap (λ x. refused_as stop.Past x >>= r) a.1)
              (ap (over_or_next None f now used q selection) s ∙ ap (λ x. refused_as stop.Past x >>= q) o.1)
              (more a.0 o.0 su o.2)
          by (Pivot p j theta to) e s =
              let a = there_is (pivot_run None t p j theta to) (pivot_agrees None t p j theta to) in
              let su : Is a.0 = after a.0 (Pivot p j theta to) e a.1 in
              let o =
              pivot_goes f starts costs b t st.0 st.1 few basic pairs g replaced s.0 j theta to selection.tableau
              (sees (Pivot s.0 j theta to) s.3) (l.choice ∙ ap Ok s.3) (Pivot p j theta to) a.0
              (s.0, s.1, s.2, refl) (c_ok ∙ ap Ok e) a.1 su.0 in
              let v = refreshed a.0 o.0 su o.2 in
              both_as _ _ _ _
              (ap (λ x. refused_as stop.Past x >>= r) a.1)
              (ap (over_or_next None f now used q selection) s.3
              ∙ ap (λ x. (refused_as stop.Past x >>= λ u. refreshed_run None f u) >>= q) o.1 ∙ ap (λ x. x >>= q) v.1)
              (more a.0 v.0 su v.2)

    pub chosen : (c : Choice ℚ) × (choice_run None t ≡ Ok c)
    chosen = there_is (choice_run None t) (choice_agrees None t)

    pub selected : (selection : Selection) × (selection_run None f starts costs now ≡ Ok selection)
        × SelectionRuns f starts costs b t st.0 few basic pairs g None selection
    selected =
        let a = there_is (selection_run None f starts costs now) (selection_agrees None f starts costs now) in
        (a.0, a.1, selection_ok f starts costs b t st.0 few basic pairs g None replaced a.0 a.1)

  -- ---- all steps
  pub run_same : (left used : ℕ) (t : Tableau) (s : Revised) → Is t → GoesWith f t s →
      Both (run_from None left used t) (over_from None f starts costs left used s)
  unfolding run_from over_from
  run_same zero used t s st g =
      let c = chosen t st g.basic g.pairs g.replaced g.places in
      let l = selected t st g.basic g.pairs g.replaced g.places in
      both_as _ _ _ _
      (ap (λ o. refused_as stop.Past o >>= end_or_spent t used) c.1)
      (ap (λ s. refused_as stop.Past (selection_run None f starts costs s) >>=
      λ selection. over_or_spent s used selection selection.choice) g.same
      ∙ ap (λ o. refused_as stop.Past o >>=
      λ selection. over_or_spent (state t g.basic g.pairs g.replaced) used selection selection.choice) l.1)
      (none_left t st g.basic g.pairs g.replaced g.places c.0 c.1 l.0 l.2 used)
  run_same (suc left) used t s st g =
      let c = chosen t st g.basic g.pairs g.replaced g.places in
      let l = selected t st g.basic g.pairs g.replaced g.places in
      both_as _ _ _ _
      (ap (λ o. refused_as stop.Past o >>= end_or_next None t used (λ u. run_from None left (used + 1) u)) c.1)
      (ap (λ s. refused_as stop.Past (selection_run None f starts costs s) >>= λ selection. over_or_next None f s used
      (λ u. over_from None f starts costs left (used + 1) u) selection selection.choice) g.same
      ∙ ap (λ o. refused_as stop.Past o >>= λ selection. over_or_next None f (state t g.basic g.pairs g.replaced) used
      (λ u. over_from None f starts costs left (used + 1) u) selection selection.choice) l.1)
      (one_more t st g.basic g.pairs g.replaced g.places c.0 c.1 l.0 l.2 used
      (λ u. run_from None left (used + 1) u) (λ u. over_from None f starts costs left (used + 1) u)
      (λ u v su h. run_same left (used + 1) u v su h))
