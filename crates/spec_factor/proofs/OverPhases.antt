-- Without a limit, the cold run over factors ends as the one on whole tableaus does.
use Rattle.std.proofs.Common.{◌≡◌, ℕ, ◌+◌, ◌-◌, ◌<◌, ◌≤◌, List, [], length, get_or, map, Option, None}
use Rattle.std.proofs.Common.{Result, Ok, Bool, true, false, not, ◌&&◌, cond, refl, sym, ap, ap₂, ◌∙◌, subst, arith}
use Rattle.std.proofs.lemmas.List.{get_or-map}
use Rattle.std.proofs.lemmas.List.Elements.{All-nil}
use Rattle.std.specs.List.{list_any}
use Rattle.std.proofs.lemmas.List.Folds.{list_any_at}
use Rattle.spec_exact.specs.Fraction.{ℚ, 0ℚ, eq_ℚ}
use Rattle.spec_check.specs.declared.certificate.Certificate.{Certificate}
use Rattle.spec_check.specs.declared.certificate.Certificate.TheVariants as certificate
use Rattle.spec_pivot.specs.declared.status.Status.{Status}
use Rattle.spec_pivot.specs.Simplex.{Bounds}
use Rattle.spec_pivot.proofs.Ray.{delta_sym}
use Rattle.spec_simplex.specs.declared.ends.RowStart.{RowStart}
use Rattle.spec_simplex.specs.declared.ends.RowStart.TheVariants.{Within}
use Rattle.spec_simplex.specs.declared.ends.PrimalEnd.TheVariants.{Optimal}
use Rattle.spec_simplex.specs.declared.ends.RunStop.{RunStop}
use Rattle.spec_simplex.specs.declared.ends.RunStop.TheVariants as stop
use Rattle.spec_simplex.specs.Form.{Form}
use Rattle.spec_exact.specs.Run.{◌>>=◌, refused_as, list_run}
use Rattle.spec_simplex.specs.Start.{row_start, begun, is_wanting, start_at, start_basic, with_reduced}
use Rattle.spec_simplex.specs.Start.{cost_at, first_costs, priced_run, start_of}
use Rattle.spec_simplex.specs.Tableau.{Tableau, is_artificial, basic_at, value_at}
use Rattle.spec_simplex.specs.Phases.{PrimalEnded, run_from, without_artificials, phase_two_run, wants_phase_one}
use Rattle.spec_simplex.specs.Phases.{is_stuck, phase_one, phase_two, PhasesEnd, Infeasible, Finished, phases_run}
use Rattle.spec_simplex.specs.Tables.{bounds_of, IsTableauOf, IsWithinBounds}
use Rattle.spec_simplex.specs.Begins.{form_rows, signs_of, IsProper}
use Rattle.spec_runs.specs.Cold.{multipliers, basis_at, certificate_at}
use Rattle.spec_simplex.proofs.RunParts.{then_ok, IsListOf, list_ok, get_or-made}
use Rattle.spec_simplex.proofs.Refusals.{agrees_list}
use Rattle.spec_simplex.proofs.LimitStart.{row_start_agrees, priced_agrees}
use Rattle.spec_simplex.proofs.LimitPhases.{two_agrees}
use Rattle.spec_simplex.proofs.RowStarts.{RowBegins, first_sum, start_is}
use Rattle.spec_simplex.proofs.FirstPhase.{cost_before}
use Rattle.spec_simplex.proofs.FirstTableau.{first_few, begun_is, begun_within}
use Rattle.spec_simplex.proofs.PhaseTwo.{some_of, second_phase}
use Rattle.spec_factor.specs.Factors.{Pair, column_entry}
use Rattle.spec_factor.specs.Basis.{IsPair, StandsFor, basis_of}
use Rattle.spec_factor.specs.Revised.{Revised, bare_of, factor_column, refactor_run}
use Rattle.spec_factor.specs.Over.{RevisedEnded, over_from, nothing_seen, second_state, OverEnd, negatives}
use Rattle.spec_factor.specs.Over.{stuck_answer, end_answer, over_two, over_phases, over_run, answer_of, answer_in}
use Rattle.spec_factor.specs.Same.{Places, bare_with, state, GoesWith, HasCosts}
use Rattle.spec_factor.proofs.FactoredTableau.{plain_column, column_logical}
use Rattle.spec_factor.proofs.OverSteps.{there_is, places_of}
use Rattle.spec_factor.proofs.Refactor.{by_factor, refactored_goes}
use Rattle.spec_factor.proofs.SameEnds.{basis_same}
use Rattle.spec_factor.proofs.OverRuns.{SameEnd, Both, ended, spent, run_same}

-- ---- tests of the basic columns, in whatever order these come

-- two tests of which each holds where the other does are the same
true_where : (c d : Bool) → (c ≡ true → d ≡ true) → (d ≡ true → c ≡ true) → c ≡ d
true_where true d f g = sym (f refl)
true_where false true f g = g refl
true_where false false f g = refl

-- where each of xs is one of ys, and some of xs passes a test, some of ys passes it
any_in : (test : ℕ → Bool) (xs ys : List ℕ) →
    ((i : ℕ) → i < length xs → (j : ℕ) × (j < length ys) × (get_or ys j 0 ≡ get_or xs i 0)) → list_any test xs ≡ true →
    list_any test ys ≡ true
any_in test xs ys h e =
    let o = some_of test xs 0 e in
    let p = h o.0 o.1 in
    list_any_at test ys p.0 0 p.1 (ap test p.2 ∙ o.2)

module _ (f : Form) (F : ℕ → ℕ → ℚ) (cost : ℕ → ℚ) (b : Bounds) (t : Tableau)
    (st : IsTableauOf f.rows f.cols F cost b t) (basic : List ℕ) (pairs : List Pair) (g : Places f t basic pairs) where
  same_any : (test : ℕ → Bool) → list_any test basic ≡ list_any test t.basic
  same_any test =
      true_where _ _
      (any_in test basic t.basic (λ i l. let l' : i < f.rows = subst (λ n. i < n) g.all l in
      let p =
      st.tableau.placed (get_or basic i 0)
      (subst (λ n. get_or basic i 0 < n) (ap₂ (λ m n. n + m + m) st.rows st.cols) (g.in_range i l')) (g.marked i l') in
      (p.0, subst (λ n. p.0 < n) (sym (st.whole.all_basic ∙ st.rows)) p.1, p.2)))
      (any_in test t.basic basic (λ i l. let l' : i < f.rows = subst (λ n. i < n) (st.whole.all_basic ∙ st.rows) l in
      let p =
      g.placed (basic_at t i)
      (subst (λ n. basic_at t i < n) (sym (ap₂ (λ m n. n + m + m) st.rows st.cols)) (st.tableau.in_range i l'))
      (st.tableau.marked i l') in
      (p.0, subst (λ n. p.0 < n) (sym g.all) p.1, p.2)))

  pub same_wants : wants_phase_one (bare_with t basic) ≡ wants_phase_one t
  same_wants = same_any (λ k. is_artificial t k)

  pub same_stuck : is_stuck (bare_with t basic) ≡ is_stuck t
  same_stuck = same_any (λ k. is_artificial t k && not (eq_ℚ (value_at t k) 0ℚ))

-- a tableau that `is_stuck` has an artificial column among its basic columns
wants_where_stuck : (t : Tableau) → is_stuck t ≡ true → wants_phase_one t ≡ true
wants_where_stuck t e =
    let o = some_of (λ k. is_artificial t k && not (eq_ℚ (value_at t k) 0ℚ)) t.basic 0 e in
    list_any_at (λ k. is_artificial t k) t.basic o.0 0 o.1
    (left (is_artificial t (basic_at t o.0)) (not (eq_ℚ (value_at t (basic_at t o.0)) 0ℚ)) o.2)
  where
    left : (a c : Bool) → a && c ≡ true → a ≡ true
    left true c h = refl
    left false c h = h

module _ (f : Form) (starts : List (RowStart ℚ)) (costs : HasCosts f) (budget : ℕ) where
  few : length f.cost ≤ f.cols + f.rows + f.rows
  few = omega (arith, costs.all)

  -- ---- phase two
  -- what is known of the end of phase one
  record FirstEnd (e : PrimalEnded) (o : RevisedEnded) : Type 0 where
    costs_there : ℕ → ℚ
    bounds : Bounds
    after : IsTableauOf f.rows f.cols (form_rows f (signs_of starts)) costs_there bounds e.tableau
    within : IsWithinBounds f.rows f.cols bounds e.tableau
    used : o.used ≡ e.used
    goes : GoesWith f e.tableau o.state
    stuck : is_stuck e.tableau ≡ true → negatives o.state.bare.rows o.selection.multipliers ≡ multipliers e.tableau

  abbrev after_first : PrimalEnded → Result PhasesEnd (RunStop ℚ)
  after_first e = cond (is_stuck e.tableau) (Ok (Infeasible e.tableau e.used)) (phase_two None budget f e)

  abbrev after_over : RevisedEnded → Result OverEnd (RunStop ℚ)
  after_over o = cond (is_stuck o.state.bare) (Ok (stuck_answer o)) (over_two None budget f starts o)

  end_same : (b : Bounds) (e : PrimalEnded) (o : RevisedEnded) → SameEnd f starts f.cost b few costs.free e o →
      end_answer o ≡ answer_of (Finished e)
  end_same b e o s =
      ap₂ (λ (c : Certificate (List ℚ)) p. record { certificate = c; basis = basis_at o.state.bare o.end; pivots = p })
      s.certificate s.used
      ∙ ap (λ (basis : Option (List Status)).
      record { certificate = certificate_at e.tableau e.end; basis = basis; pivots = e.used })
      (ap₂ (λ (s : Revised) end. basis_at s.bare end) s.goes.same s.end ∙ basis_same e.tableau s.goes.basic e.end)

  next_goes : (e : PrimalEnded) (o : RevisedEnded) → FirstEnd e o → (t : Tableau) →
      phase_two_run None f e.tableau ≡ Ok t → GoesWith f t (second_state o.state)
  unfolding phase_two_run
  next_goes e o h t ok =
      let a = then_ok (priced_run None (without_artificials e.tableau) f.cost) _ t ok in
      let z : with_reduced (without_artificials e.tableau) a.0 ≡ t = cc in
      let g : Places f e.tableau h.goes.basic h.goes.pairs = h.goes.places in
      subst (λ t. GoesWith f t (second_state o.state)) z (record {
        basic = h.goes.basic;
        pairs = h.goes.pairs;
        replaced = h.goes.replaced;
        same = ap second_state h.goes.same;
        places = record { all = g.all; in_range = g.in_range; marked = g.marked; placed = g.placed; stands = g.stands };
      })

  two_same : (e : PrimalEnded) (o : RevisedEnded) → FirstEnd e o → is_stuck e.tableau ≡ false →
      over_two None budget f starts o ≡ answer_in (phase_two None budget f e)
  two_same e o h free =
      let a = there_is (phase_two_run None f e.tableau) (two_agrees None f e.tableau) in
      let second =
      second_phase None f f.rows f.cols
      (form_rows f (signs_of starts)) h.costs_there h.bounds e.tableau a.0 h.after h.within free few a.1 in
      let goes : GoesWith f a.0 (second_state o.state) = next_goes e o h a.0 a.1 in
      by a.0 (run_same f starts f.cost (bounds_of a.0) few costs.free
      (budget - e.used) e.used a.0 (second_state o.state) (second.tableau, second.within) goes)
      ∙ sym (ap (λ r. answer_in
      (refused_as stop.Past r >>= λ t. run_from None (budget - e.used) e.used t >>= λ two. Ok (Finished two))) a.1)
    where
      by : (t : Tableau) →
          Both f starts f.cost (bounds_of t) few costs.free (run_from None (budget - e.used) e.used t)
          (over_from None f starts f.cost (budget - e.used) e.used (second_state o.state))
          → over_two None budget f starts o
          ≡ answer_in (run_from None (budget - e.used) e.used t >>= λ two. Ok (Finished two))
      by t (ended e2 o2 p q s) =
          ap (λ u. over_from None f starts f.cost (budget - u) u (second_state o.state) >>= λ two. Ok (end_answer two))
          h.used
          ∙ ap (λ r. r >>= λ two. Ok (end_answer two)) q
          ∙ ap Ok (end_same (bounds_of t) e2 o2 s)
          ∙ sym (ap (λ r. answer_in (r >>= λ two. Ok (Finished two))) p)
      by t (spent p q) =
          ap (λ u. over_from None f starts f.cost (budget - u) u (second_state o.state) >>= λ two. Ok (end_answer two))
          h.used
          ∙ ap (λ r. r >>= λ two. Ok (end_answer two)) q
          ∙ sym (ap (λ r. answer_in (r >>= λ two. Ok (Finished two))) p)

  first_same : (e : PrimalEnded) (o : RevisedEnded) → FirstEnd e o → after_over o ≡ answer_in (after_first e)
  first_same e o h =
      ap (λ c. cond c (Ok (stuck_answer o)) (over_two None budget f starts o))
      (ap (λ (s : Revised). is_stuck s.bare) h.goes.same ∙ same_stuck f
      (form_rows f (signs_of starts)) h.costs_there h.bounds e.tableau h.after h.goes.basic h.goes.pairs h.goes.places)
      ∙ by (is_stuck e.tableau) refl
    where
      by : (c : Bool) → is_stuck e.tableau ≡ c →
          cond c (Ok (stuck_answer o)) (over_two None budget f starts o)
          ≡ answer_in (cond c (Ok (Infeasible e.tableau e.used)) (phase_two None budget f e))
      by true z =
          ap₂ (λ y p. Ok (record { certificate = certificate.Infeasible y; basis = None; pivots = p }))
          (h.stuck z) h.used
      by false z = two_same e o h z

  -- ---- both phases, from a start
  module _ (all : length starts ≡ f.rows) (b : Bounds) (t : Tableau)
      (st : IsTableauOf f.rows f.cols (form_rows f (signs_of starts)) (cost_at (first_costs f starts)) b t)
      (inside : IsWithinBounds f.rows f.cols b t) (s : Revised) (g : GoesWith f t s) where
    first_free : (i : ℕ) → i < f.rows → cost_at (first_costs f starts) (f.cols + i) ≡ 0ℚ
    first_free i l = cost_before f starts (f.cols + i) (omega (arith, l))

    pub phases_same : over_phases None budget f starts s
        ≡ answer_in (phase_one None budget t >>= λ one. after_first one)
    phases_same =
        ap (λ c. cond c (over_from None f starts (first_costs f starts) budget 0 s)
        (Ok (record { end = Optimal; state = s; selection = nothing_seen s; used = 0 })) >>= λ one. after_over one)
        (ap (λ (s : Revised). wants_phase_one s.bare) g.same
        ∙ same_wants f (form_rows f (signs_of starts)) (cost_at (first_costs f starts)) b t st g.basic g.pairs g.places)
        ∙ by (wants_phase_one t) refl
      where
        wanted : Both f starts (first_costs f starts) b (first_few f starts all) first_free
            (run_from None budget 0 t) (over_from None f starts (first_costs f starts) budget 0 s)
            → (over_from None f starts (first_costs f starts) budget 0 s >>= λ one. after_over one)
            ≡ answer_in (run_from None budget 0 t >>= λ one. after_first one)
        wanted (ended e o p q z) =
            ap (λ r. r >>= λ one. after_over one) q
            ∙ first_same e o (record {
              costs_there = cost_at (first_costs f starts);
              bounds = b;
              after = z.after.0;
              within = z.after.1;
              used = z.used;
              goes = z.goes;
              stuck = λ _. z.multipliers;
            })
            ∙ sym (ap (λ r. answer_in (r >>= λ one. after_first one)) p)
        wanted (spent p q) =
            ap (λ r. r >>= λ one. after_over one) q ∙ sym (ap (λ r. answer_in (r >>= λ one. after_first one)) p)

        by : (c : Bool) → wants_phase_one t ≡ c
            → (cond c (over_from None f starts (first_costs f starts) budget 0 s)
            (Ok (record { end = Optimal; state = s; selection = nothing_seen s; used = 0 })) >>= λ one. after_over one)
            ≡ answer_in (cond c (run_from None budget 0 t) (Ok (record { end = Optimal; tableau = t; used = 0 })) >>=
            λ one. after_first one)
        by true e =
            wanted (run_same f starts (first_costs f starts) b (first_few f starts all) first_free
            budget 0 t s (st, inside) g)
        by false e =
            first_same (record { end = Optimal; tableau = t; used = 0 })
            (record { end = Optimal; state = s; selection = nothing_seen s; used = 0 }) (record {
              costs_there = cost_at (first_costs f starts);
              bounds = b;
              after = st;
              within = inside;
              used = refl;
              goes = g;
              stuck = λ z. let y : true ≡ false = sym (wants_where_stuck t z) ∙ e in cc;
            })

-- ---- the start: the factors of all logicals stand for it, and no pairs do
module _ (f : Form) (F : ℕ → ℕ → ℚ) (cost : ℕ → ℚ) (b : Bounds)
    (t : Tableau) (st : IsTableauOf f.rows f.cols F cost b t)
    (at_row : (p : ℕ) → p < f.rows → factor_column t (basic_at t p) ≡ f.cols + p) where
  none_stand : StandsFor f.rows [] (basis_of f (map (λ k. factor_column t k) t.basic))
  none_stand = record {
    sound = All-nil (IsPair f.rows);
    units =
        λ s i l q. ap (column_entry f i) (get_or-map (λ k. factor_column t k) t.basic s 0 0
        (subst (λ n. s < n) (sym (st.whole.all_basic ∙ st.rows)) l) ∙ at_row s l)
        ∙ column_logical f [] t st.rows st.cols i s ∙ delta_sym i s;
  }

  pub starts_with : GoesWith f t (state t t.basic [] 0)
  starts_with =
      record {
        basic = t.basic;
        pairs = [];
        replaced = 0;
        same = refl;
        places = places_of f F cost b t [] st none_stand;
      }

module _ (f : Form) (proper : IsProper f) (costs : HasCosts f) where
  start_rows : (starts : List (RowStart ℚ)) (reduced : List ℚ) (p : ℕ) → p < f.rows →
      factor_column (with_reduced (begun f starts) reduced) (basic_at (with_reduced (begun f starts) reduced) p)
      ≡ f.cols + p
  start_rows starts reduced p l =
      ap (factor_column (with_reduced (begun f starts) reduced)) (get_or-made f.rows (start_basic f starts) 0 p l)
      ∙ by (is_wanting (start_at starts p))
    where
      t : Tableau
      t = with_reduced (begun f starts) reduced

      by : (c : Bool) →
          factor_column (with_reduced (begun f starts) reduced) (cond c (f.cols + f.rows + p) (f.cols + p)) ≡ f.cols + p
      by true =
          by_factor f (with_reduced (begun f starts) reduced) refl refl (f.cols + f.rows + p)
          (omega (arith, l)) (λ h _. let y : ⊥ = omega (arith, h) in absurd y)
          (λ j _ y e. let v : p ≡ j = omega (arith, y) in e ∙ ap (λ j. f.cols + j) (sym v))
      by false = plain_column f starts (with_reduced (begun f starts) reduced) refl refl (f.cols + p) (omega (arith, l))

  pub over_is : (budget : ℕ) → over_run None budget f ≡ answer_in (phases_run None budget f)
  unfolding over_run phases_run start_of
  over_is budget =
      let a =
      there_is (list_run f.rows (row_start None f))
      (agrees_list f.rows (row_start None f) (row_start None f) (row_start_agrees None f)) in
      let starts : List (RowStart ℚ) = a.0 in
      let l : IsListOf f.rows (row_start None f) (Within 0ℚ) starts =
      list_ok f.rows (row_start None f) (Within 0ℚ) starts a.1 in
      let begins : (i : ℕ) → i < f.rows → RowBegins _ _ (first_sum f i) (start_at starts i) =
      λ i h. start_is None f i (start_at starts i) (l.each i h) in
      let c =
      there_is (priced_run None (begun f starts) (first_costs f starts))
      (priced_agrees None (begun f starts) (first_costs f starts)) in
      let t : Tableau = with_reduced (begun f starts) c.0 in
      let st : IsTableauOf f.rows f.cols (form_rows f (signs_of starts)) (cost_at (first_costs f starts))
      (bounds_of t) t =
      begun_is f proper starts l.all begins c.0 None c.1 in
      let g : GoesWith f t (state t t.basic [] 0) =
      starts_with f (form_rows f (signs_of starts)) (cost_at (first_costs f starts)) (bounds_of t) t st
      (start_rows starts c.0) in
      let s = refactored_goes f t (state t t.basic [] 0) refl refl g in
      ap (λ r. refused_as stop.Past r >>= λ starts. refactor_run None f (bare_of (begun f starts)) >>=
      λ s. over_phases None budget f starts s) a.1
      ∙ ap (λ r. r >>= λ s. over_phases None budget f starts s) s.1
      ∙ phases_same f starts costs budget l.all (bounds_of t) t st
      (begun_within f proper starts l.all begins c.0) s.0 s.2
      ∙ sym (ap
      (λ r. answer_in (refused_as stop.Past (r >>= λ starts. priced_run None (begun f starts) (first_costs f starts) >>=
      λ reduced. Ok (with_reduced (begun f starts) reduced)) >>= λ t. phase_one None budget t >>=
      λ one. cond (is_stuck one.tableau) (Ok (Infeasible one.tableau one.used)) (phase_two None budget f one))) a.1
      ∙ ap (λ r. answer_in (refused_as stop.Past (r >>= λ reduced. Ok (with_reduced (begun f starts) reduced)) >>=
      λ t. phase_one None budget t >>=
      λ one. cond (is_stuck one.tableau) (Ok (Infeasible one.tableau one.used)) (phase_two None budget f one))) c.1)
