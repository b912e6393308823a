-- The certificate of a run over factors at the limit of the program, of a model whose numbers are of at most 127 bits,
-- has such numbers.
use Rattle.std.proofs.Common.{◌≡◌, ◌+◌, ◌-◌, ℕ, zero, suc, Bool, true, false, cond, Option, Some, None, Result, Ok, Err}
use Rattle.std.proofs.Common.{List, [], ◌∷◌, get_or, set, nat_eq, refl, sym, subst}
use Rattle.std.specs.Prelude.{All, nat_lt}
use Rattle.std.proofs.lemmas.List.Elements.{All-nil, All-set}
use Rattle.spec_exact.specs.Fraction.{ℚ, 0ℚ, 1ℚ, neg_ℚ, ◌*ℚ◌}
use Rattle.spec_exact.proofs.Ruleset.{one-*ℚ, neg-*ℚ}
use Rattle.spec_exact.specs.Narrow.{IsNarrow, number_limit}
use Rattle.spec_model.specs.Model.{Model}
use Rattle.spec_model.specs.Kept.{IsModel}
use Rattle.spec_check.specs.declared.certificate.Certificate.{Certificate}
use Rattle.spec_check.specs.declared.certificate.Known.{Known}
use Rattle.spec_check.specs.Certificate.{IsNarrowCertificate}
use Rattle.spec_check.specs.Run.{check_run}
use Rattle.spec_pivot.specs.declared.status.Status.{Status}
use Rattle.spec_simplex.specs.declared.ends.Choice.{Choice}
use Rattle.spec_simplex.specs.declared.ends.Choice.TheVariants.{End, Flip, Pivot}
use Rattle.spec_simplex.specs.declared.ends.Entering.{Entering}
use Rattle.spec_simplex.specs.declared.ends.PrimalEnd.{PrimalEnd}
use Rattle.spec_simplex.specs.declared.ends.PrimalEnd.TheVariants.{Optimal, Unbounded}
use Rattle.spec_simplex.specs.declared.ends.RowStart.{RowStart}
use Rattle.spec_simplex.specs.declared.ends.RowStart.TheVariants.{Within, Below, Above}
use Rattle.spec_simplex.specs.declared.ends.RunStop.{RunStop}
use Rattle.spec_simplex.specs.declared.ends.RunStop.TheVariants as stop
use Rattle.spec_exact.specs.Run.{refused_as, less_product, quotient_run, steps, list_run}
use Rattle.spec_simplex.specs.Form.{Form, form_entry, form_of}
use Rattle.spec_simplex.specs.Start.{row_start, begun, cost_at, first_costs, logical_sign, one_at, start_at}
use Rattle.spec_simplex.specs.Step.{moved_run, shifted_run, flip_run, best_run, choice_by, exchanged, turned}
use Rattle.spec_simplex.specs.Phases.{wants_phase_one, is_stuck}
use Rattle.spec_simplex.specs.Tableau.{Tableau, form_columns, is_artificial, basic_at}
use Rattle.spec_exact.proofs.RunsInOrder.{All-made}
use Rattle.spec_exact.proofs.Narrow.{neg_narrow, zero_narrow}
use Rattle.spec_check.specs.declared.solve_end.SolveEnd.TheVariants as outcome
use Rattle.spec_runs.specs.Cold.{ExactSolveEnd, moves_by}
use Rattle.spec_simplex.proofs.RunParts.{then_ok, refused_ok}
use Rattle.spec_factor.specs.Factors.{Pair, pair_at, column_entry, column_of, forward_run, ftran_run}
use Rattle.spec_factor.specs.Factors.{backward_run, btran_run, factor_run, replace_run}
use Rattle.spec_factor.specs.Revised.{Revised, bare_of, sign_of, factor_basis, factor_stop, refactored, refactor_run}
use Rattle.spec_factor.specs.Revised.{replacements, refreshed_run, basic_costs, multipliers_run, entering_run}
use Rattle.spec_factor.specs.Revised.{seen_entry, seen, Selection, selection_with, selection_run, flip_over_run}
use Rattle.spec_factor.specs.Revised.{factors_at, exchange_run, pivot_over_run}
use Rattle.spec_factor.specs.Over.{RevisedEnded, over_or_spent, over_or_next, over_from, nothing_seen, over_one}
use Rattle.spec_factor.specs.Over.{second_state, OverEnd, negatives, stuck_answer, over_certificate, end_answer}
use Rattle.spec_factor.specs.Over.{over_two}
use Rattle.spec_factor.specs.Over.{over_phases, over_run, after_over, over_factors}
use Rattle.spec_solve.proofs.NarrowRuns.{quotient_narrow, less_narrow, all_given}
use Rattle.spec_solve.proofs.NarrowSteps.{AreNarrow, number_at, moved_narrow, shifted_narrow}
use Rattle.spec_solve.proofs.NarrowSteps.{flip_narrow, exchanged_narrow}
use Rattle.spec_solve.proofs.NarrowStart.{IsNarrowForm, NarrowStart, one_narrow, form_narrow, form_entry_narrow}
use Rattle.spec_solve.proofs.NarrowStart.{one_at_narrow, row_start_narrow, begun_narrow, first_costs_narrow}
use Rattle.spec_solve.proofs.NarrowCold.{fixed_narrow, moves_narrow, point_narrow, by_check}

-- ---- solves over pairs

-- one step of ftran over a pair gives numbers of at most 127 bits
forward_narrow : (m : ℕ) (e : Pair) (v w : List ℚ) → forward_run (Some number_limit) m e v ≡ Ok w → All IsNarrow w
unfolding forward_run
forward_narrow m e v w h =
    let o = then_ok (quotient_run (Some number_limit) (get_or v e.place 0ℚ) (pair_at e e.place)) _ w h in
    all_given IsNarrow m _ w o.2
    (λ i x l q. by (nat_eq i e.place) i x o.0 (quotient_narrow (get_or v e.place 0ℚ) (pair_at e e.place) o.0 o.1) q)
  where
    by : (t : Bool) (i : ℕ) (x q : ℚ) → IsNarrow q →
        cond t (Ok q) (less_product (Some number_limit) (pair_at e i) q (get_or v i 0ℚ)) ≡ Ok x → IsNarrow x
    by true i x q n h = let z : q ≡ x = cc in subst IsNarrow z n
    by false i x q n h = less_narrow (pair_at e i) q (get_or v i 0ℚ) x h

-- ftran over all pairs makes numbers of at most 127 bits of numbers of at most 127 bits
ftran_narrow : (m : ℕ) (pairs : List Pair) (v w : List ℚ) → ftran_run (Some number_limit) m pairs v ≡ Ok w →
    All IsNarrow v → All IsNarrow w
ftran_narrow m [] v w h n = let z : v ≡ w = cc in subst (All IsNarrow) z n
ftran_narrow m (e ∷ es) v w h n =
    let o = then_ok (forward_run (Some number_limit) m e v) (λ u. ftran_run (Some number_limit) m es u) w h in
    ftran_narrow m es o.0 w o.2 (forward_narrow m e v o.0 o.1)

-- one step of btran over a pair makes numbers of at most 127 bits of numbers of at most 127 bits
backward_narrow : (m : ℕ) (e : Pair) (v w : List ℚ) → backward_run (Some number_limit) m e v ≡ Ok w →
    All IsNarrow v → All IsNarrow w
unfolding backward_run
backward_narrow m e v w h n =
    let o = then_ok (steps m (λ i s. cond (nat_eq i e.place) (Ok s) (less_product (Some number_limit) (get_or v i 0ℚ)
    (pair_at e i) s)) (get_or v e.place 0ℚ)) _ w h in
    let p = then_ok (quotient_run (Some number_limit) o.0 (pair_at e e.place)) (λ q. Ok (set v e.place q)) w o.2 in
    let z : set v e.place p.0 ≡ w = cc in
    subst (All IsNarrow) z
    (All-set IsNarrow v e.place p.0 (quotient_narrow o.0 (pair_at e e.place) p.0 p.1) n)

-- btran over all pairs makes numbers of at most 127 bits of numbers of at most 127 bits
btran_narrow : (m : ℕ) (pairs : List Pair) (v w : List ℚ) → btran_run (Some number_limit) m pairs v ≡ Ok w →
    All IsNarrow v → All IsNarrow w
btran_narrow m [] v w h n = let z : v ≡ w = cc in subst (All IsNarrow) z n
btran_narrow m (e ∷ es) v w h n =
    let o = then_ok (btran_run (Some number_limit) m es v) (λ u. backward_run (Some number_limit) m e u) w h in
    backward_narrow m e o.0 w o.2 (btran_narrow m es v o.0 o.1 n)

-- a column of the equations of a form with numbers of at most 127 bits has numbers of at most 127 bits
column_narrow : (f : Form) (k : ℕ) → IsNarrowForm f → All IsNarrow (column_of f k)
column_narrow f k n = All-made IsNarrow f.rows (λ i. column_entry f i k) (λ i l. by (nat_lt k f.cols) i)
  where
    by : (t : Bool) (i : ℕ) → IsNarrow (cond t (neg_ℚ (form_entry f i k)) (one_at i (k - f.cols) 1ℚ))
    by true i = neg_narrow (form_entry f i k) (form_entry_narrow f n i k)
    by false i = one_at_narrow i (k - f.cols) 1ℚ one_narrow

-- ---- signs

-- a number of at most 127 bits times the entry of a logical column in its row has at most 127 bits
signed_by : (s : RowStart ℚ) (v : ℚ) → IsNarrow v → IsNarrow (logical_sign s *ℚ v)
signed_by (Within w) v n = subst IsNarrow (sym (one-*ℚ v)) n
signed_by (Above gap) v n = subst IsNarrow (sym (one-*ℚ v)) n
signed_by (Below gap) v n =
    subst IsNarrow (sym (neg-*ℚ 1ℚ v)) (neg_narrow (1ℚ *ℚ v) (subst IsNarrow (sym (one-*ℚ v)) n))

-- a number of at most 127 bits times the sign of column k has at most 127 bits
signed_narrow : (starts : List (RowStart ℚ)) (t : Tableau) (k : ℕ) (v : ℚ) → IsNarrow v →
    IsNarrow (sign_of starts t k *ℚ v)
signed_narrow starts t k v n = by (is_artificial t k)
  where
    by : (b : Bool) → IsNarrow (cond b (logical_sign (start_at starts (k - form_columns t))) 1ℚ *ℚ v)
    by true = signed_by (start_at starts (k - form_columns t)) v n
    by false = subst IsNarrow (sym (one-*ℚ v)) n

-- ---- what a step sees

-- the multipliers and the tableau that a step over factors sees have numbers of at most 127 bits
pub record NarrowSelection (s : Selection) : Type 0 where
  pub multipliers : All IsNarrow s.multipliers
  pub tableau : AreNarrow s.tableau

-- the tableau that a step sees has numbers of at most 127 bits where the tableau and the solved column have such
seen_narrow : (starts : List (RowStart ℚ)) (t : Tableau) (j : ℕ) (z : List ℚ) → AreNarrow t → All IsNarrow z →
    AreNarrow (seen starts t j z)
seen_narrow starts t j z n h = record {
  entries = All-made (All IsNarrow) t.rows _ (λ p l. All-made IsNarrow (suc j) _ (λ k q. by (nat_eq k j) p));
  value = n.value;
  reduced = n.reduced;
  lower = n.lower;
  upper = n.upper;
}
  where
    by : (b : Bool) (p : ℕ) → IsNarrow (cond b (seen_entry starts t z p) 0ℚ)
    by true p = signed_narrow starts t (basic_at t p) (get_or z p 0ℚ) (number_at z h p)
    by false p = zero_narrow

module _ (f : Form) (starts : List (RowStart ℚ)) (form : IsNarrowForm f) where
  -- the bare tableau of a state over factors has numbers of at most 127 bits
  abbrev NarrowState : Revised → Type 0
  NarrowState s = AreNarrow s.bare

  -- where a state and multipliers have numbers of at most 127 bits, so has what a step with an entering column sees
  with_narrow : (s : Revised) (y : List ℚ) (e : Option Entering) (selection : Selection) →
      selection_with (Some number_limit) f starts s y e ≡ Ok selection → NarrowState s → All IsNarrow y →
      NarrowSelection selection
  with_narrow s y None selection h n k =
      let z : ◌≡◌ {A = Selection} (record { multipliers = y; tableau = s.bare; choice = End Optimal }) selection = cc in
      subst NarrowSelection z (record { multipliers = k; tableau = n })
  with_narrow s y (Some e) selection h n k =
      let o = then_ok (ftran_run (Some number_limit) s.bare.rows s.pairs (column_of f e.col)) _ selection h in
      let p = then_ok (best_run (Some number_limit) (seen starts s.bare e.col o.0) e) _ selection o.2 in
      let z : ◌≡◌ {A = Selection}
      (record { multipliers = y; tableau = seen starts s.bare e.col o.0; choice = choice_by e p.0 }) selection = cc
      in
      subst NarrowSelection z (record {
        multipliers = k;
        tableau = seen_narrow starts s.bare e.col o.0 n (ftran_narrow s.bare.rows s.pairs (column_of f e.col) o.0 o.1
            (column_narrow f e.col form));
      })

  -- where costs and a state have numbers of at most 127 bits, so has what a step sees
  selection_narrow : (costs : List ℚ) (s : Revised) (selection : Selection) →
      selection_run (Some number_limit) f starts costs s ≡ Ok selection → All IsNarrow costs → NarrowState s →
      NarrowSelection selection
  unfolding selection_run multipliers_run
  selection_narrow costs s selection h c n =
      let o = then_ok (multipliers_run (Some number_limit) starts costs s) _ selection h in
      let p = then_ok (entering_run (Some number_limit) f costs o.0 s.bare) _ selection o.2 in
      with_narrow s o.0 p.0 selection p.2 n
      (btran_narrow s.bare.rows s.pairs (basic_costs starts costs s.bare) o.0 o.1
      (All-made IsNarrow s.bare.rows _ (λ p l. signed_narrow starts s.bare (basic_at s.bare p)
      (cost_at costs (basic_at s.bare p)) (number_at costs c (basic_at s.bare p)))))

  -- ---- the flip and the pivot

  -- a tableau with numbers of at most 127 bits, made bare, has such numbers
  bare_narrow : (t : Tableau) → AreNarrow t → AreNarrow (bare_of t)
  bare_narrow t n =
      record {
        entries = All-nil (All IsNarrow);
        value = n.value;
        reduced = All-nil IsNarrow;
        lower = n.lower;
        upper =
            n.upper;
      }

  -- a flip over factors of a tableau with numbers of at most 127 bits leaves such numbers
  flip_over_narrow : (s u : Revised) (t : Tableau) (j : ℕ) → flip_over_run (Some number_limit) s t j ≡ Ok u →
      AreNarrow t → NarrowState u
  unfolding flip_over_run
  flip_over_narrow s u t j h n =
      let o = then_ok (flip_run (Some number_limit) t j) _ u h in
      let z : ◌≡◌ {A = Revised} (record s { bare = bare_of o.0 }) u = cc in
      subst NarrowState z (bare_narrow o.0 (flip_narrow t o.0 j o.1 n))

  -- the exchange of a pivot over factors leaves numbers of at most 127 bits, where state and tableau have such
  exchange_narrow : (s u : Revised) (t : Tableau) (p j : ℕ) (theta : ℚ) (to : Status) →
      exchange_run (Some number_limit) f s t p j theta to ≡ Ok u → NarrowState s → AreNarrow t → NarrowState u
  unfolding exchange_run
  exchange_narrow s u t p j theta to h n k =
      let a = then_ok (moved_run (Some number_limit) t j theta (Some p)) _ u h in
      let b = then_ok (shifted_run (Some number_limit) a.0 j theta) _ u a.2 in
      let c = then_ok (replace_run (Some number_limit) s.bare.rows (factors_at s) p j (column_of f j)) _ u b.2 in
      let z : ◌≡◌ {A = Revised}
      (record { bare = exchanged (turned s.bare b.0 [] []) p j to; pairs = c.0.pairs; replaced = suc s.replaced })
      u = cc in
      subst NarrowState z
      (exchanged_narrow (turned s.bare b.0 [] []) p j to
      (record {
        entries = All-nil (All IsNarrow);
        value = shifted_narrow a.0 b.0 j theta b.1 (moved_narrow t j theta (Some p) a.0 a.1 k.value);
        reduced = All-nil IsNarrow;
        lower = n.lower;
        upper = n.upper;
      }))

  -- factors taken anew of a tableau with numbers of at most 127 bits leave such numbers
  refactor_narrow : (t : Tableau) (u : Revised) → refactor_run (Some number_limit) f t ≡ Ok u → AreNarrow t →
      NarrowState u
  unfolding refactor_run
  refactor_narrow t u h n =
      let o = then_ok (factor_stop (factor_run (Some number_limit) f (factor_basis t))) (λ s. Ok (refactored t s)) u h
      in
      let z : refactored t o.0 ≡ u = cc in
      subst NarrowState z
      (record { entries = n.entries; value = n.value; reduced = n.reduced; lower = n.lower; upper = n.upper })

  -- a state with numbers of at most 127 bits has such numbers after its factors were taken anew, if it was time
  refreshed_narrow : (s u : Revised) → refreshed_run (Some number_limit) f s ≡ Ok u → NarrowState s → NarrowState u
  refreshed_narrow s u h n = by (nat_eq s.replaced replacements) h
    where
      by : (b : Bool) → cond b (refactor_run (Some number_limit) f s.bare) (Ok s) ≡ Ok u → NarrowState u
      by true q = refactor_narrow s.bare u q n
      by false q = let z : s ≡ u = cc in subst NarrowState z n

  -- a pivot over factors leaves numbers of at most 127 bits, where state and tableau have such
  pivot_over_narrow : (s u : Revised) (t : Tableau) (p j : ℕ) (theta : ℚ) (to : Status) →
      pivot_over_run (Some number_limit) f s t p j theta to ≡ Ok u → NarrowState s → AreNarrow t → NarrowState u
  pivot_over_narrow s u t p j theta to h n k =
      let o = then_ok (refused_as stop.Past (exchange_run (Some number_limit) f s t p j theta to)) _ u h in
      refreshed_narrow o.0 u o.2
      (exchange_narrow s o.0 t p j theta to (refused_ok stop.Past (exchange_run (Some number_limit) f s t p j theta to)
      o.0 o.1) n k)

  -- ---- steps up to an end

  -- the last state of a run over factors, and what its last step sees, have numbers of at most 127 bits
  record NarrowEnded (e : RevisedEnded) : Type 0 where
    pub state : NarrowState e.state
    pub selection : NarrowSelection e.selection

  -- a run that ends at a state and a sight with numbers of at most 127 bits has such numbers at its end
  ended_narrow : (s : Revised) (used : ℕ) (selection : Selection) (end : PrimalEnd) (e : RevisedEnded) →
      ◌≡◌ {A = RevisedEnded} (record { end = end; state = s; selection = selection; used = used }) e → NarrowState s →
      NarrowSelection selection → NarrowEnded e
  ended_narrow s used selection end e z n k = subst NarrowEnded z (record { state = n; selection = k })

  -- a run without budget, at a state and a sight with numbers of at most 127 bits, ends with such numbers or not at all
  spent_narrow : (s : Revised) (used : ℕ) (selection : Selection) (choice : Choice ℚ) (e : RevisedEnded) →
      over_or_spent s used selection choice ≡ Ok e → NarrowState s → NarrowSelection selection → NarrowEnded e
  spent_narrow s used selection (End end) e h n k = ended_narrow s used selection end e
      (let z : ◌≡◌ {A = RevisedEnded} (record { end = end; state = s; selection = selection; used = used }) e = cc in
      z) n k
  spent_narrow s used selection (Flip j) e h n k = cc
  spent_narrow s used selection (Pivot p j theta to) e h n k = cc

  -- a run over factors ends with numbers of at most 127 bits, if its state and sight have such and each next state
  -- leads to such
  next_narrow : (s : Revised) (used : ℕ) (next : Revised → Result RevisedEnded (RunStop ℚ)) (selection : Selection)
      (choice : Choice ℚ) (e : RevisedEnded) →
      over_or_next (Some number_limit) f s used next selection choice ≡ Ok e → NarrowState s →
      NarrowSelection selection → ((u : Revised) → next u ≡ Ok e → NarrowState u → NarrowEnded e) → NarrowEnded e
  next_narrow s used next selection (End end) e h n k go = ended_narrow s used selection end e
      (let z : ◌≡◌ {A = RevisedEnded} (record { end = end; state = s; selection = selection; used = used }) e = cc in
      z) n k
  next_narrow s used next selection (Flip j) e h n k go =
      let o = then_ok (refused_as stop.Past (flip_over_run (Some number_limit) s selection.tableau j)) next e h in
      go o.0 o.2
      (flip_over_narrow s o.0 selection.tableau j
      (refused_ok stop.Past (flip_over_run (Some number_limit) s selection.tableau j) o.0 o.1) k.tableau)
  next_narrow s used next selection (Pivot p j theta to) e h n k go =
      let o = then_ok (pivot_over_run (Some number_limit) f s selection.tableau p j theta to) next e h in
      go o.0 o.2 (pivot_over_narrow s o.0 selection.tableau p j theta to o.1 n k.tableau)

  -- steps over factors from a state with numbers of at most 127 bits end with such numbers
  from_narrow : (costs : List ℚ) (left used : ℕ) (s : Revised) (e : RevisedEnded) →
      over_from (Some number_limit) f starts costs left used s ≡ Ok e → All IsNarrow costs → NarrowState s →
      NarrowEnded e
  unfolding over_from
  from_narrow costs zero used s e h c n =
      let o = then_ok (refused_as stop.Past (selection_run (Some number_limit) f starts costs s))
      (λ selection. over_or_spent s used selection selection.choice) e h in
      spent_narrow s used o.0 o.0.choice e o.2 n
      (selection_narrow costs s o.0 (refused_ok stop.Past (selection_run (Some number_limit) f starts costs s) o.0 o.1)
      c n)
  from_narrow costs (suc left) used s e h c n =
      let next : Revised → Result RevisedEnded (RunStop ℚ) = λ u. over_from (Some number_limit) f starts costs left
      (used + 1) u in
      let o = then_ok (refused_as stop.Past (selection_run (Some number_limit) f starts costs s))
      (λ selection. over_or_next (Some number_limit) f s used next selection selection.choice) e h in
      next_narrow s used next o.0 o.0.choice e o.2 n
      (selection_narrow costs s o.0 (refused_ok stop.Past (selection_run (Some number_limit) f starts costs s) o.0 o.1)
      c n)
      (λ u q k. from_narrow costs left (used + 1) u e q c k)

  -- ---- both phases

  -- phase one over factors ends with numbers of at most 127 bits, where costs and state have such
  one_narrow_phase : (budget : ℕ) (s : Revised) (e : RevisedEnded) →
      over_one (Some number_limit) budget f starts s ≡ Ok e → All IsNarrow (first_costs f starts) → NarrowState s →
      NarrowEnded e
  one_narrow_phase budget s e h c n = by (wants_phase_one s.bare) h
    where
      by : (b : Bool) →
          cond b (over_from (Some number_limit) f starts (first_costs f starts) budget 0 s)
          (Ok (record { end = Optimal; state = s; selection = nothing_seen s; used = 0 })) ≡ Ok e → NarrowEnded e
      by true q = from_narrow (first_costs f starts) budget 0 s e q c n
      by false q =
          let z : ◌≡◌ {A = RevisedEnded} (record { end = Optimal; state = s; selection = nothing_seen s; used = 0 })
          e = cc in
          ended_narrow s 0 (nothing_seen s) Optimal e z n (record { multipliers = All-nil IsNarrow; tableau = n })

  -- the state with which phase two begins has numbers of at most 127 bits, where the one before has such
  second_narrow : (s : Revised) → NarrowState s → NarrowState (second_state s)
  second_narrow s n = record {
    entries = n.entries;
    value = n.value;
    reduced = n.reduced;
    lower = fixed_narrow (form_columns s.bare) s.bare.rows s.bare.lower n.lower;
    upper = fixed_narrow (form_columns s.bare) s.bare.rows s.bare.upper n.upper;
  }

  -- ---- what it ends with

  -- the negatives of numbers of at most 127 bits have at most 127 bits
  negatives_narrow : (m : ℕ) (y : List ℚ) → All IsNarrow y → All IsNarrow (negatives m y)
  negatives_narrow m y h =
      All-made IsNarrow m (λ i. neg_ℚ (get_or y i 0ℚ)) (λ i l. neg_narrow (get_or y i 0ℚ) (number_at y h i))

  -- the certificate of an answer over factors has numbers of at most 127 bits
  abbrev NarrowAnswer : OverEnd → Type 0
  NarrowAnswer a = IsNarrowCertificate a.certificate

  -- the certificate that is read off a tableau and a step's sight with numbers of at most 127 bits has such numbers
  certificate_by : (t : Tableau) (selection : Selection) (end : PrimalEnd) → AreNarrow t → NarrowSelection selection →
      IsNarrowCertificate (over_certificate t selection end)
  certificate_by t selection Optimal n k =
      (point_narrow t n, negatives_narrow t.rows selection.multipliers k.multipliers)
  certificate_by t selection (Unbounded j way) n k = (
    point_narrow t n,
    All-made IsNarrow selection.tableau.cols (moves_by selection.tableau j way)
        (λ i l. moves_narrow selection.tableau j way i selection.tableau.rows k.tableau),
  )

  -- what comes after phase one over factors has numbers of at most 127 bits, where its end has such
  two_narrow_phases : (budget : ℕ) (one : RevisedEnded) (a : OverEnd) →
      over_two (Some number_limit) budget f starts one ≡ Ok a → NarrowEnded one → NarrowAnswer a
  two_narrow_phases budget one a h n =
      let o = then_ok (over_from (Some number_limit) f starts f.cost (budget - one.used) one.used
      (second_state one.state)) (λ two. Ok (end_answer two)) a h in
      let z : end_answer o.0 ≡ a = cc in
      let k = from_narrow f.cost (budget - one.used) one.used (second_state one.state) o.0 o.1 form.cost
      (second_narrow one.state n.state) in
      subst NarrowAnswer z (certificate_by o.0.state.bare o.0.selection o.0.end k.state k.selection)

  -- both phases over factors answer with numbers of at most 127 bits, where costs and state have such
  phases_narrow : (budget : ℕ) (s : Revised) (a : OverEnd) →
      over_phases (Some number_limit) budget f starts s ≡ Ok a → All IsNarrow (first_costs f starts) → NarrowState s →
      NarrowAnswer a
  phases_narrow budget s a h c n =
      let o = then_ok (over_one (Some number_limit) budget f starts s) _ a h in
      by (is_stuck o.0.state.bare) o.0 o.2 (one_narrow_phase budget s o.0 o.1 c n)
    where
      by : (b : Bool) (one : RevisedEnded) →
          cond b (Ok (stuck_answer one)) (over_two (Some number_limit) budget f starts one) ≡ Ok a → NarrowEnded one →
          NarrowAnswer a
      by true one q k =
          let z : stuck_answer one ≡ a = cc in
          subst NarrowAnswer z (negatives_narrow one.state.bare.rows one.selection.multipliers k.selection.multipliers)
      by false one q k = two_narrow_phases budget one a q k

-- the run over factors of a form with numbers of at most 127 bits ends with a certificate of numbers of at most 127
-- bits
run_narrow : (budget : ℕ) (f : Form) (a : OverEnd) → over_run (Some number_limit) budget f ≡ Ok a → IsNarrowForm f →
    IsNarrowCertificate a.certificate
unfolding over_run
run_narrow budget f a h n =
    let o = then_ok (refused_as stop.Past (list_run f.rows (row_start (Some number_limit) f))) _ a h in
    let p = then_ok (refactor_run (Some number_limit) f (bare_of (begun f o.0))) _ a o.2 in
    let starts : All NarrowStart o.0 =
    all_given NarrowStart f.rows (row_start (Some number_limit) f) o.0
    (refused_ok stop.Past (list_run f.rows (row_start (Some number_limit) f)) o.0 o.1)
    (λ i s l q. row_start_narrow f i s q) in
    phases_narrow f o.0 n budget p.0 a p.2 (first_costs_narrow f o.0 n starts)
    (refactor_narrow f o.0 n (bare_of (begun f o.0)) p.0 p.1
    (bare_narrow f o.0 n (begun f o.0) (begun_narrow f o.0 n starts)))

-- ---- the whole run

module _ (known : Known ℚ) (cert : Certificate (List ℚ)) (basis : Option (List Status)) (pivots : ℕ) where
  -- the end has just this answer, certificate, basis and count of pivots
  abbrev IsThisEnd : ExactSolveEnd → Type 0
  IsThisEnd o = o ≡ outcome.Ended known cert basis pivots

  -- where what comes after a run over factors is this end, and the run's certificate has numbers of at most 127 bits,
  -- so has the end's
  by_run : (m : Model) (r : Result OverEnd (RunStop ℚ)) → IsThisEnd (after_over (Some number_limit) m r) →
      ((a : OverEnd) → r ≡ Ok a → IsNarrowCertificate a.certificate) → IsNarrowCertificate cert
  by_run m (Ok a) e h =
      by_check known cert basis pivots a.certificate a.basis a.pivots (check_run (Some number_limit) m a.certificate) e
      (h a refl)
  by_run m (Err (stop.Past p)) e h =
      let z : ◌≡◌ {A = ExactSolveEnd} (outcome.Past p) (outcome.Ended known cert basis pivots) = e in cc
  by_run m (Err stop.Spent) e h =
      let z : ◌≡◌ {A = ExactSolveEnd} outcome.Spent (outcome.Ended known cert basis pivots) = e in cc

  -- the certificate with which a run over factors for a kept model ends, at the program's limit, has numbers of at most
  -- 127 bits
  pub over_narrow : (budget : ℕ) (m : Model) (f : Form) → form_of (Some number_limit) m ≡ Ok f → IsModel m →
      over_factors (Some number_limit) budget m f ≡ outcome.Ended known cert basis pivots → IsNarrowCertificate cert
  unfolding over_factors
  over_narrow budget m f formed kept e =
      by_run m (over_run (Some number_limit) budget f) e
      (λ a q. run_narrow budget f a q
      (form_narrow m f formed (record { rows = kept.narrow_rows; columns = kept.narrow_columns })))
