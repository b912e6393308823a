-- The certificate of a cold solve at the limit of the program, of a model whose numbers are of at most 127 bits, has
-- such numbers.
--
-- `fixed_narrow`: bounds within 127 bits are so too where the artificial columns are fixed at 0.
-- `moves_narrow`: where a tableau's numbers are within 127 bits, so is each column's entry of a ray.
-- `point_narrow`: where a tableau's numbers are within 127 bits, so are the values of the model's columns.
use Rattle.std.proofs.Common.{◌≡◌, ◌+◌, ◌-◌, ℕ, zero, suc, Bool, true, false, cond, Option, Some, None, Result, Ok, Err}
use Rattle.std.proofs.Common.{List, nat_eq, refl, subst}
use Rattle.std.specs.Prelude.{All}
use Rattle.std.proofs.lemmas.List.Elements.{All-set}
use Rattle.spec_exact.specs.Fraction.{ℚ, 0ℚ, 1ℚ, neg_ℚ}
use Rattle.spec_exact.specs.Narrow.{IsNarrow, number_limit}
use Rattle.spec_model.specs.Model.{Model}
use Rattle.spec_model.specs.Kept.{IsModel}
use Rattle.spec_check.specs.declared.certificate.Certificate.{Certificate}
use Rattle.spec_check.specs.declared.certificate.Certificate.TheVariants as certificate
use Rattle.spec_check.specs.declared.certificate.Known.{Known}
use Rattle.spec_check.specs.declared.certificate.CheckStop.{CheckStop}
use Rattle.spec_check.specs.declared.certificate.CheckStop.TheVariants as check
use Rattle.spec_check.specs.Certificate.{IsNarrowCertificate}
use Rattle.spec_check.specs.Run.{check_run}
use Rattle.spec_pivot.specs.declared.status.Status.{Status}
use Rattle.spec_pivot.specs.declared.status.Way.{Way}
use Rattle.spec_pivot.specs.declared.status.Way.TheVariants.{Up, Down}
use Rattle.spec_simplex.specs.declared.ends.Choice.{Choice}
use Rattle.spec_simplex.specs.declared.ends.Choice.TheVariants.{End, Flip, Pivot}
use Rattle.spec_simplex.specs.declared.ends.FormFault.{FormFault}
use Rattle.spec_simplex.specs.declared.ends.FormFault.TheVariants as fault
use Rattle.spec_simplex.specs.declared.ends.PrimalEnd.{PrimalEnd}
use Rattle.spec_simplex.specs.declared.ends.PrimalEnd.TheVariants.{Optimal, Unbounded}
use Rattle.spec_simplex.specs.declared.ends.RunStop.{RunStop as Spending}
use Rattle.spec_simplex.specs.declared.ends.RunStop.TheVariants as stop
use Rattle.spec_exact.specs.Run.{refused_as}
use Rattle.spec_simplex.specs.Form.{Form, form_of}
use Rattle.spec_simplex.specs.Tableau.{Tableau, form_columns, basic_at, entry_at, value_at, reduced_at}
use Rattle.spec_simplex.specs.Start.{priced_run, with_reduced, start_of}
use Rattle.spec_simplex.specs.Step.{directed, choice_run, flip_run, pivot_run}
use Rattle.spec_simplex.specs.Phases.{PrimalEnded, end_or_spent, end_or_next, run_from, fixed_at_zero}
use Rattle.spec_simplex.specs.Phases.{without_artificials, phase_two_run, wants_phase_one, is_stuck, phase_one}
use Rattle.spec_simplex.specs.Phases.{phase_two, PhasesEnd, Infeasible, Finished, phases_run}
use Rattle.spec_exact.proofs.RunsInOrder.{All-made}
use Rattle.spec_exact.proofs.Narrow.{neg_narrow, zero_narrow}
use Rattle.spec_check.specs.declared.solve_end.SolveEnd.TheVariants as outcome
use Rattle.spec_runs.specs.Cold.{ExactSolveEnd, point, multipliers, moves_below, moves_by, certificate_at}
use Rattle.spec_runs.specs.Cold.{certificate_of}
use Rattle.spec_runs.specs.Cold.{basis_of, pivots_of, checked, after_phases, after_form, cold}
use Rattle.spec_simplex.proofs.RunParts.{then_ok, refused_ok}
use Rattle.spec_solve.proofs.NarrowSteps.{NarrowBound, AreNarrow, number_at, place_narrow, flip_narrow, pivot_narrow}
use Rattle.spec_solve.proofs.NarrowStart.{IsNarrowForm, one_narrow, form_narrow, start_narrow, priced_narrow}

-- ---- steps up to an end

-- a run that ends with its budget used up ends at the tableau it was at, with numbers of at most 127 bits
spent_narrow : (t : Tableau) (used : ℕ) (choice : Choice ℚ) (e : PrimalEnded) → end_or_spent t used choice ≡ Ok e →
    AreNarrow t → AreNarrow e.tableau
spent_narrow t used (End end) e h n =
    let same : ◌≡◌ {A = PrimalEnded} (record { end = end; tableau = t; used = used }) e = cc in
    subst (λ (e : PrimalEnded). AreNarrow e.tableau) same n
spent_narrow t used (Flip j) e h n = cc
spent_narrow t used (Pivot p j theta to) e h n = cc

-- where each next step keeps a tableau's numbers within 127 bits, a run ends at a tableau with numbers of at most 127
-- bits
next_narrow : (t : Tableau) (used : ℕ) (next : Tableau → Result PrimalEnded (Spending ℚ)) (choice : Choice ℚ)
    (e : PrimalEnded) → end_or_next (Some number_limit) t used next choice ≡ Ok e → AreNarrow t
    → ((u : Tableau) → next u ≡ Ok e → AreNarrow u → AreNarrow e.tableau) → AreNarrow e.tableau
next_narrow t used next (End end) e h n k =
    let same : ◌≡◌ {A = PrimalEnded} (record { end = end; tableau = t; used = used }) e = cc in
    subst (λ (e : PrimalEnded). AreNarrow e.tableau) same n
next_narrow t used next (Flip j) e h n k =
    let o = then_ok (refused_as stop.Past (flip_run (Some number_limit) t j)) next e h in
    k o.0 o.2 (flip_narrow t o.0 j (refused_ok stop.Past (flip_run (Some number_limit) t j) o.0 o.1) n)
next_narrow t used next (Pivot p j theta to) e h n k =
    let o = then_ok (refused_as stop.Past (pivot_run (Some number_limit) t p j theta to)) next e h in
    k o.0 o.2 (pivot_narrow t o.0 p j theta to (refused_ok stop.Past (pivot_run (Some number_limit) t p j theta to) o.0
    o.1) n)

-- steps from a tableau with numbers of at most 127 bits end at a tableau with numbers of at most 127 bits
run_narrow : (left used : ℕ) (t : Tableau) (e : PrimalEnded) → run_from (Some number_limit) left used t ≡ Ok e →
    AreNarrow t → AreNarrow e.tableau
unfolding run_from
run_narrow zero used t e h n =
    let o = then_ok (refused_as stop.Past (choice_run (Some number_limit) t)) (end_or_spent t used) e h in
    spent_narrow t used o.0 e o.2 n
run_narrow (suc left) used t e h n =
    let next : Tableau → Result PrimalEnded (Spending ℚ) = λ u. run_from (Some number_limit) left (used + 1) u in
    let o = then_ok (refused_as stop.Past (choice_run (Some number_limit) t))
    (end_or_next (Some number_limit) t used next) e h in
    next_narrow t used next o.0 e o.2 n (λ u q k. run_narrow left (used + 1) u e q k)

-- ---- both phases

pub fixed_narrow : (n m : ℕ) (bounds : List (Option ℚ)) → All NarrowBound bounds →
    All NarrowBound (fixed_at_zero n m bounds)
fixed_narrow n zero bounds h = h
fixed_narrow n (suc m) bounds h =
    All-set NarrowBound (fixed_at_zero n m bounds) (n + m) (Some 0ℚ) zero_narrow (fixed_narrow n m bounds h)

-- phase two begins with numbers of at most 127 bits, where the form and the tableau before have such numbers
two_narrow : (f : Form) (t u : Tableau) → phase_two_run (Some number_limit) f t ≡ Ok u → IsNarrowForm f → AreNarrow t →
    AreNarrow u
unfolding phase_two_run
two_narrow f t u h k n =
    let o = then_ok (priced_run (Some number_limit) (without_artificials t) f.cost) _ u h in
    let e : with_reduced (without_artificials t) o.0 ≡ u = cc in
    subst AreNarrow e
    (record {
      entries = n.entries;
      value = n.value;
      reduced = priced_narrow (without_artificials t) f.cost o.0 o.1 k.cost;
      lower = fixed_narrow (form_columns t) t.rows t.lower n.lower;
      upper = fixed_narrow (form_columns t) t.rows t.upper n.upper;
    })

-- the tableau with which both phases end has numbers of at most 127 bits
abbrev NarrowEnd : PhasesEnd → Type 0
NarrowEnd (Infeasible t used) = AreNarrow t
NarrowEnd (Finished e) = AreNarrow e.tableau

-- phase one ends with numbers of at most 127 bits where it begins with numbers of at most 127 bits
one_phase_narrow : (budget : ℕ) (t : Tableau) (e : PrimalEnded) → phase_one (Some number_limit) budget t ≡ Ok e →
    AreNarrow t → AreNarrow e.tableau
one_phase_narrow budget t e h n = by (wants_phase_one t) h
  where
    by : (c : Bool) →
        cond c (run_from (Some number_limit) budget 0 t) (Ok (record { end = Optimal; tableau = t; used = 0 })) ≡ Ok e →
        AreNarrow e.tableau
    by true q = run_narrow budget 0 t e q n
    by false q =
        let same : ◌≡◌ {A = PrimalEnded} (record { end = Optimal; tableau = t; used = 0 }) e = cc in
        subst (λ (e : PrimalEnded). AreNarrow e.tableau) same n

-- where the form and the end of phase one have numbers of at most 127 bits, so has the end of both phases
two_phases_narrow : (budget : ℕ) (f : Form) (one : PrimalEnded) (e : PhasesEnd) →
    phase_two (Some number_limit) budget f one ≡ Ok e → IsNarrowForm f → AreNarrow one.tableau → NarrowEnd e
two_phases_narrow budget f one e h k n =
    let o = then_ok (refused_as stop.Past (phase_two_run (Some number_limit) f one.tableau)) _ e h in
    let p = then_ok (run_from (Some number_limit) (budget - one.used) one.used o.0) (λ two. Ok (Finished two)) e o.2 in
    let same : Finished p.0 ≡ e = cc in
    subst NarrowEnd same
    (run_narrow (budget - one.used) one.used o.0 p.0 p.1
    (two_narrow f one.tableau o.0 (refused_ok stop.Past (phase_two_run (Some number_limit) f one.tableau) o.0 o.1) k n))

-- both phases on a form with numbers of at most 127 bits end with numbers of at most 127 bits
phases_narrow : (budget : ℕ) (f : Form) (e : PhasesEnd) → phases_run (Some number_limit) budget f ≡ Ok e →
    IsNarrowForm f → NarrowEnd e
unfolding phases_run
phases_narrow budget f e h k =
    let o = then_ok (refused_as stop.Past (start_of (Some number_limit) f)) _ e h in
    let p = then_ok (phase_one (Some number_limit) budget o.0) _ e o.2 in
    let start : AreNarrow o.0 = start_narrow f o.0 (refused_ok stop.Past (start_of (Some number_limit) f) o.0 o.1) k in
    by (is_stuck p.0.tableau) p.0 p.2 (one_phase_narrow budget o.0 p.0 p.1 start)
  where
    by : (c : Bool) (one : PrimalEnded) →
        cond c (Ok (Infeasible one.tableau one.used)) (phase_two (Some number_limit) budget f one) ≡ Ok e →
        AreNarrow one.tableau → NarrowEnd e
    by true one q n = let same : Infeasible one.tableau one.used ≡ e = cc in subst NarrowEnd same n
    by false one q n = two_phases_narrow budget f one e q k n

-- ---- certificates

-- a number of at most 127 bits has at most 127 bits in either direction
directed_narrow : (way : Way) (v : ℚ) → IsNarrow v → IsNarrow (directed way v)
directed_narrow Up v h = h
directed_narrow Down v h = neg_narrow v h

pub moves_narrow : (t : Tableau) (j : ℕ) (way : Way) (k m : ℕ) → AreNarrow t → IsNarrow (moves_below t j way k m)
moves_narrow t j way k zero n = by (nat_eq k j)
  where
    by : (c : Bool) → IsNarrow (cond c (directed way 1ℚ) 0ℚ)
    by true = directed_narrow way 1ℚ one_narrow
    by false = zero_narrow
moves_narrow t j way k (suc m) n = by (nat_eq (basic_at t m) k) (moves_narrow t j way k m n)
  where
    by : (c : Bool) → IsNarrow (moves_below t j way k m) →
        IsNarrow (cond c (neg_ℚ (directed way (entry_at t m j))) (moves_below t j way k m))
    by true h =
        neg_narrow (directed way (entry_at t m j))
        (directed_narrow way (entry_at t m j) (place_narrow t.entries n.entries m j))
    by false h = h

pub point_narrow : (t : Tableau) → AreNarrow t → All IsNarrow (point t)
point_narrow t n = All-made IsNarrow t.cols (value_at t) (λ k l. number_at t.value n.value k)

-- the multipliers of a tableau with numbers of at most 127 bits have at most 127 bits
multipliers_narrow : (t : Tableau) → AreNarrow t → All IsNarrow (multipliers t)
multipliers_narrow t n =
    All-made IsNarrow t.rows (λ i. reduced_at t (t.cols + i)) (λ i l. number_at t.reduced n.reduced (t.cols + i))

-- the certificate of any end at a tableau with numbers of at most 127 bits has numbers of at most 127 bits
end_narrow : (t : Tableau) (end : PrimalEnd) → AreNarrow t → IsNarrowCertificate (certificate_at t end)
end_narrow t Optimal n = (point_narrow t n, multipliers_narrow t n)
end_narrow t (Unbounded j way) n =
    (point_narrow t n, All-made IsNarrow t.cols (moves_by t j way) (λ k l. moves_narrow t j way k t.rows n))

-- the certificate of an end of both phases with numbers of at most 127 bits has numbers of at most 127 bits
certificate_narrow : (e : PhasesEnd) → NarrowEnd e → IsNarrowCertificate (certificate_of e)
certificate_narrow (Infeasible t used) n = multipliers_narrow t n
certificate_narrow (Finished e) n = end_narrow e.tableau e.end n

-- ---- the whole solve

module _ (known : Known ℚ) (cert : Certificate (List ℚ)) (basis : Option (List Status)) (pivots : ℕ) where
  -- the end has just this answer, certificate, basis and count of pivots
  abbrev IsThisEnd : ExactSolveEnd → Type 0
  IsThisEnd o = o ≡ outcome.Ended known cert basis pivots

  -- where the check of a certificate of numbers of at most 127 bits makes this end, the end's certificate has such
  -- numbers
  pub by_check : (c : Certificate (List ℚ)) (b : Option (List Status)) (n : ℕ) (run : Result (Known ℚ) (CheckStop ℚ)) →
      IsThisEnd (checked c b n run) → IsNarrowCertificate c → IsNarrowCertificate cert
  by_check c b n (Ok a) e h =
      let z : ◌≡◌ {A = ExactSolveEnd} (outcome.Ended a c b n) (outcome.Ended known cert basis pivots) = e in
      let same : c ≡ cert = cc in
      subst IsNarrowCertificate same h
  by_check c b n (Err (check.Past p)) e h =
      let z : ◌≡◌ {A = ExactSolveEnd} (outcome.Past p) (outcome.Ended known cert basis pivots) = e in cc
  by_check c b n (Err (check.No k)) e h =
      let z : ◌≡◌ {A = ExactSolveEnd} outcome.Spent (outcome.Ended known cert basis pivots) = e in cc

  -- where what comes after both phases is this end, and their end has numbers of at most 127 bits, so has the
  -- certificate
  by_phases : (m : Model) (o : Result PhasesEnd (Spending ℚ)) → IsThisEnd (after_phases (Some number_limit) m o) →
      ((p : PhasesEnd) → o ≡ Ok p → NarrowEnd p) → IsNarrowCertificate cert
  by_phases m (Ok p) e h =
      by_check (certificate_of p) (basis_of p) (pivots_of p) (check_run (Some number_limit) m (certificate_of p)) e
      (certificate_narrow p (h p refl))
  by_phases m (Err (stop.Past p)) e h =
      let z : ◌≡◌ {A = ExactSolveEnd} (outcome.Past p) (outcome.Ended known cert basis pivots) = e in cc
  by_phases m (Err stop.Spent) e h =
      let z : ◌≡◌ {A = ExactSolveEnd} outcome.Spent (outcome.Ended known cert basis pivots) = e in cc

  -- where what comes after a model's form is this end, and the form has numbers of at most 127 bits, so has the
  -- certificate
  by_form : (budget : ℕ) (m : Model) (o : Result Form (FormFault ℚ)) →
      IsThisEnd (after_form (Some number_limit) budget m o) → ((f : Form) → o ≡ Ok f → IsNarrowForm f) →
      IsNarrowCertificate cert
  by_form budget m (Ok f) e h =
      by_phases m (phases_run (Some number_limit) budget f) e (λ p q. phases_narrow budget f p q (h f refl))
  by_form budget m (Err (fault.Clash j)) e h =
      by_check (certificate.Clash j) None 0 (check_run (Some number_limit) m (certificate.Clash j)) e tt
  by_form budget m (Err (fault.Past p)) e h =
      let z : ◌≡◌ {A = ExactSolveEnd} (outcome.Past p) (outcome.Ended known cert basis pivots) = e in cc

  -- the certificate with which a cold solve of a kept model ends, at the program's limit, has numbers of at most 127
  -- bits
  pub cold_narrow : (budget : ℕ) (m : Model) → IsModel m →
      cold (Some number_limit) budget m ≡ outcome.Ended known cert basis pivots → IsNarrowCertificate cert
  unfolding cold
  cold_narrow budget m kept e =
      by_form budget m (form_of (Some number_limit) m) e
      (λ f q. form_narrow m f q (record { rows = kept.narrow_rows; columns = kept.narrow_columns }))
