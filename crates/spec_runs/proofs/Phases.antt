-- What both phases end with is accepted.
use Rattle.std.proofs.Common.{◌≡◌, ℕ, ◌+◌, ◌-◌, ◌<◌, ◌≤◌, List, Option, Ok}
use Rattle.std.proofs.Common.{true, false, not, ◌&&◌, sym, ap, ◌∙◌, arith}
use Rattle.std.proofs.lemmas.Bool.{leb-true, and_parts}
use Rattle.spec_exact.specs.Fraction.{ℚ, 0ℚ, eq_ℚ}
use Rattle.spec_exact.proofs.Same.{eq_test}
use Rattle.spec_model.specs.Model.{Model, width, height}
use Rattle.spec_simplex.specs.Form.{Form, formed}
use Rattle.spec_simplex.specs.Start.{cost_at, first_costs}
use Rattle.spec_simplex.specs.Tableau.{Tableau, form_columns, is_artificial, basic_at, value_at}
use Rattle.spec_simplex.specs.Phases.{PrimalEnded, is_stuck}
use Rattle.spec_simplex.specs.Phases.{phase_two_run, PhasesEnd, phases_run}
use Rattle.spec_simplex.specs.Tables.{table_of, bounds_of}
use Rattle.spec_simplex.specs.Begins.{form_rows, signs_of}
use Rattle.spec_runs.specs.Cold.{multipliers, certificate_at, certificate_of}
use Rattle.spec_simplex.proofs.Walks.{IsEnd}
use Rattle.spec_simplex.proofs.FirstTableau.{Started}
use Rattle.spec_simplex.proofs.PhaseTwo.{some_of}
use Rattle.spec_simplex.proofs.FormOfModel.{Limited}
use Rattle.spec_runs.proofs.EndInfeasible.{infeasible_checks}
use Rattle.spec_runs.proofs.Shown.{Shows, multipliers_length, multiplier_at, primal_shows}
use Rattle.spec_check.specs.declared.certificate.Certificate.TheVariants as certificate
use Rattle.spec_simplex.proofs.Phases.{IsFirst, first_bounds, wanted_where_stuck, second_bounds, second_fixed}
use Rattle.spec_simplex.proofs.Phases.{by_phases}

module _ (limit : Option ℕ) (m : Model) (ls : List (Option ℚ × Option ℚ)) (h : Limited m ls) where
  abbrev f : Form
  f = formed m ls

  abbrev w : ℕ
  w = width m

  abbrev r : ℕ
  r = height m

  abbrev F : (t : Tableau) → Started f t → ℕ → ℕ → ℚ
  F t s = form_rows f (signs_of s.starts)

  abbrev first_cost_at : (t : Tableau) → Started f t → ℕ → ℚ
  first_cost_at t s = cost_at (first_costs f s.starts)

  -- where an artificial is not 0 at the end of phase one, the multipliers of its last tableau show that the model is
  -- infeasible
  stuck_shows : (t : Tableau) (s : Started f t) (one : PrimalEnded) → IsFirst limit m ls h t s one →
      is_stuck one.tableau ≡ true →
      Shows m (certificate.Infeasible (multipliers one.tableau))
  stuck_shows t s one o p =
      let u : Tableau = one.tableau in
      let at = some_of (λ k. is_artificial u k && not (eq_ℚ (value_at u k) 0ℚ)) u.basic 0 p in
      let two = and_parts (is_artificial u (basic_at u at.0)) (not (eq_ℚ (value_at u (basic_at u at.0)) 0ℚ)) at.2 in
      let k : ℕ = basic_at u at.0 in
      let k_least : form_columns u ≤ k = leb-true (form_columns u) k two.0 in
      let k_in : k < w + r + r =
      o.after.tableau.in_range at.0 (omega (arith, at.1, o.after.whole.all_basic, o.after.rows)) in
      let k_is : w + r + (k - (w + r)) ≡ k = omega (arith, k_least, o.after.rows, o.after.cols) in
      record {
        for = multipliers_length r w (F t s) (first_cost_at t s) (bounds_of t) u o.after;
        checks =
            infeasible_checks m ls h s.starts s.all (bounds_of t) (first_bounds limit m ls h t s) s.artificial
            (table_of u) o.after.tableau o.within (o.none (wanted_where_stuck limit m ls h t s one o p)) (multipliers u)
            (multiplier_at r w (F t s) (first_cost_at t s) (bounds_of t) u o.after)
            (k - (w + r)) (omega (arith, k_least, o.after.rows, o.after.cols, k_in))
            (λ z. not_zero (value_at u k) (ap (value_at u) (sym k_is) ∙ z) two.1);
      }
    where
      not_zero : (v : ℚ) → v ≡ 0ℚ → ¬ (not (eq_ℚ v 0ℚ) ≡ true)
      not_zero v e g = let z : false ≡ true = sym (ap not (eq_test v 0ℚ e)) ∙ g in cc

  end_shows : (t : Tableau) (s : Started f t) (one : PrimalEnded) (o : IsFirst limit m ls h t s one)
      (free : is_stuck one.tableau ≡ false) (u : Tableau) (ok : phase_two_run limit f one.tableau ≡ Ok u)
      (e : PrimalEnded) →
      IsEnd limit r w (F t s) (cost_at f.cost) (bounds_of u) u one.used e →
      Shows m (certificate_at e.tableau e.end)
  end_shows t s one o free u ok e d = primal_shows m ls h (signs_of s.starts) (bounds_of u)
      (second_bounds limit m ls h t s one o free u ok)
      (second_fixed limit m ls h t s one o free u ok) limit e d.after d.within d.end

  -- the certificate of what both phases of a model's form end with shows its answer of the model
  pub phases_show : (budget : ℕ) (end : PhasesEnd) → phases_run limit budget f ≡ Ok end → Shows m (certificate_of end)
  phases_show budget =
      by_phases limit m ls h budget (λ end. Shows m (certificate_of end)) stuck_shows end_shows
