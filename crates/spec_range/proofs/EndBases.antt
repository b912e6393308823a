-- The basis that the cold solve of a model leaves at an optimal end keeps the model.
use Rattle.std.proofs.Common.{◌≡◌, ℕ, ◌+◌, ◌<◌, List, Option, Some, None, Ok, refl, sym, ap, ◌∙◌, subst, arith}
use Rattle.spec_exact.specs.Fraction.{ℚ, 0ℚ}
use Rattle.spec_exact.specs.Run.{made}
use Rattle.spec_model.specs.Model.{Model, width, height}
use Rattle.spec_check.specs.Checks.{Checks}
use Rattle.spec_pivot.specs.declared.status.Status.{Status}
use Rattle.spec_simplex.specs.declared.ends.PrimalEnd.{PrimalEnd}
use Rattle.spec_simplex.specs.declared.ends.PrimalEnd.TheVariants.{Optimal, Unbounded}
use Rattle.spec_simplex.specs.Form.{Form, form_of, formed}
use Rattle.spec_simplex.specs.Start.{cost_at, start_at}
use Rattle.spec_simplex.specs.Tableau.{Tableau, form_columns, value_at}
use Rattle.spec_simplex.specs.Phases.{PrimalEnded, PhasesEnd, Finished, phases_run, phase_two_run, is_stuck}
use Rattle.std.proofs.Common.{false}
use Rattle.spec_simplex.specs.Begins.{form_rows, signs_of}
use Rattle.spec_simplex.specs.Tables.{bounds_of}
use Rattle.spec_simplex.proofs.FirstTableau.{Started, sign_square}
use Rattle.spec_simplex.proofs.FormOfModel.{Limited, form_is}
use Rattle.spec_simplex.proofs.Phases.{IsFirst, by_phases, second_bounds, second_fixed}
use Rattle.spec_simplex.proofs.Walks.{IsEnd}
use Rattle.spec_simplex.proofs.LimitStart.{form_without}
use Rattle.spec_runs.specs.Cold as cold
use Rattle.spec_runs.proofs.EndOptimal.{zero_inside}
use Rattle.spec_runs.proofs.Shown.{primal_shows}
use Rattle.spec_range.specs.Span.{Keeps}
use Rattle.spec_range.proofs.EndKeeps.{end_keeps}

module _ (limit : Option ℕ) (m : Model) (ls : List (Option ℚ × Option ℚ)) (h : Limited m ls)
    (formed_ : form_of None m ≡ Ok (formed m ls)) where
  -- the basis that both phases leave, if they leave one, keeps the model
  abbrev Leaves : PhasesEnd → Type 0
  Leaves e = (left : List Status) → cold.basis_of e ≡ Some left → Keeps m left

  -- where phase two ends, the basis that it leaves keeps the model
  finished : (t : Tableau) (s : Started (formed m ls) t) (one : PrimalEnded) (o : IsFirst limit m ls h t s one)
      (free : is_stuck one.tableau ≡ false) (u : Tableau) (ok : phase_two_run limit (formed m ls) one.tableau ≡ Ok u)
      (e : PrimalEnded) → IsEnd limit (height m) (width m) (form_rows (formed m ls) (signs_of s.starts))
      (cost_at (formed m ls).cost) (bounds_of u) u one.used e → Leaves (Finished e)
  finished t s one o free u ok e d left = by e.end refl
    where
      zero : (i : ℕ) → i < height m → value_at e.tableau (width m + height m + i) ≡ 0ℚ
      zero i l =
          let z = second_fixed limit m ls h t s one o free u ok i l in
          zero_inside ((bounds_of u).lower (width m + height m + i)) ((bounds_of u).upper (width m + height m + i))
          (value_at e.tableau (width m + height m + i)) z.0 z.1 (d.within (width m + height m + i) (omega (arith, l)))

      by : (end : PrimalEnd) → e.end ≡ end → cold.basis_at e.tableau end ≡ Some left → Keeps m left
      by (Unbounded j way) q r = let z : None ≡ Some left = r in cc
      by Optimal q r =
          let z : made (form_columns e.tableau) (cold.basis_status e.tableau) ≡ left = cc in
          subst (Keeps m) z
          (end_keeps m ls h formed_ (signs_of s.starts) (λ i. sign_square (start_at s.starts i)) (bounds_of u)
          (second_bounds limit m ls h t s one o free u ok) e.tableau d.after.rows d.after.cols d.after.tableau zero
          (subst (λ end. Checks m (cold.certificate_at e.tableau end)) q
          (primal_shows m ls h (signs_of s.starts) (bounds_of u) (second_bounds limit m ls h t s one o free u ok)
          (second_fixed limit m ls h t s one o free u ok) limit e d.after d.within d.end).checks))

  -- where both phases end, the basis that they leave keeps the model
  leaves : (budget : ℕ) (e : PhasesEnd) → phases_run limit budget (formed m ls) ≡ Ok e → Leaves e
  leaves budget =
      by_phases limit m ls h budget Leaves
      (λ t s one o stuck left r. let z : None ≡ Some left = r in cc) finished

-- where both phases of a model's form end and leave a basis, this basis keeps the model
pub bases_keep : (limit : Option ℕ) (budget : ℕ) (m : Model) (f : Form) (e : PhasesEnd) (left : List Status) →
    form_of limit m ≡ Ok f → phases_run limit budget f ≡ Ok e → cold.basis_of e ≡ Some left → Keeps m left
bases_keep limit budget m f e left p q r =
    let o = form_is limit m f p in
    leaves limit m o.0 o.1 (form_without limit m f p ∙ ap Ok (sym o.2)) budget e
    (ap (phases_run limit budget) o.2 ∙ q) left r
