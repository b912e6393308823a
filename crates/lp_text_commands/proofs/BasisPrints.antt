-- What is written of a solve from the basis of a file.
--
-- `whole_lines`: the lines of the end and the text of the final basis are what `basis` writes of a solve.
-- `start_has`: the basis that a solve starts from is a basis of the model's form.
-- `solve_leaves`: a solve from a basis of a form leaves a basis of that form, where it leaves one.
use Rattle.std.proofs.Common.{◌≡◌, ℕ, List, ◌++◌, Option, Some, None, option_map, Result, Ok, Err, OnOk, ap, sym, subst, refl, ◌∙◌}
use Rattle.std.proofs.Common.{append-nil}
use Rattle.std.proofs.lemmas.Result.{on_ok_weaker}
use Rattle.spec_exact.specs.Fraction.{ℚ}
use Rattle.spec_exact.specs.Narrow.{number_limit}
use Rattle.spec_model.specs.Model.{Model}
use Rattle.spec_simplex.specs.declared.ends.FormFault.{FormFault}
use Rattle.spec_simplex.specs.Form.{Form, form_of}
use Rattle.spec_runs.specs.Solve.{SolveEnd}
use Rattle.spec_solve.specs.Answers.{IsSolved}
use Rattle.spec_server.specs.Machine.{opening_budget}
use Rattle.spec_commands.specs.BasisOut.{Handed, basis_lines, final_text}
use Rattle.spec_check.specs.declared.certificate.Known.TheVariants as known
use Rattle.spec_check.specs.declared.solve_end.SolveEnd.TheVariants.{Ended}
use Rattle.spec_runs.specs.Cold.{ExactSolveEnd}
use Rattle.spec_runs.specs.Solve.{HasBasis}
use Rattle.spec_solve.proofs.Left.{solved_left}
use Rattle.lp_solve.specs.Fit.{LeavesBasis}
use Rattle.lp_text_commands.specs.declared.basis.starting.Start.{Start}
use Rattle.lp_text_commands.specs.Handed.{handed_of, IsStartOf}
use Rattle.lp_text_commands.specs.Ends.{end_lines}

-- ---- the whole

-- by the form that the model has
pub whole_lines : (m : Model) (form : Result Form (FormFault ℚ)) (solved : SolveEnd) →
    form_of (Some number_limit) m ≡ form → end_lines m solved ++ final_text m form solved.end ≡ basis_lines m solved
unfolding basis_lines
whole_lines m form solved formed = ap (λ o. end_lines m solved ++ final_text m o solved.end) (sym formed)

-- of a model without a form, the lines of the end without a basis file are all that `basis` writes of a solve
formless_lines : (m : Model) (why : FormFault ℚ) (solved : SolveEnd) → form_of (Some number_limit) m ≡ Err why →
    end_lines m solved ≡ basis_lines m solved
formless_lines m why solved formless =
    sym (append-nil (end_lines m solved)) ∙ whole_lines m (Err why) solved formless

-- ---- from a basis

pub start_has : (m : Model) (start : Start) → IsStartOf m (Some start) → HasBasis (Some number_limit) m start.basis
start_has m start is = (start.form, is.0, is.1)

-- the basis that is left is one of the same form
pub solve_leaves : (m : Model) (budget : ℕ) (start : Start) (solved : SolveEnd) → IsStartOf m (Some start) →
    IsSolved m budget (Some start.basis) solved → LeavesBasis start.form solved.end
solve_leaves m budget start solved is h = by solved.end refl
  where
    by : (end : ExactSolveEnd) → solved.end ≡ end → LeavesBasis start.form end
    by (Ended (known.Optimal v) c (Some left) pivots) e =
        solved_left (known.Optimal v) c left pivots m budget start.form is.0 solved e (Some start.basis) is.1 h
    by end e = tt

-- ---- of a model that is handed with where its solve starts

module _ (m : Model) (handed : Handed) (from : Option Start) (view : handed_of m from ≡ handed) (is : IsStartOf m from)
    (solved : SolveEnd) where
  -- a solve from a basis of the model's form leaves a basis of that form, where it leaves one
  pub leaves_basis : (start : Start) → from ≡ Some start →
      IsSolved handed.model opening_budget handed.basis solved → LeavesBasis start.form solved.end
  leaves_basis start e h =
      let of_start : IsSolved m opening_budget (option_map (λ (s : Start). s.basis) from) solved =
      subst (λ (o : Handed). IsSolved o.model opening_budget o.basis solved) (sym view) h in
      solve_leaves m opening_budget start solved (subst (IsStartOf m) e is)
      (subst (λ (o : Option Start). IsSolved m opening_budget (option_map (λ (s : Start). s.basis) o) solved) e of_start)

  -- where the lines that `basis` writes of a solve are appended, they are those of the model that was handed
  written_of : {T E : Type 0} (lines before after : List ℕ) (result : Result T E) → lines ≡ basis_lines m solved →
      OnOk result (after ≡ before ++ lines) → OnOk result (after ≡ before ++ basis_lines handed.model solved)
  written_of lines before after result e h =
      subst (λ (o : Handed). OnOk result (after ≡ before ++ basis_lines o.model solved)) view
      (on_ok_weaker result (λ written. written ∙ ap (λ bs. before ++ bs) e) h)

  -- where the end and its basis file are appended, what is appended is what `basis` writes of a solve from a basis
  pub whole_written : {T E : Type 0} (start : Start) → from ≡ Some start → (before after : List ℕ)
      (result : Result T E) →
      OnOk result (after ≡ before ++ (end_lines m solved ++ final_text m (Ok start.form) solved.end)) →
      OnOk result (after ≡ before ++ basis_lines handed.model solved)
  whole_written start e before after result h =
      let at : IsStartOf m (Some start) = subst (IsStartOf m) e is in
      written_of (end_lines m solved ++ final_text m (Ok start.form) solved.end) before after result
      (whole_lines m (Ok start.form) solved at.0) h

  -- where the end is appended, what is appended is what `basis` writes of a solve of a model without a form
  pub formless_written : {T E : Type 0} → from ≡ None → (before after : List ℕ) (result : Result T E) →
      OnOk result (after ≡ before ++ end_lines m solved) →
      OnOk result (after ≡ before ++ basis_lines handed.model solved)
  formless_written e before after result h =
      let at : IsStartOf m None = subst (IsStartOf m) e is in
      written_of (end_lines m solved) before after result (formless_lines m at.0 solved at.1) h
