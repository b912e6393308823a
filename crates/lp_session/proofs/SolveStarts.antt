-- What a solve of a session ends with, and from which basis it starts.
--
-- `end_of`: an end that answers the model within some budget is an end of the model that is held.
-- `found_fits`: the basis in words that fit a form is a basis of that form.
-- `left_formed`: the words of the basis that an end leaves are well formed.
use Rattle.std.proofs.Common.{◌≡◌, ℕ, List, Option, Some, None, Result, IfOk, sym, ap, ◌∙◌, subst, subst₂}
use Rattle.spec_model.specs.Model.{Model}
use Rattle.spec_check.specs.declared.certificate.Known.TheVariants as known
use Rattle.spec_pivot.specs.declared.status.Status.{Status}
use Rattle.spec_simplex.specs.Form.{Form, IsForm}
use Rattle.spec_simplex.specs.Eliminate.{IsBasisOf}
use Rattle.spec_check.specs.declared.solve_end.SolveEnd.TheVariants.{Ended, Past, Spent}
use Rattle.spec_runs.specs.Cold.{ExactSolveEnd}
use Rattle.spec_runs.specs.declared.ends.Route.{Route}
use Rattle.spec_runs.specs.Solve.{solve_end}
use Rattle.spec_solve.specs.Answers.{MayAnswer, IsSolved}
use Rattle.spec_board.specs.Words.{IsWellFormed, packed, unpacked}
use Rattle.spec_board.proofs.PackedBases.{packed_fits, unpacked_fits}
use Rattle.spec_board.specs.declared.read.Found.{Found}
use Rattle.spec_board.specs.Reads.{Words, Looked}
use Rattle.spec_server.specs.Step.{handed_by, words_of_end}
use Rattle.lp_solve.specs.Fit.{LeavesBasis}
use Rattle.lp_session.specs.Parts.{IsEndOf, FitsForm, IsSolvedBy}

pub end_of : (model : Option Model) (m : Model) (budget : ℕ) (end : ExactSolveEnd) → model ≡ Some m →
    MayAnswer m budget end →
    IsEndOf model end
end_of model m budget end e may = subst (λ model. IsEndOf model end) (sym e) (budget, may)

-- ---- the basis that was found is one of the form
pub found_fits : (f : Form) (found : Looked) (place : Found Words) (basis : List Status) → IsForm f → FitsForm f found →
    found ≡ Some place → basis ≡ unpacked place.words → IsBasisOf f basis
found_fits f found place basis is fits e b =
    let g : FitsForm f (Some place) = subst (FitsForm f) e fits in
    subst (IsBasisOf f) (sym b) (unpacked_fits f is place.words g.1 g.0)

-- ---- the model that is held is solved, from what was found
module _ {E : Type 0} (model : Option Model) (m : Model) (budget kept : ℕ) (found : Looked) where
  -- where a place was found, a solve of the session's model from the place's basis is a solve by what was found
  pub solved_found : (place : Found Words) (basis : List Status) (result : Result (ExactSolveEnd × Route) E) → model ≡ Some m →
      budget ≡ kept → found ≡ Some place → basis ≡ unpacked place.words →
      IfOk result (λ s. IsSolved m budget (Some basis) (solve_end s)) →
      IfOk result (λ s. IsSolvedBy model kept found (solve_end s))
  solved_found place basis result held same is b h =
      subst (λ model. IfOk result (λ s. IsSolvedBy model kept found (solve_end s))) (sym held)
      (subst₂ (λ budget handed. IfOk result (λ s. IsSolved m budget handed (solve_end s))) same (ap Some b ∙ sym (ap handed_by is)) h)

  -- where nothing was found, a solve of the session's model from no basis is a solve by what was found
  pub solved_nothing : (result : Result (ExactSolveEnd × Route) E) → model ≡ Some m → budget ≡ kept → found ≡ None →
      IfOk result (λ s. IsSolved m budget None (solve_end s)) → IfOk result (λ s. IsSolvedBy model kept found (solve_end s))
  solved_nothing result held same is h =
      subst (λ model. IfOk result (λ s. IsSolvedBy model kept found (solve_end s))) (sym held)
      (subst₂ (λ budget handed. IfOk result (λ s. IsSolved m budget handed (solve_end s))) same (sym (ap handed_by is)) h)

-- ---- the words of an optimum
pub left_formed : (f : Form) (end : ExactSolveEnd) (words : Words) → IsForm f → LeavesBasis f end →
    Some words ≡ words_of_end f end → IsWellFormed words
left_formed f (Ended (known.Optimal v) c (Some left) pivots) words is leaves e =
    let same : words ≡ packed f left = cc in subst IsWellFormed (sym same) (packed_fits f is left leaves)
left_formed f (Ended (known.Optimal v) c None pivots) words is leaves e = let z : Some words ≡ None = e in cc
left_formed f (Ended known.Infeasible c left pivots) words is leaves e = let z : Some words ≡ None = e in cc
left_formed f (Ended known.Unbounded c left pivots) words is leaves e = let z : Some words ≡ None = e in cc
left_formed f (Past p) words is leaves e = let z : Some words ≡ None = e in cc
left_formed f Spent words is leaves e = let z : Some words ≡ None = e in cc
