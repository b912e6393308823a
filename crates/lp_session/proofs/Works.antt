-- How a solve goes on.
use Rattle.std.proofs.Common.{◌≡◌, ℕ, Bool, true, false, Option, Some, None, refl, sym, ap, ap₂, ◌∙◌, cond, inl}
use Rattle.spec_model.specs.Model.{Model}
use Rattle.spec_simplex.specs.Form.{Form}
use Rattle.spec_runs.specs.Solve.{SolveEnd}
use Rattle.spec_board.specs.Reads.{Words, Looked}
use Rattle.spec_server.specs.declared.answer.How.{How}
use Rattle.spec_server.specs.declared.answer.Publication.TheVariants as publication
use Rattle.spec_server.specs.Machine.{ExactReply, State}
use Rattle.spec_server.specs.Step.{Worked, Ends, Publishes, Works, answered, with_answer}
use Rattle.spec_server.specs.Step.{how_by, is_found, words_of_end, worked_with}
use Rattle.lp_session.specs.Parts.{IsFormHeld, IsEndOf, IsSolvedBy}

-- where a solve of the session's model, from what was found, has an end, it is an end of that model
pub solved_end : (model : Option Model) (budget : ℕ) (found : Looked) (solved : SolveEnd) →
    IsSolvedBy model budget found solved → IsEndOf model solved.end
solved_end None budget found solved h = absurd h
solved_end (Some m) budget found solved h = (budget, h.may_answer)

module _ (old : State) (found : Looked) (f : Form) (solved : SolveEnd) (how : How) (words : Option Words)
    (formed : IsFormHeld old.model f) (is_solved : IsSolvedBy old.model old.budget found solved)
    (is_how : how ≡ how_by found solved.route) (are_words : words ≡ words_of_end f solved.end) where
  -- what a solve does by how it ended is what a solve may do after its look
  works : (worked : Worked) → worked ≡ worked_with old found solved.end how words → Works old found worked
  works worked e = by old.model refl formed is_solved
    where
      by : (model : Option Model) → old.model ≡ model → IsFormHeld model f → IsSolvedBy model old.budget found solved →
          Works old found worked
      by None held formed is_solved = absurd formed
      by (Some m) held formed is_solved =
          inl (record {
            model = m;
            form = f;
            solved = solved;
            held = held;
            formed = formed;
            is_solved = is_solved;
            goes_on = e ∙ ap₂ (worked_with old found solved.end) is_how are_words;
          })

  -- where a solve leaves no basis, its work ends with the answer, and publishes nothing
  pub ends_without : (replied : ExactReply) (new : State) → words ≡ None → replied ≡ answered old solved.end →
      new ≡ with_answer old solved.end how publication.Nothing → Works old found (Ends replied new)
  ends_without replied new none r n =
      works (Ends replied new) (ap₂ Ends r n ∙ sym (ap (worked_with old found solved.end how) none))

  module _ (left : Words) (some : words ≡ Some left) where
    -- what a solve that left these words does, by whether the look found the same words
    abbrev by : Bool → Worked
    by same =
        cond same (Ends (answered old solved.end) (with_answer old solved.end how publication.Same))
        (Publishes (record { end = solved.end; how = how; words = left }))

    -- a solve that left words goes on by whether the look found these words
    by_found : (same : Bool) → is_found found left ≡ same → worked_with old found solved.end how words ≡ by same
    by_found same e = ap (worked_with old found solved.end how) some ∙ ap by e

    -- where a solve leaves the basis that was found, its work ends with the answer, and publishes nothing as it is the
    -- same
    pub ends_same : (replied : ExactReply) (new : State) → is_found found left ≡ true →
        replied ≡ answered old solved.end → new ≡ with_answer old solved.end how publication.Same →
        Works old found (Ends replied new)
    ends_same replied new same r n = works (Ends replied new) (ap₂ Ends r n ∙ sym (by_found true same))

    -- where a solve leaves another basis than was found, its work goes on to publish the words of that basis
    pub publishes : is_found found left ≡ false →
        Works old found (Publishes (record { end = solved.end; how = how; words = left }))
    publishes other =
        works (Publishes (record { end = solved.end; how = how; words = left })) (sym (by_found false other))
