-- Where a line leads from a stage, for readings whose step is a definition and whose lines are counted.
use Rattle.std.proofs.Common.{◌≡◌, ℕ, ◌+◌, ◌≤◌, Result, Ok, Err, List, arith, ap, sym, ◌∙◌}
use Rattle.std.specs.Prelude.{IfOk}
use Rattle.spec_text.specs.declared.line.Line.{Line}
use Rattle.spec_text.specs.declared.line.Line.TheVariants.{End}
use Rattle.spec_server.specs.Said as said
use Rattle.lp_line.specs.declared.hearing.Step.{Step}
use Rattle.lp_line.specs.declared.hearing.Step.TheVariants as step
use Rattle.lp_line.specs.Hearing.{Leads}
use Rattle.lp_text_commands.specs.Leading.{step_by, says_by}

-- a step of a reading leads to at most one state
pub on_same : {S R : Type 0} (a b : S) → ◌≡◌ {A = said.Step S R} (said.On a) (said.On b) → a ≡ b
on_same a b e = cc

module _ {T S R : Type 0} (stage_of : T → S) (advance : S → Line (List ℕ) → said.Step S R)
    (count_of : T → ℕ) (lines_in : S → ℕ) (count_is : (at : T) → lines_in (stage_of at) ≡ count_of at)
    (step_counts : (at next : S) (line : Line (List ℕ)) → advance at line ≡ said.On next →
    lines_in next ≤ lines_in at + 1)
    (end_says : (at next : S) → advance at End ≡ said.On next → ⊥) where
  -- where a line leads to a further stage, that counts at most one line more
  counted : (at next : T) (line : Line (List ℕ)) → advance (stage_of at) line ≡ said.On (stage_of next) →
      count_of next ≤ count_of at + 1
  counted at next line e =
      let h = step_counts (stage_of at) (stage_of next) line e in omega (arith, h, count_is at, count_is next)

  -- where the code's step from a stage is the definition's step by a line, the line leads to what the step leads to
  leads : (at : T) (line : Line (List ℕ)) (made : Step T R) → step_by stage_of made ≡ advance (stage_of at) line →
      Leads (says_by stage_of advance) count_of at line made
  leads at line (step.On next) e = record {
    behind = λ more answer h. ap (λ st. said.follow st (λ s. said.said_by advance s more)) (sym e) ∙ h;
    counts = counted at next line (sym e);
    no_end = λ h. end_says (stage_of at) (stage_of next) (ap (advance (stage_of at)) (sym h) ∙ sym e);
  }
  leads at line (step.Says what) e = λ more. ap (λ st. said.follow st (λ s. said.said_by advance s more)) (sym e)

  -- where the code's step from a stage that equals `self` is the definition's step by a line, the line leads from
  -- `self` to what the step leads to
  pub leads_from : {E : Type 0} (self at : T) (line : Line (List ℕ)) (result : Result (Step T R) E) →
      self ≡ at → IfOk result (λ made. step_by stage_of made ≡ advance (stage_of at) line) →
      IfOk result (Leads (says_by stage_of advance) count_of self line)
  leads_from self at line (Ok made) is e = leads self line made (e ∙ ap (λ s. advance (stage_of s) line) (sym is))
  leads_from self at line (Err why) is e = tt
