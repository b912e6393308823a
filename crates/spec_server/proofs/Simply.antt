-- What a step replies and leaves, whatever it reads: what is due, or memory runs out.
use Rattle.std.proofs.Common.{◌≡◌, ℕ, Bool, true, false, cond, List, Option, Some, None, Result, Ok, Err, refl, sym}
use Rattle.std.proofs.Common.{◌∙◌, subst, ◌⊎◌, inl, inr}
use Rattle.spec_exact.specs.Fraction.{ℚ}
use Rattle.spec_exact.specs.Narrow.{number_limit}
use Rattle.spec_model.specs.Model.{Model}
use Rattle.spec_edit.specs.Edited.{ExactEdit, OrFault, edited}
use Rattle.spec_simplex.specs.declared.ends.FormFault.{FormFault}
use Rattle.spec_simplex.specs.Form.{Form, form_of}
use Rattle.spec_runs.specs.Cold.{ExactSolveEnd, cold}
use Rattle.spec_solve.specs.Answers.{MayAnswer}
use Rattle.spec_solve.specs.Exact.{RationalEnd, IsExactEnd}
use Rattle.spec_solve.proofs.Solves.{formless_solved}
use Rattle.spec_board.specs.Reads.{Words, ExactRead, Looked}
use Rattle.spec_server.specs.declared.answer.How.{How}
use Rattle.spec_server.specs.declared.answer.How.TheVariants as how
use Rattle.spec_server.specs.declared.answer.Publication.{Publication}
use Rattle.spec_server.specs.declared.answer.Publication.TheVariants as publication
use Rattle.spec_server.specs.declared.asks.Ask.TheVariants as ask
use Rattle.spec_server.specs.declared.asks.Reply.TheVariants as reply
use Rattle.spec_server.specs.declared.command.Plain.TheVariants as command
use Rattle.spec_server.specs.Machine.{ExactAsk, ExactReply, State, Due, Replies, Solves, SolvesWide, solve_due, wide_due}
use Rattle.spec_server.specs.Machine.{edit_due, change_due, due}
use Rattle.spec_server.specs.WideLines.{wide_lines}
use Rattle.spec_server.specs.Step.{answered, with_answer, solve_begun, Begun, BegunBy, Begins, Worked, Ends, Publishes}
use Rattle.spec_server.specs.Step.{how_by, is_found, words_of_end, worked_with, SolvesWith, Works, Concludes, GoesOn}
use Rattle.spec_server.specs.Step.{AloneStep}

-- a solve of the model m, which `old` holds, replies an answer that the model may have, and `new` keeps it as the last
pub record SolveStep (old : State) (m : Model) (replied : ExactReply) (new : State) : Type 0 where
  pub end : ExactSolveEnd
  pub how : How
  pub publication : Publication
  pub held : old.model ≡ Some m
  pub may_answer : MayAnswer m old.budget end
  pub answer : replied ≡ answered old end
  pub kept : new ≡ with_answer old end how publication

-- an exact solve of the model m, which `old` holds, replies the lines of an end that it may have, and the state stays
pub record WideStep (old : State) (m : Model) (replied : ExactReply) (new : State) : Type 0 where
  pub end : RationalEnd
  pub held : old.model ≡ Some m
  pub is_end : IsExactEnd m old.budget None end
  pub answer : replied ≡ reply.Wide (wide_lines m end)
  pub stays : new ≡ old

-- what is due in the state `old` is done, with this reply and the state `new`: the reply that is due, or a solve, or an
-- exact solve
abbrev pub Does : State → Due → ExactReply → State → Type 0
Does old (Replies stated next) replied new = (replied ≡ stated) × (new ≡ next)
Does old (Solves m) replied new = SolveStep old m replied new
Does old (SolvesWide m) replied new = WideStep old m replied new

-- the reply is `MEMORY`, and the state `new` is `old`
pub record WantsMemory (old : State) (replied : ExactReply) (new : State) : Type 0 where
  pub memory : replied ≡ reply.Memory
  pub stays : new ≡ old

-- ---- only the command SOLVE has a solve for its due, and WIDE an exact one, and of the model that is held

module _ (old : State) (m : Model) where
  -- where a solve of m is due to `SOLVE`, m is the model that is held
  solve_held : (held : Option Model) → solve_due old held ≡ Solves m → held ≡ Some m
  solve_held None e = cc
  solve_held (Some n) e = cc

  -- to `SOLVE` no exact solve is due
  solve_not_wide : (held : Option Model) → solve_due old held ≡ SolvesWide m → ⊥
  solve_not_wide None e = cc
  solve_not_wide (Some n) e = cc

  -- where an exact solve of m is due to `WIDE`, m is the model that is held
  wide_held : (held : Option Model) → wide_due old held ≡ SolvesWide m → held ≡ Some m
  wide_held None e = cc
  wide_held (Some n) e = cc

  -- to `WIDE` no solve within 127 bits is due
  wide_not_solved : (held : Option Model) → wide_due old held ≡ Solves m → ⊥
  wide_not_solved None e = cc
  wide_not_solved (Some n) e = cc

  -- after an edit that was made or refused no solve is due
  edit_held : (r : OrFault Model) → edit_due old r ≡ Solves m → ⊥
  edit_held (Ok n) e = cc
  edit_held (Err why) e = cc

  -- to an edit no solve is due
  change_held : (held : Option Model) (edit : ExactEdit) → change_due old held edit ≡ Solves m → ⊥
  change_held None edit e = cc
  change_held (Some n) edit e = edit_held (edited n edit) e

  -- after an edit that was made or refused no exact solve is due
  edit_not_wide : (r : OrFault Model) → edit_due old r ≡ SolvesWide m → ⊥
  edit_not_wide (Ok n) e = cc
  edit_not_wide (Err why) e = cc

  -- to an edit no exact solve is due
  change_not_wide : (held : Option Model) (edit : ExactEdit) → change_due old held edit ≡ SolvesWide m → ⊥
  change_not_wide None edit e = cc
  change_not_wide (Some n) edit e = edit_not_wide (edited n edit) e

  -- only for `SOLVE` is a solve of a model due, and it is the model that the session holds
  pub due_held : (asked : ExactAsk) → due old asked ≡ Solves m →
      (asked ≡ ask.Plain command.Solve) × (old.model ≡ Some m)
  due_held (ask.Plain (command.Write form)) e = cc
  due_held (ask.Plain command.Solve) e = (refl, solve_held old.model e)
  due_held (ask.Plain command.Cert) e = cc
  due_held (ask.Plain command.How) e = cc
  due_held (ask.Plain (command.Budget n)) e = cc
  due_held (ask.Plain command.Wide) e = absurd (wide_not_solved old.model e)
  due_held (ask.Plain command.Quit) e = cc
  due_held (ask.Plain (command.Change edit)) e = absurd (change_held old.model edit e)
  due_held (ask.Loaded n) e = cc
  due_held (ask.Misspelled fault) e = cc
  due_held (ask.Checked raw) e = cc
  due_held (ask.Unfit line) e = cc
  due_held (ask.Bad fault) e = cc

  -- only for `WIDE` is an exact solve of a model due, and it is the model that the session holds
  pub wide_due_held : (asked : ExactAsk) → due old asked ≡ SolvesWide m →
      (asked ≡ ask.Plain command.Wide) × (old.model ≡ Some m)
  wide_due_held (ask.Plain (command.Write form)) e = cc
  wide_due_held (ask.Plain command.Solve) e = absurd (solve_not_wide old.model e)
  wide_due_held (ask.Plain command.Cert) e = cc
  wide_due_held (ask.Plain command.How) e = cc
  wide_due_held (ask.Plain (command.Budget n)) e = cc
  wide_due_held (ask.Plain command.Wide) e = (refl, wide_held old.model e)
  wide_due_held (ask.Plain command.Quit) e = cc
  wide_due_held (ask.Plain (command.Change edit)) e = absurd (change_not_wide old.model edit e)
  wide_due_held (ask.Loaded n) e = cc
  wide_due_held (ask.Misspelled fault) e = cc
  wide_due_held (ask.Checked raw) e = cc
  wide_due_held (ask.Unfit line) e = cc
  wide_due_held (ask.Bad fault) e = cc

-- ---- what a solve goes on to

-- the reply is that of a solve that ended so, and the state `new` keeps the end as the last answer
record KeepsAnswer (old : State) (end : ExactSolveEnd) (how : How) (replied : ExactReply) (new : State) : Type 0 where
  publication : Publication
  answer : replied ≡ answered old end
  kept : new ≡ with_answer old end how publication

module _ (places : ℕ) (old : State) (looked reads : List ExactRead) (replied : ExactReply) (new : State) where
  -- a solve that ended so replies its answer and keeps it, whether its words are published or not
  worked_keeps : (found : Looked) (end : ExactSolveEnd) (how : How) (words : Option Words) →
      Concludes places old (worked_with old found end how words) looked reads replied new →
      KeepsAnswer old end how replied new
  worked_keeps found end how None c = record { publication = publication.Nothing; answer = c.1; kept = c.2 }
  worked_keeps found end how (Some words) c = by (is_found found words) c
    where
      by : (t : Bool) → Concludes places old
          (cond t (Ends (answered old end) (with_answer old end how publication.Same))
          (Publishes (record { end = end; how = how; words = words })))
          looked reads replied new → KeepsAnswer old end how replied new
      by true c = record { publication = publication.Same; answer = c.1; kept = c.2 }
      by false c = record { publication = publication.Tried c.put; answer = c.answer; kept = c.kept }

  -- a solve of the held model after its look replies an answer that the model may have, and keeps it
  solved_simply : (m : Model) (found : Looked) (worked : Worked) → old.model ≡ Some m → SolvesWith old found worked →
      Concludes places old worked looked reads replied new → SolveStep old m replied new
  solved_simply m found worked held s c =
      let same : s.model ≡ m = let both : ◌≡◌ {A = Option Model} (Some s.model) (Some m) = sym s.held ∙ held in cc in
      let k = worked_keeps found s.solved.end (how_by found s.solved.route) (words_of_end s.form s.solved.end)
      (subst (λ w. Concludes places old w looked reads replied new) s.goes_on c) in
      record {
        end = s.solved.end;
        how = how_by found s.solved.route;
        publication = k.publication;
        held = held;
        may_answer = subst (λ n. MayAnswer n old.budget s.solved.end) same s.is_solved.may_answer;
        answer = k.answer;
        kept = k.kept;
      }

  -- after its look, a solve of the held model replies and keeps its answer, or replies `MEMORY` and keeps the state
  works_simply : (m : Model) (found : Looked) (worked : Worked) → old.model ≡ Some m → Works old found worked →
      Concludes places old worked looked reads replied new → SolveStep old m replied new ⊎ WantsMemory old replied new
  works_simply m found worked held (inl s) c = inl (solved_simply m found worked held s c)
  works_simply m found worked held (inr e) c =
      let w = subst (λ w. Concludes places old w looked reads replied new) e c in
      inr (record { memory = w.1; stays = w.2 })

module _ (places : ℕ) (old : State) (reads : List ExactRead) (replied : ExactReply) (new : State) where
  -- a solve of the held model, with a form or without, replies and keeps its answer, or replies `MEMORY`
  solve_simply : (m : Model) (r : Result Form (FormFault ℚ)) → form_of (Some number_limit) m ≡ r → old.model ≡ Some m →
      GoesOn places old (solve_begun old m r) reads replied new →
      SolveStep old m replied new ⊎ WantsMemory old replied new
  solve_simply m (Ok f) is held g =
      works_simply places old g.looked reads replied new m g.found g.worked held g.works g.concludes
  solve_simply m (Err why) is held g = inl (record {
    end = cold (Some number_limit) old.budget m;
    how = how.Cold;
    publication = publication.Nothing;
    held = held;
    may_answer = (formless_solved m old.budget why is).may_answer;
    answer = g.1;
    kept = g.2;
  })

  -- a step that begins with what is due ends with that, or with `MEMORY` and the same state
  due_simply : (asked : ExactAsk) (what : Due) (begun : Begun) → due old asked ≡ what → BegunBy old what begun →
      GoesOn places old begun reads replied new →
      Does old what replied new ⊎ WantsMemory old replied new
  due_simply asked (Replies stated next) begun e is g =
      let w = subst (λ b. GoesOn places old b reads replied new) is g in inl (w.1, w.2)
  due_simply asked (Solves m) begun e is g =
      solve_simply m (form_of (Some number_limit) m) refl (due_held old m asked e).1
      (subst (λ b. GoesOn places old b reads replied new) is g)
  due_simply asked (SolvesWide m) begun e is g =
      let w = subst (λ b. GoesOn places old b reads replied new) is.answers g in
      inl (record {
        end = is.end;
        held = (wide_due_held old m asked e).1;
        is_end = is.is_end;
        answer = w.1;
        stays = w.2;
      })

  -- each step of a session does what is due to the request, or replies `MEMORY` and keeps the state
  pub step_simply : (asked : ExactAsk) → AloneStep places old asked reads replied new →
      Does old (due old asked) replied new ⊎ WantsMemory old replied new
  step_simply asked s = by s.begins
    where
      by : Begins old asked s.begun → Does old (due old asked) replied new ⊎ WantsMemory old replied new
      by (inl e) = due_simply asked (due old asked) s.begun refl e s.goes_on
      by (inr e) =
          let w = subst (λ b. GoesOn places old b reads replied new) e.1 s.goes_on in
          inr (record { memory = w.1; stays = w.2 })
