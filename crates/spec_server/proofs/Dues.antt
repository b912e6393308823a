-- What a session is due to do for an ask it can do, with memory enough, where its model is one that may be kept.
--
-- `good_step`: in a state whose model may be kept, the reads, the reply and the next state made for a request are a
--   step.
-- `ample_reply`: the reply that is made for a request is not `MEMORY`.
use Rattle.std.proofs.Common.{◌≡◌, ℕ, false, List, [], ◌∷◌, Option, Some, None, Result, Ok, Err, refl, inl}
use Rattle.std.specs.Prelude.{IfSome}
use Rattle.spec_exact.specs.Fraction.{ℚ}
use Rattle.spec_exact.specs.Narrow.{number_limit}
use Rattle.spec_model.specs.Model.{Model, Name}
use Rattle.spec_model.specs.Kept.{IsUsualModel}
use Rattle.spec_model.proofs.KeptModels.{usual_from_within, within_from_usual}
use Rattle.spec_mps.specs.declared.style.Style.{Style}
use Rattle.spec_mps.specs.declared.style.Style.TheVariants as style
use Rattle.spec_mps.specs.Written.{too_wide}
use Rattle.spec_check.specs.declared.certificate.Certificate.{Certificate}
use Rattle.spec_check.specs.declared.certificate.SettleFault.TheVariants as settle
use Rattle.spec_check.specs.Settle.{Settled, certificate_for}
use Rattle.spec_check.specs.Raw.{ExactRaw}
use Rattle.spec_edit.specs.declared.edit.EditFault.{EditFault}
use Rattle.spec_edit.specs.declared.edit.EditFault.TheVariants as fault
use Rattle.spec_edit.specs.Edited.{ExactEdit, OrFault, IsKeptEdit, edited}
use Rattle.spec_edit.proofs.EditsKeep.{edited-kept}
use Rattle.spec_simplex.specs.declared.ends.FormFault.{FormFault}
use Rattle.spec_simplex.specs.Form.{Form, form_of}
use Rattle.spec_check.specs.declared.solve_end.SolveEnd.TheVariants as outcome
use Rattle.spec_runs.specs.Cold.{ExactSolveEnd}
use Rattle.spec_runs.specs.declared.ends.Route.TheVariants as route
use Rattle.spec_solve.specs.Order.{cold_by, cold_over}
use Rattle.spec_solve.specs.Exact.{RationalEnd}
use Rattle.spec_solve.proofs.ExactAnswers.{exact_of, solved_exactly}
use Rattle.spec_solve.proofs.Stated.{part_is_solved, stated_is_solved}
use Rattle.spec_board.specs.declared.read.Put.TheVariants.{Full}
use Rattle.spec_board.specs.declared.read.Read.TheVariants.{Count}
use Rattle.spec_board.specs.Reads.{Words, ExactRead}
use Rattle.spec_server.specs.declared.answer.How.TheVariants as how
use Rattle.spec_server.specs.declared.answer.Publication.{Publication}
use Rattle.spec_server.specs.declared.answer.Publication.TheVariants as publication
use Rattle.spec_server.specs.declared.asks.Ask.TheVariants as ask
use Rattle.spec_server.specs.declared.asks.Reply.TheVariants as reply
use Rattle.spec_server.specs.declared.command.Plain.TheVariants as command
use Rattle.spec_server.specs.Machine.{ExactAsk, ExactReply, ExactLastAnswer, IsKeptAsk, State, is_memory, verdict_on}
use Rattle.spec_server.specs.Machine.{check_reply, fixed_reply, text_reply, write_reply, cert_reply, how_reply, Due}
use Rattle.spec_server.specs.Machine.{Replies, Solves, SolvesWide, solve_due, wide_due, edit_refusal, edit_due, change_due}
use Rattle.spec_server.specs.Machine.{due, answer_of}
use Rattle.spec_server.specs.WideLines.{wide_lines}
use Rattle.spec_server.specs.Step.{answered, with_answer, Begun, Answers, solve_begun, BegunBy, words_of_end, worked_with}
use Rattle.spec_server.specs.Step.{Concludes, GoesOn, AloneStep}

-- the end of the cold part of a solve at the limit, by the model's form
abbrev part_end : ℕ → Model → Result Form (FormFault ℚ) → ExactSolveEnd
part_end budget m o = cold_by (Some number_limit) budget m o

-- an end that an exact solve of a model may have: that of the run over factors at the limit, and where this gives up
-- that of the run over whole tableaus
abbrev exact_end : ℕ → Model → RationalEnd
exact_end budget m = exact_of (cold_over (Some number_limit) budget m)

-- ---- with no place claimed for the look, and all of them for the put

-- the reads of a put that finds all places claimed: their count; no reads where there are no words to publish
abbrev put_reads : ℕ → Option Words → List ExactRead
put_reads places None = []
put_reads places (Some words) = Count places ∷ []

-- what becomes of words where all places are claimed: `Full`; `Nothing` where there are no words to publish
abbrev put_ends : ℕ → Option Words → Publication
put_ends places None = publication.Nothing
put_ends places (Some words) = publication.Tried (Full places)

-- the reads made for a solve that ends so: a look with no place claimed, and, if it has words to publish, a put with
-- all claimed; without a form none
abbrev solve_reads : ℕ → ExactSolveEnd → Result Form (FormFault ℚ) → List ExactRead
solve_reads places end (Ok f) = Count 0 ∷ put_reads places (words_of_end f end)
solve_reads places end (Err why) = []

-- what becomes of the basis of a solve that ends so, where all places are claimed; `Nothing` without a form
abbrev solve_ends : ℕ → ExactSolveEnd → Result Form (FormFault ℚ) → Publication
solve_ends places end (Ok f) = put_ends places (words_of_end f end)
solve_ends places end (Err why) = publication.Nothing

-- ---- what is due is done

-- how a session in this state begins what is due, with memory enough
abbrev due_begun : State → Due → Begun
due_begun state (Replies replied next) = Answers replied next
due_begun state (Solves m) = solve_begun state m (form_of (Some number_limit) m)
due_begun state (SolvesWide m) = Answers (reply.Wide (wide_lines m (exact_end state.budget m))) state

-- the reads that are made for what is due: for a solve those of a look, and of a put if it has words; else none
abbrev due_reads : ℕ → State → Due → List ExactRead
due_reads places state (Replies replied next) = []
due_reads places state (SolvesWide m) = []
due_reads places state (Solves m) =
    solve_reads places (part_end state.budget m (form_of (Some number_limit) m)) (form_of (Some number_limit) m)

-- the reply that is made for what is due: the one that is due, or that of the cold solve, or of an exact one
abbrev due_reply : State → Due → ExactReply
due_reply state (Replies replied next) = replied
due_reply state (SolvesWide m) = reply.Wide (wide_lines m (exact_end state.budget m))
due_reply state (Solves m) = answered state (part_end state.budget m (form_of (Some number_limit) m))

-- the state after what is due: the one that is due; the same after an exact solve; with the answer after a cold solve
abbrev pub due_next : ℕ → State → Due → State
due_next places state (Replies replied next) = next
due_next places state (SolvesWide m) = state
due_next places state (Solves m) =
    let r : Result Form (FormFault ℚ) = form_of (Some number_limit) m in
    with_answer state (part_end state.budget m r) how.Cold (solve_ends places (part_end state.budget m r) r)

-- where a solve of a model is due, the state holds that model, and it is a usual one that may be kept; where an exact
-- solve is due, its model is such a one
abbrev IsKeptDue : State → Due → Type 0
IsKeptDue state (Replies replied next) = Unit {0}
IsKeptDue state (Solves m) = (state.model ≡ Some m) × IsUsualModel m
IsKeptDue state (SolvesWide m) = IsUsualModel m

module _ (places : ℕ) (state : State) where
  -- a solve whose look finds no place claimed, and whose put, if any, finds all claimed, has these reads, the reply of
  -- its end, and the state that keeps this end
  concludes : (end : ExactSolveEnd) (words : Option Words) →
      Concludes places state (worked_with state None end how.Cold words) (Count 0 ∷ [])
      (Count 0 ∷ put_reads places words) (answered state end)
      (with_answer state end how.Cold (put_ends places words))
  concludes end None = (refl, refl, refl)
  concludes end (Some words) =
      record {
        put = Full places;
        tried = Count places ∷ [];
        puts = (refl, refl);
        all = refl;
        answer = refl;
        kept = refl;
      }

  -- a cold solve of the held model, with a form or without, goes on to these reads, this reply and this state
  solve_goes_on : (m : Model) (r : Result Form (FormFault ℚ)) → form_of (Some number_limit) m ≡ r →
      state.model ≡ Some m →
      IsUsualModel m →
      GoesOn places state (solve_begun state m r) (solve_reads places (part_end state.budget m r) r)
      (answered state (part_end state.budget m r))
      (with_answer state (part_end state.budget m r) how.Cold (solve_ends places (part_end state.budget m r) r))
  solve_goes_on m (Err why) is held kept = (refl, refl, refl)
  solve_goes_on m (Ok f) is held kept = record {
    looked = Count 0 ∷ [];
    found = None;
    worked = worked_with state None (part_end state.budget m (Ok f)) how.Cold
        (words_of_end f (part_end state.budget m (Ok f)));
    look = record { count = 0; seen = []; down = (refl, refl); all = refl };
    works = inl (record {
      model = m;
      form = f;
      solved = record { end = part_end state.budget m (Ok f); route = route.Cold };
      held = held;
      formed = is;
      is_solved = part_is_solved m state.budget f is kept.0;
      goes_on = refl;
    });
    concludes = concludes (part_end state.budget m (Ok f)) (words_of_end f (part_end state.budget m (Ok f)));
  }

  -- what is due begins as `due_begun` has it, where the model to be solved may be kept
  begins : (what : Due) → IsKeptDue state what → BegunBy state what (due_begun state what)
  begins (Replies replied next) h = refl
  begins (Solves m) h = refl
  begins (SolvesWide m) h = record {
    end = exact_end state.budget m;
    is_end = solved_exactly m state.budget None
        (record { end = cold_over (Some number_limit) state.budget m; route = route.Cold })
        (stated_is_solved m state.budget h.0);
    answers = refl;
  }

  -- what is due goes on to the reads, the reply and the state that are made for it
  does : (what : Due) → IsKeptDue state what →
      GoesOn places state (due_begun state what) (due_reads places state what) (due_reply state what)
      (due_next places state what)
  does (Replies replied next) h = (refl, refl, refl)
  does (Solves m) h = solve_goes_on m (form_of (Some number_limit) m) refl h.0 h.1
  does (SolvesWide m) h = (refl, refl, refl)

-- the state holds a usual model that may be kept, or none
abbrev pub IsKeptState : State → Type 0
IsKeptState state = IfSome state.model IsUsualModel

module _ (state : State) where
  -- where the held model may be kept, so may the one that is to be solved for `SOLVE`
  solve_kept : (held : Option Model) → state.model ≡ held → IfSome held IsUsualModel →
      IsKeptDue state (solve_due state held)
  solve_kept None e h = tt
  solve_kept (Some m) e h = (e, h)

  -- where the held model may be kept, so may the one that is to be solved exactly for `WIDE`
  wide_kept : (held : Option Model) → IfSome held IsUsualModel → IsKeptDue state (wide_due state held)
  wide_kept None h = tt
  wide_kept (Some m) h = h

  -- after an edit that was made or refused no model is to be solved
  edit_solves_none : (r : OrFault Model) → IsKeptDue state (edit_due state r)
  edit_solves_none (Ok m) = tt
  edit_solves_none (Err why) = tt

  -- for an edit no model is to be solved
  change_solves_none : (held : Option Model) (e : ExactEdit) → IsKeptDue state (change_due state held e)
  change_solves_none None e = tt
  change_solves_none (Some m) e = edit_solves_none (edited m e)

  -- where the held model may be kept, so may the model that is to be solved for a request, if one is
  due_kept : (asked : ExactAsk) → IsKeptState state → IsKeptDue state (due state asked)
  due_kept (ask.Plain command.Solve) h = solve_kept state.model refl h
  due_kept (ask.Plain command.Wide) h = wide_kept state.model h
  due_kept (ask.Plain (command.Change e)) h = change_solves_none state.model e
  due_kept asked h = tt

-- the reads that are made for a request in this state
abbrev pub reads_of : ℕ → State → ExactAsk → List ExactRead
reads_of places state asked = due_reads places state (due state asked)

-- the reply that is made for a request in this state, with memory enough
abbrev pub reply_to : State → ExactAsk → ExactReply
reply_to state asked = due_reply state (due state asked)

-- the state after a request in this state, with memory enough
abbrev pub state_after : ℕ → State → ExactAsk → State
state_after places state asked = due_next places state (due state asked)

-- in a state whose model may be kept, the reads, the reply and the next state made for a request are a step
pub good_step : (places : ℕ) (state : State) (asked : ExactAsk) → IsKeptState state →
    AloneStep places state asked (reads_of places state asked) (reply_to state asked) (state_after places state asked)
good_step places state asked h = record {
  begun = due_begun state (due state asked);
  begins = inl (begins places state (due state asked) (due_kept state asked h));
  goes_on = does places state (due state asked) (due_kept state asked h);
}

module _ (places : ℕ) (state : State) (h : IsKeptState state) where
  -- after what is due to `SOLVE` the model that is held may be kept
  after_solve : (held : Option Model) → IsKeptState (due_next places state (solve_due state held))
  after_solve None = h
  after_solve (Some m) = h

  -- after what is due to `WIDE` the model that is held may be kept
  after_wide : (held : Option Model) → IsKeptState (due_next places state (wide_due state held))
  after_wide None = h
  after_wide (Some m) = h

  -- after an edit whose edited model may be kept, the model that is held may be kept
  after_edit : (r : OrFault Model) → ((m : Model) → r ≡ Ok m → IsUsualModel m) →
      IsKeptState (due_next places state (edit_due state r))
  after_edit (Ok m) go = go m refl
  after_edit (Err why) go = h

  -- after an edit with numbers and bounds that may be kept, the model that is held may be kept
  after_change : (held : Option Model) (e : ExactEdit) → IfSome held IsUsualModel → IsKeptEdit e →
      IsKeptState (due_next places state (change_due state held e))
  after_change None e kept may = h
  after_change (Some m) e kept may = after_edit (edited m e)
      (λ n is. usual_from_within n (edited-kept m n e (within_from_usual m kept) may is))

  -- after a request that may be kept, the state made for it has a model that may be kept, or none
  pub after_kept : (asked : ExactAsk) → IsKeptAsk asked → IsKeptState (state_after places state asked)
  after_kept (ask.Plain command.Solve) k = after_solve state.model
  after_kept (ask.Plain command.Wide) k = after_wide state.model
  after_kept (ask.Plain command.Quit) k = tt
  after_kept (ask.Plain (command.Change e)) k = after_change state.model e h k
  after_kept (ask.Loaded m) k = k
  after_kept asked k = h

-- ---- no such reply is MEMORY

-- the reply with a verdict on a certificate is not `MEMORY`
ample_verdict : (m : Model) (r : Settled (Certificate (List ℚ))) → is_memory (verdict_on m r) ≡ false
ample_verdict m (Ok cert) = refl
ample_verdict m (Err (settle.UnknownName name)) = refl
ample_verdict m (Err (settle.Repeated name)) = refl

-- the reply that is due to CHECK is not `MEMORY`
ample_check : (held : Option Model) (raw : ExactRaw) → is_memory (check_reply held raw) ≡ false
ample_check None raw = refl
ample_check (Some m) raw = ample_verdict m (certificate_for m raw)

-- the reply with a model's text in fixed form, or with what is too wide for it, is not `MEMORY`
ample_fixed : (m : Model) (item : Option (List ℕ)) → is_memory (fixed_reply m item) ≡ false
ample_fixed m None = refl
ample_fixed m (Some item) = refl

-- the reply with a model's text in any form is not `MEMORY`
ample_text : (m : Model) (form : Style) → is_memory (text_reply m form) ≡ false
ample_text m style.Free = refl
ample_text m style.Fixed = ample_fixed m (too_wide m)

-- the reply that is due to WRITE is not `MEMORY`
ample_write : (held : Option Model) (form : Style) → is_memory (write_reply held form) ≡ false
ample_write None form = refl
ample_write (Some m) form = ample_text m form

-- the reply that is due to CERT is not `MEMORY`
ample_cert : (held : Option Model) (last : Option ExactLastAnswer) → is_memory (cert_reply held last) ≡ false
ample_cert None last = refl
ample_cert (Some m) None = refl
ample_cert (Some m) (Some last) = refl

-- the reply to HOW is not `MEMORY`
ample_how : (last : Option ExactLastAnswer) → is_memory (how_reply last) ≡ false
ample_how None = refl
ample_how (Some last) = refl

-- the reply to the end of a solve is not `MEMORY`
ample_answer : (budget : ℕ) (end : ExactSolveEnd) → is_memory (answer_of budget end) ≡ false
ample_answer budget (outcome.Ended known certificate basis pivots) = refl
ample_answer budget (outcome.Past p) = refl
ample_answer budget outcome.Spent = refl

-- the reply that is due to a solve is not `MEMORY`
ample_solve : (state : State) (held : Option Model) → is_memory (due_reply state (solve_due state held)) ≡ false
ample_solve state None = refl
ample_solve state (Some m) = ample_answer state.budget (part_end state.budget m (form_of (Some number_limit) m))

-- the reply that is due to a wide solve is not `MEMORY`
ample_wide : (state : State) (held : Option Model) → is_memory (due_reply state (wide_due state held)) ≡ false
ample_wide state None = refl
ample_wide state (Some m) = refl

-- the reply that refuses an edit is not `MEMORY`
ample_refusal : (why : EditFault Name) → is_memory (edit_refusal why) ≡ false
ample_refusal (fault.UnknownName name) = refl
ample_refusal (fault.Taken name) = refl
ample_refusal (fault.Limit which count) = refl
ample_refusal fault.BadName = refl
ample_refusal (fault.Repeated name) = refl
ample_refusal (fault.FreeRow name) = refl

-- the reply that is due to an edit of a model is not `MEMORY`
ample_edit : (state : State) (r : OrFault Model) → is_memory (due_reply state (edit_due state r)) ≡ false
ample_edit state (Ok m) = refl
ample_edit state (Err why) = ample_refusal why

-- the reply that is due to an edit, with a model or without one, is not `MEMORY`
ample_change : (state : State) (held : Option Model) (e : ExactEdit) →
    is_memory (due_reply state (change_due state held e)) ≡ false
ample_change state None e = refl
ample_change state (Some m) e = ample_edit state (edited m e)

pub ample_reply : (state : State) (asked : ExactAsk) → is_memory (reply_to state asked) ≡ false
ample_reply state (ask.Plain (command.Write form)) = ample_write state.model form
ample_reply state (ask.Plain command.Solve) = ample_solve state state.model
ample_reply state (ask.Plain command.Cert) = ample_cert state.model state.last
ample_reply state (ask.Plain command.How) = ample_how state.last
ample_reply state (ask.Plain (command.Budget n)) = refl
ample_reply state (ask.Plain command.Wide) = ample_wide state state.model
ample_reply state (ask.Plain command.Quit) = refl
ample_reply state (ask.Plain (command.Change e)) = ample_change state state.model e
ample_reply state (ask.Loaded m) = refl
ample_reply state (ask.Misspelled why) = refl
ample_reply state (ask.Checked raw) = ample_check state.model raw
ample_reply state (ask.Unfit line) = refl
ample_reply state (ask.Bad why) = refl
