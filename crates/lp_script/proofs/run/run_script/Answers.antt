-- Where the run by one worker cannot begin, and what it does.
use Rattle.std.proofs.Common.{ℕ, ◌∙◌, ap, sym, subst₂, inr}
use Rattle.std.proofs.lemmas.Result.{err_from_is_err_and}
use Rattle.spec_server.specs.Streams.{streams}
use Rattle.lp_script.specs.Answer.{Together, opening_with}
use Rattle.lp_script.specs.Run.{Runs}
use Rattle.lp_script.proofs.Moving.{stops_so, nothing}
use Rattle.lp_script.proofs.run.run_script.Goals as goal

pub returns-in_err-lines-clause-output : goal.returns-in_err-lines-clause-output
returns-in_err-lines-clause-output g c =
    let p = err_from_is_err_and c.from_residual.result c.from_residual.ensures.1 in
    stops_so (nothing _ _ _ _) c.from_residual.result p.0 p.1 (inr p.2)

pub returns-in_err-sessions-clause-output : goal.returns-in_err-sessions-clause-output
returns-in_err-sessions-clause-output g c =
    let p = err_from_is_err_and c.from_residual-in_err-sessions.result c.from_residual-in_err-sessions.ensures.1 in
    stops_so (nothing _ _ _ _) c.from_residual-in_err-sessions.result p.0 p.1 (inr p.2)

pub answer_asks-run-requires-clause-sessions : goal.answer_asks-run-requires-clause-sessions
answer_asks-run-requires-clause-sessions g c =
    let e = c.in_ok-sessions.ensures in
    e ∙ ap opening_with (sym (ap (λ (all : Together). all.sharing.places) e))

pub returns-clause-output : goal.returns-clause-output
returns-clause-output g c =
    subst₂
    (λ (workers places : ℕ). Runs workers places
    (streams (g.S.Source.left c.args.src.now) (g.S.Source.left c.answer_asks-run.new.src)
    (g.K.Sink.taken c.args.out.now) (g.K.Sink.taken c.answer_asks-run.new.out)) c.answer_asks-run.result)
    (sym c.if-workers-ne1.false) (ap (λ (all : Together). all.sharing.places) c.in_ok-sessions.ensures)
    c.answer_asks-run.ensures.output
