-- Where the run begins, goes on and halts.
use Rattle.std.proofs.Common.{◌∙◌, ap, arith, inl, inr, ⊎_elim, Some, None, Ok, Err}
use Rattle.std.proofs.lemmas.Result.{err_from_is_err_and}
use Rattle.spec_server.specs.Script.{Ended}
use Rattle.lp_script.proofs.Moving.{stops_so, ends_as}
use Rattle.lp_script.proofs.Turns.{start, stopped, ended, in_answer, turn_on, takes_as}
use Rattle.lp_script.proofs.in_order.answer_asks.Goals as goal

pub loop-asked-init : goal.loop-asked-init
loop-asked-init g c = record {
  turn = start _ _ _ c.args.lines.now c.args.sessions.now c.requires.lines c.requires.sessions;
  read = omega arith;
  write = omega arith;
}

pub returns-in_err-asked-clause-output : goal.returns-in_err-asked-clause-output
returns-in_err-asked-clause-output g c =
    let p = err_from_is_err_and c.from_residual.result c.from_residual.ensures.1 in
    ends_as c.from_residual.result _ (p.1 ∙ ap Err p.2)
    (stopped _ c.loop-asked.invariant.turn _ _ c.in_err-asked.ensures.taken)

pub loop-asked-preserved : goal.loop-asked-preserved
loop-asked-preserved g c = record {
  turn = turn_on _ c.loop-asked.invariant.turn _ _ c.in-Some.asked
      (takes_as _ _ _ _ _ (Ok (Some c.in-Some.asked)) (ap Ok c.in-Some.is) c.in_ok-asked.ensures.taken) _
      c.in_ok-answer-in-Some.ensures.ok;
  read = omega (arith, c.take.ensures.later);
  write = omega (arith, c.answer.ensures.later);
}

pub returns-in_err-answer-in-Some-clause-output : goal.returns-in_err-answer-in-Some-clause-output
returns-in_err-answer-in-Some-clause-output g c =
    let p =
    err_from_is_err_and c.from_residual-in_err-answer-in-Some.result c.from_residual-in_err-answer-in-Some.ensures.1 in
    stops_so
    (in_answer _ c.loop-asked.invariant.turn _ _ c.in-Some.asked
    (takes_as _ _ _ _ _ (Ok (Some c.in-Some.asked)) (ap Ok c.in-Some.is) c.in_ok-asked.ensures.taken) c.answer.ensures.part)
    c.from_residual-in_err-answer-in-Some.result p.0 p.1
    (⊎_elim (λ e. inl (p.2 ∙ e)) (λ e. inr (p.2 ∙ e)) c.in_err-answer-in-Some.ensures.halts)

pub returns-in-None-clause-output : goal.returns-in-None-clause-output
returns-in-None-clause-output g c =
    ended _ c.loop-asked.invariant.turn Ended
    (takes_as _ _ _ _ _ (Ok None) (ap Ok c.in-None.is) c.in_ok-asked.ensures.taken)
