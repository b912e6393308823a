-- What the reductions so far lead to.
use Rattle.std.proofs.Common.{◌≡◌, Ok, sym, ap, ◌∙◌, arith}
use Rattle.std.proofs.lemmas.Result.{err_from_is_err_and}
use Rattle.lp_presolve.proofs.Reached.{reached_more, reached_end, reached_halt, reached_refused, reached_stop}
use Rattle.lp_presolve.proofs.reductions.reduce.Goals as goal

pub returns-in_err-halt-clause-err : goal.returns-in_err-halt-clause-err
returns-in_err-halt-clause-err c =
    let p = err_from_is_err_and c.from_residual.result c.from_residual.ensures.1 in
    rw (p.1, p.2)
    (reached_refused c.args.model.now c.loop.model c.args.steps.now c.loop.steps c.loop.counter c.args.left _ c.loop.invariant
    c.loop-test.true (sym c.choose.ensures ∙ c.in_err-halt.was))

pub returns-in-Halt-clause-ok : goal.returns-in-Halt-clause-ok
returns-in-Halt-clause-ok c =
    reached_halt c.args.model.now c.loop.model c.args.steps.now c.loop.steps c.loop.counter c.args.left c.in-Halt.halt
    c.loop.invariant c.loop-test.true (sym c.choose.ensures ∙ c.in_ok-halt.was ∙ ap Ok c.in-Halt.is)

pub returns-in_err-go_on-in-Reduce-clause-err : goal.returns-in_err-go_on-in-Reduce-clause-err
returns-in_err-go_on-in-Reduce-clause-err c =
    let p = err_from_is_err_and c.from_residual-in_err-go_on-in-Reduce.result
    c.from_residual-in_err-go_on-in-Reduce.ensures.1 in
    rw (p.1, p.2)
    (reached_stop c.args.model.now c.loop.model c.args.steps.now c.loop.steps c.loop.counter c.args.left c.in-Reduce.reduction _
    c.loop.invariant c.loop-test.true (sym c.choose.ensures ∙ c.in_ok-halt.was ∙ ap Ok c.in-Reduce.is)
    c.in_err-go_on-in-Reduce.ensures.err)

pub loop-preserved : goal.loop-preserved
loop-preserved c =
    reached_more c.args.model.now c.loop.model c.go_on.new.model c.args.steps.now c.loop.steps c.go_on.new.steps c.loop.counter
    c.in-Reduce.reduction c.loop.invariant (sym c.choose.ensures ∙ c.in_ok-halt.was ∙ ap Ok c.in-Reduce.is)
    c.in_ok-go_on-in-Reduce.ensures.after c.in_ok-go_on-in-Reduce.ensures.steps

pub returns-clause-ok : goal.returns-clause-ok
returns-clause-ok c =
    let z : c.loop.counter ≡ c.args.left = omega (arith, c.loop-test.false, c.loop.auto.counter-end) in
    reached_end c.args.model.now c.loop.model c.args.steps.now c.loop.steps c.loop.counter c.args.left z c.loop.invariant
