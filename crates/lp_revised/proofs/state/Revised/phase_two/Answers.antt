-- A stop in the run, and its end.
use Rattle.std.proofs.lemmas.Result.{err_from_is_err_and}
use Rattle.lp_revised.proofs.TwoPhases.{second_stops, is_finished}
use Rattle.lp_revised.proofs.state.Revised.phase_two.Goals as goal

pub returns-in_err-end-clause-run : goal.returns-in_err-end-clause-run
returns-in_err-end-clause-run c =
    let p = err_from_is_err_and c.from_residual.result c.from_residual.ensures.1 in
    rw (p.1, p.2)
    (second_stops c.args.budget c.args.form.now c.args.starts.now c.args.used c.args.self.now
    c.fix_artificials.new.self c.costs.result.now
    c.fix_artificials.ensures c.costs.ensures c.in_err-end.field-0.0 c.in_err-end.ensures.run)

pub returns-clause-run : goal.returns-clause-run
returns-clause-run c =
    is_finished c.args.budget c.args.form.now c.args.starts.now c.args.used c.args.self.now c.fix_artificials.new.self
    c.costs.result.now
    c.fix_artificials.ensures c.costs.ensures c.run.new.self c.run.new.used c.in_ok-end.end _ c.in_ok-end.ensures.run
    c.in_ok-ended.ensures.value
