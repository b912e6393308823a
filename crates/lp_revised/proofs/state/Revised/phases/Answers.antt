-- A stop in the first factors, one in phase one, and what follows it.
use Rattle.std.proofs.lemmas.Result.{err_from_is_err_and}
use Rattle.lp_revised.proofs.TwoPhases.{first_stops, then_after, factors_stop, phases_stop, phases_end}
use Rattle.lp_revised.proofs.state.Revised.phases.Goals as goal

pub returns-in_err-refactor-clause-run : goal.returns-in_err-refactor-clause-run
returns-in_err-refactor-clause-run c =
    let p = err_from_is_err_and c.from_residual.result c.from_residual.ensures.1 in
    rw (p.1, p.2) (factors_stop c.args.budget c.args.form.now c.args.starts.now c.args.self.now.bare
    c.in_err-refactor.field-0.0 c.in_err-refactor.ensures.run)

pub returns-in_err-one-clause-run : goal.returns-in_err-one-clause-run
returns-in_err-one-clause-run c =
    let p = err_from_is_err_and c.from_residual-in_err-one.result c.from_residual-in_err-one.ensures.1 in
    rw (p.1, p.2) (phases_stop c.args.budget c.args.form.now c.args.starts.now c.args.self.now.bare
    c.refactor.new.self c.in_ok-refactor.ensures.run c.in_err-one.field-0.0
    (first_stops c.args.budget c.args.form.now c.args.starts.now c.refactor.new.self c.in_err-one.field-0.0
    c.in_err-one.ensures.run))

pub returns-clause-run : goal.returns-clause-run
returns-clause-run c =
    phases_end c.args.budget c.args.form.now c.args.starts.now c.args.self.now.bare
    c.refactor.new.self c.in_ok-refactor.ensures.run c.after_one-ended.result
    (then_after c.args.budget c.args.form.now c.args.starts.now c.refactor.new.self _ c.after_one-ended.result
    c.in_ok-one.ensures.run c.after_one-ended.ensures.run)
