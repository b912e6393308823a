-- A stop of the start.
use Rattle.std.proofs.Common.{Some, ap, sym}
use Rattle.spec_exact.specs.Narrow.{number_limit}
use Rattle.spec_simplex.specs.declared.ends.StartStop.TheVariants as begun
use Rattle.spec_runs.specs.Warm.{after_run}
use Rattle.lp_solve.proofs.WarmRuns.{is_singular, is_past, start_stops}
use Rattle.lp_solve.proofs.warm.from_basis.Goals as goal

pub returns-in-Err-Cause-clause-answer : goal.returns-in-Err-Cause-clause-answer
returns-in-Err-Cause-clause-answer c =
    ap (after_run (Some number_limit) c.args.model.now)
    (sym (start_stops (Some number_limit) c.args.budget c.args.form.now c.args.basis.now begun.Singular
    (is_singular _ _ _ c.in-Err-Cause.field-0-is c.in-Err-Cause.ensures.err)))

pub returns-in-Err-Past-clause-answer : goal.returns-in-Err-Past-clause-answer
returns-in-Err-Past-clause-answer c =
    rw c.in-Err-Past.past-is
    (ap (after_run (Some number_limit) c.args.model.now)
    (sym (start_stops (Some number_limit) c.args.budget c.args.form.now c.args.basis.now (begun.Past _)
    (is_past _ _ _ c.in-Err-Past.field-0-is c.in-Err-Past.ensures.err))))
