-- A stop in the rows, and the phases from them.
use Rattle.std.proofs.Common.{sym, ap, length, ◌∙◌, Ok}
use Rattle.std.proofs.lemmas.Result.{err_from_is_err_and}
use Rattle.spec_simplex.specs.Start.{begun}
use Rattle.spec_exact.proofs.RunsInOrder.{length-list_run}
use Rattle.spec_simplex.specs.Tableau.{Tableau}
use Rattle.spec_factor.specs.Revised.{bare_of}
use Rattle.lp_revised.proofs.SameEnds.{ends_whole}
use Rattle.lp_revised.proofs.TwoPhases.{rows_stop, runs_whole}
use Rattle.lp_revised.proofs.cold_run.cold_over_factors.Goals as goal

pub returns-in_err-starts-clause-run : goal.returns-in_err-starts-clause-run
returns-in_err-starts-clause-run c =
    let p = err_from_is_err_and c.from_residual.result c.from_residual.ensures.1 in
    rw (p.1, p.2) (rows_stop _ _ _ c.in_err-starts.ensures.err)

pub begun-requires : goal.begun-requires
begun-requires c = ap length c.deref.ensures.value ∙ length-list_run _ _ _ c.in_ok-starts.ensures.ok

pub phases-ended-requires-clause-starts : goal.phases-ended-requires-clause-starts
phases-ended-requires-clause-starts c =
    ap length c.deref-2.ensures.value ∙ length-list_run _ _ _ c.in_ok-starts.ensures.ok
    ∙ sym (ap (λ (t : Tableau). t.rows) c.in_ok-state.ensures)

pub returns-clause-run : goal.returns-clause-run
returns-clause-run c =
    runs_whole c.args.budget c.args.form.now c.deref-2.result.now c.in_ok-state.state.bare c.phases-ended.result
    (c.in_ok-starts.ensures.ok ∙ ap Ok (sym c.deref-2.ensures.value))
    (c.in_ok-state.ensures ∙ ap (λ v. bare_of (begun c.args.form.now v))
    (c.deref.ensures.value ∙ sym c.deref-2.ensures.value)) c.phases-ended.ensures.run

pub returns-in_err-starts-clause-whole : goal.returns-in_err-starts-clause-whole
returns-in_err-starts-clause-whole c m e = ends_whole c.args.budget m c.args.form.now e _
    (returns-in_err-starts-clause-run c)

pub returns-clause-whole : goal.returns-clause-whole
returns-clause-whole c m e = ends_whole c.args.budget m c.args.form.now e c.phases-ended.result (returns-clause-run c)
