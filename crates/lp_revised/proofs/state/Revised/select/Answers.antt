-- A stop in each part, none that enters, and the whole.
use Rattle.std.proofs.Common.{sym, ap}
use Rattle.std.proofs.lemmas.Result.{err_from_is_err_and}
use Rattle.spec_exact.specs.Run.{refused_as}
use Rattle.spec_simplex.specs.declared.ends.RunStop.TheVariants as cause
use Rattle.lp_revised.proofs.Sights.{no_multipliers, no_entering, none_enters, not_solved, not_chosen, selected}
use Rattle.lp_revised.proofs.state.Revised.select.Goals as goal

pub returns-in_err-multipliers-clause-run : goal.returns-in_err-multipliers-clause-run
returns-in_err-multipliers-clause-run c =
    let p = err_from_is_err_and c.from_residual.result c.from_residual.ensures.1 in
    rw (p.1, p.2) (no_multipliers c.args.form.now c.args.starts.now c.args.costs.now c.args.self.now _
    c.in_err-multipliers.ensures.run)

pub returns-in_err-e-clause-run : goal.returns-in_err-e-clause-run
returns-in_err-e-clause-run c =
    let h0 = rw c.as_slice.ensures at c.in_err-e.ensures.value in
    let p = err_from_is_err_and c.from_residual-in_err-e.result c.from_residual-in_err-e.ensures.1 in
    rw (p.1, p.2)
    (ap (refused_as cause.Past) (no_entering c.args.form.now c.args.starts.now c.args.costs.now c.args.self.now
    c.in_ok-multipliers.multipliers c.in_ok-multipliers.ensures.run _ (sym h0)))

pub returns-in_default-clause-run : goal.returns-in_default-clause-run
returns-in_default-clause-run c =
    let h0 = rw (c.as_slice.ensures, c.in_default.is) at c.in_ok-e.ensures.value in
    none_enters c.args.form.now c.args.starts.now c.args.costs.now c.args.self.now c.in_ok-multipliers.multipliers
    c.in_ok-multipliers.ensures.run (sym h0)

pub returns-in_err-solved-clause-run : goal.returns-in_err-solved-clause-run
returns-in_err-solved-clause-run c =
    let h0 = rw (c.as_slice.ensures, c.in-Some.is) at c.in_ok-e.ensures.value in
    let p = err_from_is_err_and c.from_residual-in_err-solved.result c.from_residual-in_err-solved.ensures.1 in
    rw (p.1, p.2)
    (not_solved c.args.form.now c.args.starts.now c.args.costs.now c.args.self.now c.in_ok-multipliers.multipliers
    c.in_ok-multipliers.ensures.run c.in-Some.e (sym h0)
    _ c.in_err-solved.ensures.run)

pub returns-in_err-choice-clause-run : goal.returns-in_err-choice-clause-run
returns-in_err-choice-clause-run c =
    let h0 = rw (c.as_slice.ensures, c.in-Some.is) at c.in_ok-e.ensures.value in
    let h1 = rw c.as_slice-2.ensures at c.in_err-choice.ensures.value in
    let p = err_from_is_err_and c.from_residual-in_err-choice.result c.from_residual-in_err-choice.ensures.1 in
    rw (p.1, p.2)
    (ap (refused_as cause.Past)
    (not_chosen c.args.form.now c.args.starts.now c.args.costs.now c.args.self.now c.in_ok-multipliers.multipliers
    c.in_ok-multipliers.ensures.run c.in-Some.e (sym h0)
    c.in_ok-solved.solved c.in_ok-solved.ensures.run _ (sym h1)))

pub returns-clause-run : goal.returns-clause-run
returns-clause-run c =
    let h0 = rw (c.as_slice.ensures, c.in-Some.is) at c.in_ok-e.ensures.value in
    let h1 = rw c.as_slice-2.ensures at c.in_ok-choice.ensures.value in
    selected c.args.form.now c.args.starts.now c.args.costs.now c.args.self.now c.in_ok-multipliers.multipliers
    c.in_ok-multipliers.ensures.run c.in-Some.e (sym h0)
    c.in_ok-solved.solved c.in_ok-solved.ensures.run c.in_ok-choice.choice (sym h1)
