-- By the kind of the certificate.
use Rattle.lp_solve.proofs.LineLemmas.{optimal_fits, infeasible_fits, unbounded_fits}
use Rattle.lp_solve.proofs.lines.numbers_fit.Goals as goal

pub returns-in-Optimal : goal.returns-in-Optimal
returns-in-Optimal c =
    optimal_fits c.both_fit.result c.args.certificate.now _ _ _ _ c.in-Optimal.is c.as_slice.ensures
    c.as_slice-in-Optimal.ensures c.both_fit.ensures

pub returns-in-Infeasible : goal.returns-in-Infeasible
returns-in-Infeasible c =
    infeasible_fits c.all_fit.result c.args.certificate.now _ _ c.in-Infeasible.is c.as_slice-in-Infeasible.ensures
    c.all_fit.ensures

pub returns-in-Unbounded : goal.returns-in-Unbounded
returns-in-Unbounded c =
    unbounded_fits c.both_fit-in-Unbounded.result c.args.certificate.now _ _ _ _ c.in-Unbounded.is
    c.as_slice-in-Unbounded.ensures c.as_slice-in-Unbounded-2.ensures c.both_fit-in-Unbounded.ensures
