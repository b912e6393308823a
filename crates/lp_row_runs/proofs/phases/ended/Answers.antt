-- The certificate and the basis are those of the end.
use Rattle.lp_row_runs.proofs.BothPhases.{of_some, is_end}
use Rattle.lp_row_runs.proofs.phases.ended.Goals as goal

pub returns-in-Some-clause-run : goal.returns-in-Some-clause-run
returns-in-Some-clause-run g c = λ t reached shown.
    is_end g.N.Listed.of t c.args.state.now.used c.args.end c.in-Some.certificate c.in_ok-statuses.statuses
    (of_some _ _ _ c.in-Some.is (c.in_ok-certificate.ensures.value t reached shown)) (c.in_ok-statuses.ensures t shown)
