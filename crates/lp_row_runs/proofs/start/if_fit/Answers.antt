-- The rows are those of phase two.
use Rattle.std.proofs.Common.{refl}
use Rattle.lp_row_runs.proofs.Ended.{stands_at}
use Rattle.lp_row_runs.proofs.start.if_fit.Goals as goal

pub returns-then-is_fit-clause-run : goal.returns-then-is_fit-clause-run
returns-then-is_fit-clause-run g c = λ f basis proper fits costs shows.
    stands_at g.T.Words.value f basis c.args.tab _ refl refl refl proper fits costs
    (c.is_fit.ensures c.if-is_fit.true) shows

pub returns-then-is_fit-clause-ready : goal.returns-then-is_fit-clause-ready
returns-then-is_fit-clause-ready g c = λ f size. record { whole = size.whole; rows = size.rows; cols = size.cols }
