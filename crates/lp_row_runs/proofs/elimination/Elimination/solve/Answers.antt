-- The least open position is taken.
use Rattle.lp_row_runs.proofs.elimination.Elimination.solve.Goals as goal

pub returns-then-solve_at-clause-solved : goal.returns-then-solve_at-clause-solved
returns-then-solve_at-clause-solved g c = λ f basis basic s.
    c.solve_at.ensures.solved c.if-solve_at.true f basis basic s (c.in-Some.ensures.least f basis c.args.j s)
