-- A column that is basic, and one that is not.
use Rattle.std.proofs.Common.{sym, ◌∙◌}
use Rattle.spec_simplex.specs.Eliminate.{basis_at}
use Rattle.spec_simplex.proofs.Statuses.{basic_if}
use Rattle.lp_row_runs.proofs.SolvedRows.{column_passed, if_done}
use Rattle.lp_row_runs.proofs.elimination.Elimination.take.Goals as goal

pub returns-then-is_basic-clause-solved : goal.returns-then-is_basic-clause-solved
returns-then-is_basic-clause-solved g c =
    if_done c.solve.result _ _
    (λ solved f s. solved f c.args.basis.now
    (basic_if (basis_at c.args.basis.now c.args.j) (sym c.is_basic.ensures ∙ c.if-is_basic.true)) s)
    c.solve.ensures.solved

pub returns-else-is_basic-clause-solved : goal.returns-else-is_basic-clause-solved
returns-else-is_basic-clause-solved g c = λ f s.
    column_passed g.T.Words.value f c.args.basis.now c.args.j c.args.self.now
    (sym c.is_basic.ensures ∙ c.if-is_basic.false) s
