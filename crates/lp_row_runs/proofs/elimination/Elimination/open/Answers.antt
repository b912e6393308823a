-- The least open position.
use Rattle.std.proofs.Common.{sym, ◌∙◌, arith}
use Rattle.lp_tableau.proofs.EliminatedColumns.{none_more, open_at}
use Rattle.lp_row_runs.proofs.elimination.Elimination.open.Goals as goal

pub loop-i-preserved : goal.loop-i-preserved
loop-i-preserved g c = λ f basis k s.
    none_more s.now c.args.j c.loop-i.i (c.loop-i.invariant f basis k s)
    (sym (c.is_open.ensures f basis k s) ∙ c.if-is_open.false)

pub returns-then-is_open-clause-least : goal.returns-then-is_open-clause-least
returns-then-is_open-clause-least g c = λ f basis k s.
    open_at s.now c.args.j c.loop-i.i f.rows (c.loop-i.invariant f basis k s)
    (omega (arith, c.loop-i-test.true, c.len-i-end.ensures, s.rows.len))
    (sym (c.is_open.ensures f basis k s) ∙ c.if-is_open.true)
