-- The least open position.
use Rattle.std.proofs.Common.{sym, ◌∙◌, arith}
use Rattle.lp_tableau.proofs.EliminatedColumns.{open_at, open_entry}
use Rattle.lp_tableau.proofs.solve.open.Goals as goal

pub returns-then-is_open-clause-least : goal.returns-then-is_open-clause-least
returns-then-is_open-clause-least c =
    sym (open_at (record { rows = c.args.grid.now; basic = c.args.basic.now })
    c.args.j c.loop-i.i c.args.form.now.rows c.loop-i.invariant
    (omega (arith, c.loop-i-test.true, c.rows-i-end.ensures.value)) (sym c.is_open.ensures ∙ c.if-is_open.true))

pub returns-then-is_open-clause-open : goal.returns-then-is_open-clause-open
returns-then-is_open-clause-open c =
    record {
      inside = omega (arith, c.loop-i-test.true, c.rows-i-end.ensures.value);
      entry =
          open_entry (record { rows = c.args.grid.now; basic = c.args.basic.now }) c.args.j c.loop-i.i
          (sym c.is_open.ensures ∙ c.if-is_open.true);
    }
