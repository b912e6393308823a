use Rattle.lp_mps.specs.InOrder.{ordered}
use Rattle.lp_mps.proofs.ListItems.{number_put, number_zero}
use Rattle.lp_mps.proofs.read.column.put_number.Goals as goal

pub returns-then-is_zero-clause-ok : goal.returns-then-is_zero-clause-ok
returns-then-is_zero-clause-ok c =
    rw (c.in-Row.is)
    (number_zero (ordered c.args.column.now) c.in-Row.row c.args.value (c.is_zero.ensures.0 c.if-is_zero.true))

pub returns-else-is_zero-clause-ok : goal.returns-else-is_zero-clause-ok
returns-else-is_zero-clause-ok c =
    rw (c.in-Row.is)
    (number_put c.push.result c.args.column.now c.in-Row.row c.args.value c.push.new.self c.is_zero.result
    c.is_zero.ensures.1 c.if-is_zero.false c.push.ensures.ok)
