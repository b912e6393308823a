-- One row, or none.
use Rattle.std.proofs.Common.{◌-◌, ap, arith}
use Rattle.lp_revised.proofs.ScatteredColumns.{no_row, one_row}
use Rattle.lp_revised.proofs.choose.put_one.Goals as goal

pub returns-then-row-rows : goal.returns-then-row-rows
returns-then-row-rows c =
    one_row c.args.form.now c.args.k c.requires.not_structural (c.args.k - c.cols.result)
    (ap (λ n. c.args.k - n) c.cols.ensures.value) c.args.column.now c.set.new.self c.one.result
    (omega (arith, c.if-row-rows.true, c.rows.ensures.value)) c.requires.zeros c.one.ensures c.set.ensures

pub returns-else-row-rows : goal.returns-else-row-rows
returns-else-row-rows c =
    no_row c.args.form.now c.args.k c.requires.not_structural (c.args.k - c.cols.result)
    (ap (λ n. c.args.k - n) c.cols.ensures.value) c.args.column.now
    (omega (arith, c.if-row-rows.false, c.rows.ensures.value)) c.requires.zeros
