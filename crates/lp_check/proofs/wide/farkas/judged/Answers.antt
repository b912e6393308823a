use Rattle.std.proofs.Common.{true, false}
use Rattle.lp_check.proofs.Gives.{no_rows, no_columns, compared, missing, there, by_test}
use Rattle.lp_check.proofs.wide.farkas.judged.Goals as goal

pub returns-in-None : goal.returns-in-None
returns-in-None c = no_rows c.args.model.now c.args.y.now (missing 1 _ _ c.in_ok-asked.ensures c.in-None.is)

pub returns-in-None-2 : goal.returns-in-None-2
returns-in-None-2 c =
    no_columns c.args.model.now c.args.y.now _ (there 1 _ _ _ c.in_ok-asked.ensures c.in-Some.is)
    (missing 2 _ _ c.in_ok-given.ensures c.in-None-2.is)

pub returns-then-is_lt : goal.returns-then-is_lt
returns-then-is_lt c =
    by_test 3 c.is_lt.result true _
    (compared c.args.model.now c.args.y.now _ _ _ _ (there 1 _ _ _ c.in_ok-asked.ensures c.in-Some.is)
    (there 2 _ _ _ c.in_ok-given.ensures c.in-Some-2.is) c.in_ok-order.ensures c.is_lt.ensures)
    c.if-is_lt.true

pub returns : goal.returns
returns c =
    by_test 3 c.is_lt.result false _
    (compared c.args.model.now c.args.y.now _ _ _ _ (there 1 _ _ _ c.in_ok-asked.ensures c.in-Some.is)
    (there 2 _ _ _ c.in_ok-given.ensures c.in-Some-2.is) c.in_ok-order.ensures c.is_lt.ensures)
    c.if-is_lt.false
