use Rattle.std.proofs.Common.{refl}
use Rattle.lp_rows.proofs.Converted.{row_with}
use Rattle.lp_rows.proofs.tableau.common.row_on.Goals as goal
use Rattle.lp_rows.proofs.SameNumbers.{of_some}

pub returns-in_ok-push-in-Some-2 : goal.returns-in_ok-push-in-Some-2
returns-in_ok-push-in-Some-2 g c = (
  refl,
  row_with g.T.Words.value c.args.list.now c.in-Some-2.numbers.items _ c.in-Some.value c.args.last
      (g.T.Words.value c.args.own) (g.T.Words.value c.args.both)
      (of_some _ c.in_ok-numbers.field-0 c.in-Some-2.numbers c.in-Some-2.is c.in_ok-numbers.ensures) c.in-Some.ensures
      c.in_ok-push-in-Some-2.ensures.items,
)
