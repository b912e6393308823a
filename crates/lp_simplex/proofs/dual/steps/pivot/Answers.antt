-- The move takes the leaving column to its bound.
use Rattle.std.proofs.Common.{sym, Some}
use Rattle.spec_exact.specs.Narrow.{number_limit}
use Rattle.lp_simplex.proofs.Seats.{can_pivot}
use Rattle.lp_simplex.proofs.dual.steps.pivot.Goals as goal

pub pivot-requires : goal.pivot-requires
pivot-requires c =
    let gap =
    rw (c.stand.ensures, c.value.ensures, c.lower.ensures, c.upper.ensures, c.basic-out.ensures.value)
    at c.in_ok-gap.ensures in
    let theta = rw (c.entry.ensures) at c.in_ok-theta.ensures in
    can_pivot (Some number_limit) c.args.tab.now c.args.at.position c.args.at.column c.args.to
    c.in_ok-gap.gap c.in_ok-theta.theta c.requires (sym gap) (sym theta)
