-- A quotient by 0 is 0.
use Rattle.std.proofs.Common.{sym}
use Rattle.lp_presolve.proofs.ByZero.{quotient_by_zero}
use Rattle.lp_presolve.proofs.carrying.over_entry.Goals as goal

pub returns-then-is_zero : goal.returns-then-is_zero
returns-then-is_zero c =
    rw c.zero.ensures (sym (quotient_by_zero c.args.d c.args.a c.within.ensures (c.is_zero.ensures.0 c.if-is_zero.true)))
