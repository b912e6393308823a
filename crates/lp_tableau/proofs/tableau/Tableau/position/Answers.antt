-- A refused step stops the sum.
use Rattle.std.proofs.Common.{sym, ◌∙◌, Some, arith}
use Rattle.std.proofs.lemmas.Result.{err_from_is_err_and}
use Rattle.spec_exact.specs.Narrow.{number_limit}
use Rattle.lp_tableau.proofs.Based.{position_stops}
use Rattle.lp_tableau.proofs.tableau.Tableau.position.Goals as goal

pub returns-in_err-value : goal.returns-in_err-value
returns-in_err-value c =
    let p = err_from_is_err_and c.from_residual.result c.from_residual.ensures.1 in
    let step = rw (c.entry.ensures, c.value.ensures) at c.in_err-value.ensures in
    let test = rw (c.status.ensures) at c.is_basic.ensures in
    rw (p.1, p.2) (sym (position_stops (Some number_limit) c.args.self.now c.args.i c.loop-k.k c.loop-k.value _
    (omega (arith, c.loop-k-test.true, c.width-k-end.ensures.value)) c.loop-k.invariant
    (sym test ∙ c.if-not-is_basic.true) (sym step)))
