-- A column of no cost is passed over, and a refused step stops the reduced cost.
use Rattle.std.proofs.Common.{refl, sym}
use Rattle.std.proofs.lemmas.Result.{err_from_is_err_and}
use Rattle.spec_exact.proofs.RunsInOrder.{steps_stop}
use Rattle.lp_tableau.proofs.Priced.{free_passed}
use Rattle.lp_tableau.proofs.tableau.Tableau.reduced_cost.Goals as goal

pub loop-i-preserved-then-is_zero : goal.loop-i-preserved-then-is_zero
loop-i-preserved-then-is_zero c =
    let z = rw (c.cost_at-cost.ensures, c.basic.ensures.value) at c.if-is_zero.ensures.0 refl in
    let w = rw c.entry-entry.ensures at c.within.ensures in
    free_passed c.args.self.now c.args.costs.now c.args.k c.loop-i.i
    c.loop-i.rest c.loop-i.invariant z w c.within-in-loop-i.ensures

pub returns-in_err-rest : goal.returns-in_err-rest
returns-in_err-rest c =
    let p = err_from_is_err_and c.from_residual.result c.from_residual.ensures.1 in
    let step = rw (c.cost_at-cost.ensures, c.basic.ensures.value, c.entry-entry.ensures) at c.in_err-rest.ensures in
    rw (p.1, p.2, ← c.rows-i-end.ensures.value)
    (sym (steps_stop _ _ _ _ _ _ c.loop-i-test.true c.loop-i.invariant (sym step)))
