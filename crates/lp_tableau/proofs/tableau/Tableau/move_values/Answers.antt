-- A refusal at a position, and all positions.
use Rattle.std.proofs.Common.{sym, ◌∙◌, arith}
use Rattle.std.proofs.lemmas.Result.{err_from_is_err_and}
use Rattle.lp_tableau.proofs.Moved.{move_refused, all_moved}
use Rattle.lp_tableau.proofs.tableau.Tableau.move_values.Goals as goal

pub returns-in_err-move_at-clause-moved : goal.returns-in_err-move_at-clause-moved
returns-in_err-move_at-clause-moved c =
    let p = err_from_is_err_and c.from_residual.result c.from_residual.ensures.1 in
    let i = c.loop-i.invariant in
    rw (p.1, p.2) (move_refused _ _ _ _ _ c.loop-i.self c.loop-i.i _ i.moved i.rest
    (omega (arith, c.loop-i-test.true, c.rows-i-end.ensures.value))
    (sym c.is_place.ensures ∙ c.if-not-is_place.true) c.in_err-move_at.ensures.moved)

pub returns-clause-moved : goal.returns-clause-moved
returns-clause-moved c =
    let i = c.loop-i.invariant in
    all_moved _ c.args.self.now _ _ _ c.loop-i.i _ i.moved
    (omega (arith, c.loop-i-test.false, c.rows-i-end.ensures.value))
    (omega (arith, c.loop-i.auto.i-end, c.rows-i-end.ensures.value))
