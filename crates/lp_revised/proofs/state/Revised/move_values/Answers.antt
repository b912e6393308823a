-- A refusal at a position.
use Rattle.std.proofs.Common.{sym, ◌∙◌, arith}
use Rattle.std.proofs.lemmas.Result.{err_from_is_err_and}
use Rattle.lp_revised.proofs.MovedBasics.{move_refused}
use Rattle.lp_revised.proofs.state.Revised.move_values.Goals as goal

pub returns-in_err-move_at-clause-moved : goal.returns-in_err-move_at-clause-moved
returns-in_err-move_at-clause-moved c =
    let p = err_from_is_err_and c.from_residual.result c.from_residual.ensures.1 in
    rw (p.1, p.2)
    (move_refused c.args.starts.now c.args.self.now c.args.solved.now c.args.theta c.args.but c.loop-i.self c.loop-i.i
    _ c.loop-i.invariant.moved c.loop-i.invariant.rest
    (omega (arith, c.loop-i-test.true, c.rows-i-end.ensures.value)) (sym c.is_place.ensures ∙ c.if-not-is_place.true)
    c.in_err-move_at.ensures.moved)
