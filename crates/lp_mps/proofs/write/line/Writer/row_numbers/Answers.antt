-- The cards of one more, or the first item that has no room.
use Rattle.std.proofs.Common.{arith}
use Rattle.std.proofs.lemmas.Result.{err_from_is_err_and}
use Rattle.spec_model.specs.Model.{no_row}
use Rattle.lp_mps.specs.RowNumbers.{number_cards}
use Rattle.lp_mps.proofs.AddSteps.{nothing, each_next, each_stops, each_done}
use Rattle.lp_mps.proofs.write.line.Writer.row_numbers.Goals as goal

pub loop-i-init : goal.loop-i-init
loop-i-init c = nothing c.args.self.now.style c.args.to.now

pub loop-i-preserved : goal.loop-i-preserved
loop-i-preserved c =
    each_next c.args.self.now.style (number_cards c.args.which) c.args.model.now.rows c.loop-i.i no_row
    (omega arith) _ _ _ c.loop-i.invariant (rw c.row.ensures at c.in_ok-row_number.ensures)

pub returns-in_err-row_number : goal.returns-in_err-row_number
returns-in_err-row_number c =
    let p = err_from_is_err_and c.from_residual.result c.from_residual.ensures.1 in
    rw (p.1, p.2)
    (each_stops c.args.self.now.style (number_cards c.args.which) c.args.model.now.rows c.loop-i.i no_row
    (omega arith) _ _ c.in_err-row_number.field-0.0 c.loop-i.invariant
    (rw c.row.ensures at c.in_err-row_number.ensures))

pub returns : goal.returns
returns c =
    each_done c.args.self.now.style (number_cards c.args.which) c.args.model.now.rows c.loop-i.i _ _
    (omega arith) c.loop-i.invariant
