-- The cards of one more, or the first item that has no room.
use Rattle.std.proofs.Common.{arith}
use Rattle.std.proofs.lemmas.Result.{err_from_is_err_and}
use Rattle.spec_model.specs.Model.{no_column}
use Rattle.spec_mps.specs.Written.{bound_cards}
use Rattle.lp_mps.proofs.AddSteps.{nothing, each_next, each_stops, each_done}
use Rattle.lp_mps.proofs.write.line.Writer.column_bounds.Goals as goal

pub loop-j-init : goal.loop-j-init
loop-j-init c = nothing c.args.self.now.style c.args.to.now

pub loop-j-preserved : goal.loop-j-preserved
loop-j-preserved c =
    each_next c.args.self.now.style (λ c. bound_cards c.name c.lower c.upper)
    c.args.model.now.columns c.loop-j.j no_column (omega arith) _ _ _ c.loop-j.invariant
    (rw (c.as_slice.ensures, c.col-column.ensures) at c.in_ok-bound_cards.ensures)

pub returns-in_err-bound_cards : goal.returns-in_err-bound_cards
returns-in_err-bound_cards c =
    let p = err_from_is_err_and c.from_residual.result c.from_residual.ensures.1 in
    rw (p.1, p.2)
    (each_stops c.args.self.now.style (λ c. bound_cards c.name c.lower c.upper) c.args.model.now.columns
    c.loop-j.j no_column (omega arith) _ _ c.in_err-bound_cards.field-0.0 c.loop-j.invariant
    (rw (c.as_slice.ensures, c.col-column.ensures) at c.in_err-bound_cards.ensures))

pub returns : goal.returns
returns c =
    each_done c.args.self.now.style (λ c. bound_cards c.name c.lower c.upper) c.args.model.now.columns c.loop-j.j _ _
    (omega arith) c.loop-j.invariant
