-- One more field has room and follows the line, or it is the first without room.
use Rattle.std.proofs.Common.{refl, sym, ◌∙◌, ap, Some, arith}
use Rattle.lp_mps.proofs.FieldSteps.{puts_next, puts_stops, puts_done}
use Rattle.lp_mps.proofs.write.line.Writer.fields.Goals as goal

pub loop-number-init : goal.loop-number-init
loop-number-init c = (refl, refl)

pub loop-number-preserved : goal.loop-number-preserved
loop-number-preserved c =
    puts_next c.args.self.now.style c.args.fields.now c.loop-number.number-index _
    (omega arith) c.args.line.now c.loop-number.line c.place.new.line
    c.loop-number.invariant.0 c.loop-number.invariant.1
    (sym c.is_wide.ensures ∙ c.if-is_wide.false) c.in_ok-place.ensures

pub returns-then-is_wide : goal.returns-then-is_wide
returns-then-is_wide c =
    puts_stops c.args.self.now.style c.args.fields.now c.loop-number.number-index _ (omega arith)
    c.loop-number.invariant.0 (sym c.is_wide.ensures ∙ c.if-is_wide.true) ∙ ap Some (sym c.in_ok-from_slice.ensures)

pub returns : goal.returns
returns c =
    puts_done c.args.self.now.style c.args.fields.now c.loop-number.number-index c.args.line.now c.loop-number.line
    (omega arith) c.loop-number.invariant.0 c.loop-number.invariant.1
