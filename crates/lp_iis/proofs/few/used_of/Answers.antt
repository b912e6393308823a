-- One side more.
use Rattle.std.proofs.Common.{◌≡◌, ◌<◌, true, length, ap, arith}
use Rattle.spec_iis.specs.Sides.{is_listed}
use Rattle.spec_iis.specs.Only.{renumbered}
use Rattle.lp_iis.specs.Reading.{placed}
use Rattle.lp_iis.proofs.Placed.{item_holds, take_item, filter_more}
use Rattle.lp_iis.proofs.few.used_of.Goals as goal

pub push_used-requires : goal.push_used-requires
push_used-requires c =
    item_holds (λ s. s.row ≡ true → s.at < length c.args.places.now) c.args.sides.now c.loop-i.i c.at-side.result
    (omega (arith, c.loop-i-test.true, c.len-i-end.ensures)) c.at-side.ensures c.requires.inside

pub loop-i-preserved : goal.loop-i-preserved
loop-i-preserved c =
    let l : c.loop-i.i < length c.args.sides.now = omega (arith, c.loop-i-test.true, c.len-i-end.ensures) in
    let same : placed c.args.places.now c.at-side.result ≡ renumbered c.args.sides.now c.at-side.result =
    item_holds (λ s. placed c.args.places.now s ≡ renumbered c.args.sides.now s) c.args.sides.now c.loop-i.i
    c.at-side.result l c.at-side.ensures c.requires.same in
    filter_more (λ s. is_listed c.args.used.now (renumbered c.args.sides.now s)) c.args.sides.now c.loop-i.i
    c.at-side.result _ _ _ (take_item c.args.sides.now c.loop-i.i c.at-side.result l c.at-side.ensures)
    c.loop-i.invariant (ap (is_listed c.args.used.now) same) c.in_ok-push_used.ensures
