-- One more list.
use Rattle.std.proofs.Common.{◌∙◌, sym, subst, arith}
use Rattle.std.specs.List.{All}
use Rattle.std.proofs.lemmas.List.Elements.{All-push}
use Rattle.lp_serve.specs.Desks.{IsRoom}
use Rattle.lp_serve.proofs.desks.rooms.Goals as goal

pub loop-index-preserved : goal.loop-index-preserved
loop-index-preserved c =
    let so = c.loop-index.invariant in
    let made = c.in_ok-with_capacity.ensures in record {
      len = omega (arith, so.len, c.push_reserved.ensures.len);
      room = c.push_reserved.ensures.capacity ∙ so.room;
      rooms = subst (All (IsRoom c.args.each)) (sym c.push_reserved.ensures.items)
          (All-push (IsRoom c.args.each) c.loop-index.rooms.items c.in_ok-with_capacity.field-0 so.rooms
          (made.items, omega (arith, made.exact)));
    }
