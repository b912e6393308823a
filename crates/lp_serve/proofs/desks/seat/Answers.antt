-- One more desk, and all of them in their order.
use Rattle.std.proofs.Common.{Some, false, [], ◌∷◌, refl, ap, sym, ◌∙◌, subst, arith}
use Rattle.std.specs.List.{All}
use Rattle.std.proofs.lemmas.List.{map-append}
use Rattle.std.proofs.lemmas.List.Elements.{All-push, All-pop}
use Rattle.std.proofs.lemmas.List.Sorted.{All-permutation}
use Rattle.lp_workers.proofs.Gathering.{AreSplit, split_next, split_all, none_left, map_reverse}
use Rattle.lp_serve.specs.declared.desk.Desk.{Desk}
use Rattle.lp_serve.specs.Desks.{IsOpen, IsRoom, nets_of}
use Rattle.lp_serve.proofs.desks.seat.Goals as goal

pub loop-net-preserved : goal.loop-net-preserved
loop-net-preserved g c =
    let so = c.loop-net.invariant in
    let ends = c.in-Some-pop.ends in
    let desks = c.loop-net.desks.items in
    let desk : Desk g.row.N.Denot = record { net = c.in-Some.net; ends = ends; has_failed = false } in
    let pushed = c.push_reserved.ensures.items in
    let rooms = All-pop (IsRoom c.args.each) c.loop-net.rooms.items c.pop-in-Some.new.self.items (Some ends)
    c.in-Some-pop.ensures.items so.rooms in
    record {
      nets = subst (AreSplit c.args.nets.now.items c.pop.new.self.items)
          (sym (ap nets_of pushed ∙ map-append (λ (x : Desk g.row.N.Denot). x.net) desks (desk ∷ [])))
          (split_next c.args.nets.now.items c.loop-net.nets.items c.pop.new.self.items (nets_of desks) c.in-Some.net
          so.nets c.in-Some.ensures.items);
      many = omega (arith, so.many, c.in-Some.ensures.cases, c.in-Some-pop.ensures.cases);
      len = omega (arith, so.len, c.in-Some.ensures.cases, c.push_reserved.ensures.len);
      room = c.push_reserved.ensures.capacity ∙ so.room;
      kept = c.in-Some.ensures.capacity ∙ so.kept;
      rooms = rooms.0;
      opened = subst (All (IsOpen c.args.each)) (sym pushed)
          (All-push (IsOpen c.args.each) desks desk so.opened
          (record { none = rooms.1.0; room = rooms.1.1; well = refl }));
    }

pub returns-clause-nets : goal.returns-clause-nets
returns-clause-nets g c =
    let none = none_left c.loop-net.nets.items c.loop-net.nets.len c.loop-net.nets.ok.0 c.in_default.ensures.cases.0 in
    ap nets_of c.reverse.ensures.items
    ∙ map_reverse (λ (x : Desk g.row.N.Denot). x.net) c.loop-net.desks.items
    ∙ split_all c.args.nets.now.items c.loop-net.nets.items (nets_of c.loop-net.desks.items)
    c.loop-net.invariant.nets none

pub returns-clause-opened : goal.returns-clause-opened
returns-clause-opened g c =
    All-permutation (IsOpen c.args.each) c.loop-net.desks.items c.reverse.new.self.items
    c.reverse.ensures.permutation c.loop-net.invariant.opened
