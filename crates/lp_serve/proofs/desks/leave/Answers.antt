-- One more listener.
use Rattle.std.proofs.Common.{[], ◌∷◌, ap, sym, ◌∙◌, subst, arith}
use Rattle.std.proofs.lemmas.List.{map-append}
use Rattle.lp_workers.proofs.Gathering.{AreSplit, split_next}
use Rattle.lp_serve.specs.declared.desk.Desk.{Desk}
use Rattle.lp_serve.specs.Desks.{nets_of}
use Rattle.lp_serve.proofs.desks.leave.Goals as goal

pub loop-desk-preserved : goal.loop-desk-preserved
loop-desk-preserved g c =
    let so = c.loop-desk.invariant in
    let desk = c.in-Some.desk in
    let rest = c.pop.new.self.items in
    let left = c.loop-desk.desks.items in
    record {
      nets = subst (AreSplit (nets_of c.args.desks.items) (nets_of rest)) (sym c.push_reserved.ensures.items)
          (split_next (nets_of c.args.desks.items) (nets_of left) (nets_of rest) c.loop-desk.nets.items desk.net
          so.nets
          (ap nets_of c.in-Some.ensures.items ∙ map-append (λ (x : Desk g.row.N.Denot). x.net) rest (desk ∷ [])));
      len = omega (arith, so.len, c.in-Some.ensures.cases, c.push_reserved.ensures.len);
      room = c.push_reserved.ensures.capacity ∙ so.room;
    }
