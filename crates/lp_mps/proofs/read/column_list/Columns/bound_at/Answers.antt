use Rattle.std.specs.Prelude.{option_map}
use Rattle.std.proofs.Common.{◌∙◌, map, sym, ap}
use Rattle.spec_model.specs.Model.{ExactColumn}
use Rattle.spec_mps.specs.Bounds.{bounded}
use Rattle.spec_mps.proofs.SoundColumns.{bounded_name}
use Rattle.lp_mps.specs.BoundSeen.{bound_seen}
use Rattle.lp_mps.specs.InOrder.{ordered}
use Rattle.lp_mps.proofs.NewNames.{written_back, names_changed, names_beside}
use Rattle.lp_mps.proofs.read.column_list.Columns.bound_at.Goals as goal

pub invariant_of-self : goal.invariant_of-self
invariant_of-self c =
    let change : ExactColumn → ExactColumn = bounded c.args.lowered (bound_seen c.args.card.now) in
    let written =
    written_back c.args.place change _ c.self.inside.whole.items _ _ c.deref_mut.ensures.value
    c.deref_mut.ensures.len c.bound_at.ensures in
    record {
      named =
          c.self.invariant.named
          ∙ sym (names_beside c.self.inside.whole.items _ (option_map ordered c.self.inside.current)
          (ap (map (λ (x : ExactColumn). x.name)) written
          ∙ names_changed (λ (x : ExactColumn). x.name) c.args.place change
          (bounded_name c.args.lowered (bound_seen c.args.card.now))
          c.self.inside.whole.items));
    }
