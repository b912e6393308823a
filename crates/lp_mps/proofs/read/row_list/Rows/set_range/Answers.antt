use Rattle.std.proofs.Common.{refl, Some}
use Rattle.spec_model.specs.Model.{ExactRow}
use Rattle.lp_mps.proofs.NewNames.{rows_changed}
use Rattle.lp_mps.proofs.read.row_list.Rows.set_range.Goals as goal

pub invariant_of-self : goal.invariant_of-self
invariant_of-self c =
    rows_changed c.args.at
    (λ (r : ExactRow). record r { range = Some c.args.value }) _ c.self.inside.items.items _ _ c.self.inside.names
    (λ r. refl) c.deref_mut.ensures.value c.deref_mut.ensures.len c.set_range_in.ensures c.self.invariant
