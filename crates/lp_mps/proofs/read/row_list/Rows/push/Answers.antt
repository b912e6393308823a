use Rattle.std.proofs.Common.{◌≢◌, All, sym, subst}
use Rattle.spec_model.specs.Model.{ExactRow}
use Rattle.lp_mps.proofs.NewNames.{names_new}
use Rattle.lp_mps.proofs.read.row_list.Rows.push.Goals as goal

pub push-requires : goal.push-requires
push-requires c =
    names_new (λ (r : ExactRow). r.name) c.self.inside.items.items c.self.inside.names c.args.row.name _
    c.self.invariant.named c.as_slice.ensures
    (subst (λ rs. All (λ (r : ExactRow). r.name ≢ c.args.row.name) rs) (sym c.self.view_is) c.requires.new)
