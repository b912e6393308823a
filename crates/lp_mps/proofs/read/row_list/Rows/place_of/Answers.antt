use Rattle.std.proofs.Common.{◌∙◌, ap}
use Rattle.std.specs.List.{position}
use Rattle.spec_text.specs.Words.{same}
use Rattle.spec_model.specs.Model.{ExactRow}
use Rattle.lp_mps.proofs.NewNames.{row_placed}
use Rattle.lp_mps.proofs.read.row_list.Rows.place_of.Goals as goal

pub returns-in-Some : goal.returns-in-Some
returns-in-Some c =
    c.in-Some.ensures.value ∙ row_placed c.self.inside.items.items c.self.inside.names c.args.name.now c.self.invariant
    ∙ ap (position (λ (r : ExactRow). same r.name c.args.name.now)) c.self.view_is

pub returns-in-None : goal.returns-in-None
returns-in-None c =
    c.in-None.ensures.value ∙ row_placed c.self.inside.items.items c.self.inside.names c.args.name.now c.self.invariant
    ∙ ap (position (λ (r : ExactRow). same r.name c.args.name.now)) c.self.view_is
