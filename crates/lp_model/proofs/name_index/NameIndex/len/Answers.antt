use Rattle.std.proofs.Common.{◌∙◌, length, sym, ap}
use Rattle.std.proofs.lemmas.List.{length-map}
use Rattle.lp_model.proofs.name_index.NameIndex.len.Goals as goal

pub returns : goal.returns
returns c =
    c.len.ensures.len ∙ sym (length-map c.self.inside.names.keys (λ k. k.items)) ∙ ap length c.self.view_is
