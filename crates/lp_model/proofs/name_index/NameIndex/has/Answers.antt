use Rattle.std.proofs.Common.{◌∙◌, ap, nat_eq}
use Rattle.std.specs.List.{list_any}
use Rattle.std.specs.Cmp.Lexicographic.{pointwise}
use Rattle.spec_text.specs.Words.{same}
use Rattle.lp_model.proofs.NamePlaces.{any_named, pointwise_is}
use Rattle.lp_model.proofs.name_index.NameIndex.has.Goals as goal

pub returns : goal.returns
returns c =
    c.contains.ensures
    ∙ any_named (λ k. pointwise nat_eq c.args.name.now k.items) (same c.args.name.now) (λ k. k.items)
    (λ k. pointwise_is c.args.name.now k.items) c.self.inside.names.keys
    ∙ ap (list_any (same c.args.name.now)) c.self.view_is
