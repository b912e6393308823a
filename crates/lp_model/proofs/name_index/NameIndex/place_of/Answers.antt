use Rattle.std.proofs.Common.{◌∙◌, ap, nat_eq}
use Rattle.std.specs.List.{position}
use Rattle.std.specs.Cmp.Lexicographic.{pointwise}
use Rattle.spec_text.specs.Words.{same}
use Rattle.lp_model.proofs.NamePlaces.{place_named, pointwise_turned}
use Rattle.lp_model.proofs.name_index.NameIndex.place_of.Goals as goal

pub returns-clause-value : goal.returns-clause-value
returns-clause-value c =
    c.get_index_of.ensures.index
    ∙ place_named (λ k. pointwise nat_eq c.args.name.now k.items) (λ x. same x c.args.name.now) (λ k. k.items)
    (λ k. pointwise_turned c.args.name.now k.items) c.self.inside.names.keys
    ∙ ap (position (λ x. same x c.args.name.now)) c.self.view_is
