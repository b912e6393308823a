use Rattle.std.proofs.Common.{◌∙◌, refl, sym, ap}
use Rattle.std.specs.List.{position}
use Rattle.spec_text.specs.Words.{same}
use Rattle.spec_model.specs.Model.{ExactColumn}
use Rattle.lp_model.proofs.NamePlaces.{place_named}
use Rattle.lp_model.proofs.indexed.column_named.Goals as goal

pub returns-in-Some-clause-value : goal.returns-in-Some-clause-value
returns-in-Some-clause-value c =
    c.place_of.ensures.value ∙ ap (position (λ x. same x c.args.name.now)) (rw c.in-Some.is at c.requires)
    ∙ sym (place_named (λ (x : ExactColumn). same x.name c.args.name.now)
    (λ x. same x c.args.name.now) (λ (x : ExactColumn). x.name)
    (λ x. refl) c.args.columns.now)
