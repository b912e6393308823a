use Rattle.std.proofs.Common.{◌∙◌, refl, sym, ap}
use Rattle.std.specs.List.{position}
use Rattle.spec_text.specs.Words.{same}
use Rattle.spec_model.specs.Model.{ExactRow}
use Rattle.lp_model.proofs.NamePlaces.{place_named}
use Rattle.lp_model.proofs.indexed.row_named.Goals as goal

pub returns-in-Some-clause-value : goal.returns-in-Some-clause-value
returns-in-Some-clause-value c =
    c.place_of.ensures.value ∙ ap (position (λ x. same x c.args.name.now)) (rw c.in-Some.is at c.requires)
    ∙ sym (place_named (λ (x : ExactRow). same x.name c.args.name.now)
    (λ x. same x c.args.name.now) (λ (x : ExactRow). x.name)
    (λ x. refl) c.args.rows.now)
