use Rattle.std.proofs.lemmas.List.Elements.{All-weaker}
use Rattle.spec_model.specs.Model.{Model}
use Rattle.spec_model.specs.Kept.{IsModelWithin, IsUsualModel, usual_limits}
use Rattle.spec_model.proofs.KeptModels.{usual_from_within, within_from_usual}
use Rattle.spec_presolve.specs.Choose.{ExactReduction}
use Rattle.spec_presolve.proofs.KeptReductions.{kept_all}
use Rattle.spec_presolve.proofs.reduced_models_may_be_kept.Goals as goal

pub returns : goal.returns
returns c = λ m r k h.
    let all = kept_all m r (within_from_usual m k) h in (
      All-weaker (λ (s : ExactReduction × Model). IsModelWithin usual_limits s.1)
          (λ (s : ExactReduction × Model). IsUsualModel s.1) (λ s w. usual_from_within s.1 w) r.steps all.0,
      usual_from_within r.last all.1,
    )
