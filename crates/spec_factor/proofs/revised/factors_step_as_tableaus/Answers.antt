use Rattle.spec_factor.proofs.StateSteps.{goes_on, state_choice, state_flip, state_pivot}
use Rattle.spec_factor.proofs.revised.factors_step_as_tableaus.Goals as goal

pub returns : goal.returns
returns c = record {
  choice =
      λ limit other f starts costs b t s c selection st few g.
      state_choice f starts costs b t st few s g limit other c selection;
  flip = λ f starts costs b t u s c selection j st inside few g.
      state_flip f starts costs b t st few s g inside u c selection j;
  pivot =
      λ f starts costs b t u s c selection p j theta to st inside few g.
      state_pivot f starts costs b t st few s g inside u c selection p j theta to;
  refresh = goes_on;
}
