use Rattle.spec_runs.proofs.Feasibility.{primal_fit, dual_fit}
use Rattle.spec_runs.proofs.warm.fits_mean_methods.Goals as goal

pub returns : goal.returns
returns c = record {
  primal = primal_fit;
  dual = λ limit m n f cost b t budget r s. dual_fit limit m n f cost b t s budget r;
}
