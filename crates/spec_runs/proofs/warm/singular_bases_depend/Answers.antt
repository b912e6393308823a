use Rattle.spec_runs.proofs.Singular.{start_singular}
use Rattle.spec_runs.proofs.warm.singular_bases_depend.Goals as goal

pub returns : goal.returns
returns c = start_singular
