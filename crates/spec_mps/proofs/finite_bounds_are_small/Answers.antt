use Rattle.spec_mps.specs.BoundText.{infinite}
use Rattle.spec_mps.proofs.BoundLemmas.{bound_is_within, abs_from_within}
use Rattle.spec_mps.proofs.finite_bounds_are_small.Goals as goal

pub returns : goal.returns
returns c = λ text q e. abs_from_within infinite q (bound_is_within text q e)
