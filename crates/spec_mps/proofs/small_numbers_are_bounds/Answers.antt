use Rattle.spec_mps.specs.BoundText.{infinite}
use Rattle.spec_mps.proofs.BoundLemmas.{number_is_bound, within_from_abs}
use Rattle.spec_mps.proofs.small_numbers_are_bounds.Goals as goal

pub returns : goal.returns
returns c = λ text q e h. number_is_bound text q e (within_from_abs infinite q h)
