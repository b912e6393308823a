use Rattle.spec_solve.proofs.Orders.{checked_ends_may}
use Rattle.spec_solve.proofs.checked_ends_without_a_limit_may_be.Goals as goal

pub returns : goal.returns
returns c = λ limit budget m f e known formed ended. checked_ends_may limit budget m f formed e ended known
