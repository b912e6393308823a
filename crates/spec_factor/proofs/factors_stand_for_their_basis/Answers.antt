use Rattle.spec_factor.proofs.Factored.{factor_ok, factor_dependent, independent}
use Rattle.spec_factor.proofs.factors_stand_for_their_basis.Goals as goal

pub returns : goal.returns
returns c = record {
  stands = λ limit f basis. factor_ok f basis limit;
  singular = λ limit f basis. factor_dependent f basis limit;
  independent = independent;
}
