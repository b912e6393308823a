use Rattle.std.proofs.Common.{None}
use Rattle.spec_factor.proofs.FactorLimits.{ftran_agrees, btran_agrees, factor_agrees, replace_agrees}
use Rattle.spec_factor.proofs.factor_limits_only_refuse.Goals as goal

pub returns : goal.returns
returns c = record {
  ftran = λ limit m pairs v. (ftran_agrees limit m pairs v).same;
  btran = λ limit m pairs c. (btran_agrees limit m pairs c).same;
  factor = λ limit f basis. (factor_agrees limit f basis).same;
  replace = λ limit m s p k column. (replace_agrees limit m s p k column).same;
  exact_ftran = λ m pairs v. (ftran_agrees None m pairs v).exact;
  exact_btran = λ m pairs c. (btran_agrees None m pairs c).exact;
  exact_factor = λ f basis. (factor_agrees None f basis).exact;
}
