use Rattle.spec_model.proofs.LimitsAtLimit.{limit_ok, limit_all}
use Rattle.spec_model.proofs.row_limits_are_exact_or_refused.Goals as goal

pub returns-clause-exact : goal.returns-clause-exact
returns-clause-exact c = limit_ok

pub returns-clause-unlimited : goal.returns-clause-unlimited
returns-clause-unlimited c = limit_all
