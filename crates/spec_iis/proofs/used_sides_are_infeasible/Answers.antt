use Rattle.spec_iis.proofs.Used.{used_clash}
use Rattle.spec_iis.proofs.Readings.{used_read}
use Rattle.spec_iis.proofs.used_sides_are_infeasible.Goals as goal

pub returns-clause-present : goal.returns-clause-present
returns-clause-present c = λ limit m cert fits e. (used_clash limit m cert fits e).present

pub returns-clause-infeasible : goal.returns-clause-infeasible
returns-clause-infeasible c = λ limit m cert fits e. (used_clash limit m cert fits e).infeasible

pub returns-clause-read : goal.returns-clause-read
returns-clause-read c = used_read
