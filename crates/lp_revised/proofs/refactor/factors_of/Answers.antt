-- The places have columns of the form.
use Rattle.std.proofs.Common.{Some}
use Rattle.spec_exact.specs.Narrow.{number_limit}
use Rattle.lp_revised.proofs.Basics.{basics_inside}
use Rattle.lp_revised.proofs.refactor.factors_of.Goals as goal

pub returns-in-Ok-clause-inside : goal.returns-in-Ok-clause-inside
returns-in-Ok-clause-inside c =
    basics_inside (Some number_limit) c.args.form.now c.args.basis.now c.in-Ok.factors c.in-Ok.ensures.run
