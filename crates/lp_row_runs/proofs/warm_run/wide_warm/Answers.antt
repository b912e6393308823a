-- The form of a model has its costs, and no bounds that clash.
use Rattle.std.proofs.Common.{Some, subst}
use Rattle.spec_exact.specs.Narrow.{number_limit}
use Rattle.spec_simplex.proofs.FormOfModel.{form_is, form_proper, cost_length}
use Rattle.lp_row_runs.specs.Phases.{HasCosts}
use Rattle.lp_row_runs.proofs.warm_run.wide_warm.Goals as goal

pub returns : goal.returns
returns c = λ m formed.
    let o = form_is (Some number_limit) m c.args.form.now formed in
    c.run_warm.ensures (form_proper (Some number_limit) m c.args.form.now formed)
    (subst HasCosts o.2 (cost_length m o.0 o.1))
