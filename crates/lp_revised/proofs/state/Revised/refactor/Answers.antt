-- Factors that stop, and the new ones.
use Rattle.std.proofs.Common.{refl}
use Rattle.std.proofs.lemmas.Result.{err_from_is_err_and}
use Rattle.spec_factor.specs.Revised.{factor_basis}
use Rattle.lp_revised.proofs.Renewed.{no_factors, renewed}
use Rattle.lp_revised.proofs.state.Revised.refactor.Goals as goal

pub returns-in_err-factors-clause-run : goal.returns-in_err-factors-clause-run
returns-in_err-factors-clause-run c =
    let p = err_from_is_err_and c.from_residual.result c.from_residual.ensures.1 in
    rw (p.1, p.2) (no_factors c.args.form.now c.args.self.now (factor_basis c.args.self.now.bare) refl _
    c.in_err-factors.ensures.run)

pub returns-clause-run : goal.returns-clause-run
returns-clause-run c =
    renewed c.args.form.now c.args.self.now (factor_basis c.args.self.now.bare) refl _ c.in_ok-factors.factors
    c.in_ok-basic.basic.items c.self.view_is c.in_ok-factors.ensures.run c.in_ok-basic.ensures.value
