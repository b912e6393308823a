-- The factors are those of the basic columns.
use Rattle.std.proofs.Common.{◌≡◌, ◌<◌, ◌+◌, Some, All, length, ap₂, subst}
use Rattle.std.specs.Result.{IfOk}
use Rattle.spec_exact.specs.Narrow.{number_limit}
use Rattle.spec_factor.specs.Factors.{factor_run}
use Rattle.spec_factor.specs.Revised.{factor_stop}
use Rattle.lp_revised.specs.Answer.{AnswersRevised}
use Rattle.lp_revised.proofs.Renewed.{basis_long}
use Rattle.lp_revised.proofs.state.Revised.new_factors.Goals as goal

pub factors_of-requires : goal.factors_of-requires
factors_of-requires c =
    basis_long c.args.self.now.bare c.args.form.now c.in_ok-basis.basis c.in_ok-basis.ensures c.requires.rows
    c.requires.cols

pub returns-clause-run : goal.returns-clause-run
returns-clause-run c =
    subst (λ b. AnswersRevised (factor_stop (factor_run (Some number_limit) c.args.form.now b)) c.factors_of.result)
    c.in_ok-basis.ensures c.factors_of.ensures.run

pub returns-clause-all : goal.returns-clause-all
returns-clause-all c =
    subst (λ n. IfOk c.factors_of.result (λ s. length s.basic ≡ n)) c.requires.rows c.factors_of.ensures.all

pub returns-clause-inside : goal.returns-clause-inside
returns-clause-inside c =
    subst (λ n. IfOk c.factors_of.result (λ s. All (λ k. k < n) s.basic))
    (ap₂ (λ m n. m + n) c.requires.cols c.requires.rows) c.factors_of.ensures.inside
