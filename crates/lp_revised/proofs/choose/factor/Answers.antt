-- One column more, a refused one, and all of them.
use Rattle.std.proofs.Common.{◌≡◌, ◌∙◌, sym, ap, ap₂, subst, map, length, arith, Some, Ok}
use Rattle.std.specs.Prelude.{unwrap_or}
use Rattle.std.proofs.lemmas.Result.{err_from_is_err_and}
use Rattle.spec_exact.specs.Narrow.{number_limit}
use Rattle.spec_factor.specs.Factors.{Chosen, choose_run}
use Rattle.lp_revised.proofs.Opens.{one_more, passed_by, factor_refused, factor_gives}
use Rattle.lp_revised.proofs.choose.factor.Goals.{then-is_basic+in_ok-choose, else-is_basic}
use Rattle.lp_revised.proofs.choose.factor.Goals as goal

pub returns-in_err-choose-clause-run : goal.returns-in_err-choose-clause-run
returns-in_err-choose-clause-run c =
    let p = err_from_is_err_and c.from_residual-in_err-choose.result c.from_residual-in_err-choose.ensures.1 in
    rw (p.1, p.2) (factor_refused c.args.form.now c.args.basis.now c.loop-k.k
    c.loop-k.chosen c.choose.new.self c.at.result c.in_err-choose.field-0.0
    (omega (arith, c.loop-k-test.true, c.cols.ensures.value, c.rows-2.ensures.value)) c.loop-k.invariant c.at.ensures
    (sym c.is_basic.ensures ∙ c.if-is_basic.true) c.in_err-choose.ensures.run)

pub loop-k-preserved : goal.loop-k-preserved
loop-k-preserved c =
    elim c.if-is_basic.branch [
      | then-is_basic+in_ok-choose w ↦
          one_more c.args.form.now c.args.basis.now c.loop-k.k c.loop-k.chosen c.if-is_basic.chosen
          c.at.result c.loop-k.invariant c.at.ensures (sym c.is_basic.ensures ∙ w.if-is_basic.true)
          (subst (λ (u : Chosen). choose_run (Some number_limit) c.args.form.now c.loop-k.k c.loop-k.chosen ≡ Ok u)
          (sym w.chosen-is) w.in_ok-choose.ensures.run)
          (subst (λ (u : Chosen). length u.columns ≡ length c.loop-k.chosen.columns)
          (sym w.chosen-is) w.choose.ensures.all)
      | else-is_basic w ↦
          passed_by c.args.form.now c.args.basis.now c.loop-k.k c.loop-k.chosen c.if-is_basic.chosen
          c.at.result c.loop-k.invariant c.at.ensures (sym c.is_basic.ensures ∙ w.if-is_basic.false) w.chosen-is
    ]

pub returns-clause-run : goal.returns-clause-run
returns-clause-run c =
    factor_gives c.args.form.now c.args.basis.now c.loop-k.k c.loop-k.chosen
    (omega (arith, c.loop-k-test.false, c.loop-k.auto.k-end, c.cols.ensures.value, c.rows-2.ensures.value))
    c.loop-k.invariant
    ∙ ap Ok (sym (c.from_parts.ensures
    ∙ ap₂ (λ ps b. record { pairs = ps; basic = b }) (ap (λ (s : Chosen). s.pairs) c.chosen-2.view_is)
    (c.in_ok-basic.ensures ∙ ap (λ columns. map (λ o. unwrap_or o 0) columns)
    (c.deref.ensures.value ∙ ap (λ (s : Chosen). s.columns) c.chosen-2.view_is))))
