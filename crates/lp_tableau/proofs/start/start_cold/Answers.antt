-- A refusal in the rows, and the start from them.
use Rattle.std.proofs.Common.{◌≡◌, ap, sym, subst, ◌∙◌, length, Ok}
use Rattle.std.specs.Result.{IfOk, IfErr}
use Rattle.std.proofs.lemmas.Result.{err_from_is_err_and}
use Rattle.spec_exact.proofs.RunsInOrder.{length-list_run}
use Rattle.lp_tableau.specs.Answer.{Stops}
use Rattle.lp_tableau.proofs.TableauParts.{rows_stop, start_is}
use Rattle.lp_tableau.proofs.start.start_cold.Goals as goal

pub returns-in_err-starts-clause-err : goal.returns-in_err-starts-clause-err
returns-in_err-starts-clause-err c =
    let p = err_from_is_err_and c.from_residual-in_err-starts.result c.from_residual-in_err-starts.ensures.1 in
    rw (p.1, p.2) (rows_stop _ _ _ c.in_err-starts.ensures.err)

pub priced-requires-clause-starts : goal.priced-requires-clause-starts
priced-requires-clause-starts c = ap length c.deref.ensures.value ∙ length-list_run _ _ _ c.in_ok-starts.ensures.ok

pub returns-clause-ok : goal.returns-clause-ok
returns-clause-ok c =
    subst (λ run. IfOk c.priced.result (λ t. run ≡ Ok t))
    (sym (start_is _ _ _ (c.in_ok-starts.ensures.ok ∙ ap Ok (sym c.deref.ensures.value)))) c.priced.ensures.ok

pub returns-clause-err : goal.returns-clause-err
returns-clause-err c =
    subst (λ run. IfErr c.priced.result (Stops run))
    (sym (start_is _ _ _ (c.in_ok-starts.ensures.ok ∙ ap Ok (sym c.deref.ensures.value)))) c.priced.ensures.err
