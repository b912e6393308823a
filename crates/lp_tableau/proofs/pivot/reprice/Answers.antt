-- An item that stays, one item more, a refused one, and the whole list.
use Rattle.std.proofs.Common.{length, refl, sym, ◌∙◌, subst, arith}
use Rattle.std.proofs.lemmas.Result.{err_from_is_err_and}
use Rattle.spec_exact.specs.Laws.{IsWithin}
use Rattle.spec_simplex.specs.Step.{repriced_run}
use Rattle.spec_exact.proofs.RunsInOrder.{list_stops}
use Rattle.spec_exact.specs.Narrow.{number_limit}
use Rattle.lp_tableau.proofs.Done.{one_done, list_finished, as_before, item_is}
use Rattle.lp_tableau.proofs.Spots.{one_kept, less_times_no}
use Rattle.lp_tableau.proofs.pivot.reprice.Goals as goal

pub returns-in_err-reduced-clause-costs : goal.returns-in_err-reduced-clause-costs
unfolding repriced_run
returns-in_err-reduced-clause-costs c =
    let p = err_from_is_err_and c.from_residual.result c.from_residual.ensures.1 in
    let d = c.loop-k.invariant in
    let a = item_is _ _ _ c.index-reduced-j.is c.requires.column in
    let b = item_is c.loop-k.reduced c.loop-k.k _ c.index-reduced-k.is (omega (arith, d.len, c.loop-k-test.true)) in
    let step = rw (a, c.at-entry.ensures, b, as_before _ _ _ _ d) at c.in_err-reduced.ensures in
    rw (p.1, p.2) (list_stops c.loop-k.k (length c.args.reduced.now) _ _ _
    (omega (arith, d.len, c.loop-k-test.true)) d.done (sym step))

pub loop-k-preserved : goal.loop-k-preserved
loop-k-preserved c =
    let d = c.loop-k.invariant in
    let a = item_is _ _ _ c.index-reduced-j.is c.requires.column in
    let b = item_is c.loop-k.reduced c.loop-k.k _ c.index-reduced-k.is (omega (arith, d.len, c.loop-k-test.true)) in
    let step = rw (a, c.at-entry.ensures, b, as_before _ _ _ _ d) at c.in_ok-reduced.ensures in
    one_done _ _ _ _ _ d (omega (arith, d.len, c.loop-k-test.true)) (sym step)

pub loop-k-preserved-then-is_zero : goal.loop-k-preserved-then-is_zero
loop-k-preserved-then-is_zero c =
    let d = c.loop-k.invariant in
    let a = item_is _ _ _ c.index-reduced-j.is c.requires.column in
    let b =
    item_is c.loop-k.reduced c.loop-k.k _ c.index-reduced-k.is (omega (arith, d.len, c.loop-k-test.true))
    ∙ as_before _ _ _ _ d in
    let z = sym c.at-entry.ensures ∙ c.if-is_zero.ensures.0 refl in
    one_kept _ _ _ _ d (omega (arith, d.len, c.loop-k-test.true)) (less_times_no number_limit _ _ _ z
    (subst (IsWithin number_limit) a c.within.ensures) (subst (IsWithin number_limit) b c.within-in-loop-k.ensures))

pub returns-clause-costs : goal.returns-clause-costs
unfolding repriced_run
returns-clause-costs c =
    let d = c.loop-k.invariant in
    list_finished c.loop-k.k (length c.args.reduced.now) _ _ _ d
    (omega (arith, d.len, c.loop-k-test.false)) (omega (arith, d.len, c.loop-k.auto.k-end)) refl
