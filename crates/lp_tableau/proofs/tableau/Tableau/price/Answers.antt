-- One reduced cost more, a refused one, and all of them.
use Rattle.std.proofs.Common.{◌<◌, length, sym, subst, ap, ◌∙◌, arith}
use Rattle.std.proofs.lemmas.Result.{err_from_is_err_and}
use Rattle.spec_simplex.specs.Tableau.{all_columns}
use Rattle.spec_simplex.specs.Start.{priced_run}
use Rattle.spec_exact.proofs.RunsInOrder.{list_stops}
use Rattle.lp_tableau.proofs.Done.{IsDone, one_done, list_finished}
use Rattle.lp_tableau.proofs.Priced.{reduced_same, repriced_again}
use Rattle.lp_tableau.proofs.tableau.Tableau.price.Goals as goal

pub returns-in_err-cost-clause-priced : goal.returns-in_err-cost-clause-priced
unfolding priced_run
returns-in_err-cost-clause-priced c =
    let p = err_from_is_err_and c.from_residual.result c.from_residual.ensures.1 in
    let i = c.loop-k.invariant in
    let w = c.width-k-end.ensures.value in
    rw (p.1, p.2)
    (list_stops c.loop-k.k (all_columns c.args.self.now) _ _ _ (omega (arith, c.loop-k-test.true, w)) i.done.done
    (sym (reduced_same _ c.args.self.now c.loop-k.self _ _ i.rest) ∙ sym c.in_err-cost.ensures))

pub loop-k-preserved : goal.loop-k-preserved
loop-k-preserved c =
    let i = c.loop-k.invariant in
    let s = c.width-k-end.ensures.shape in
    let w = c.width-k-end.ensures.value in
    let inside : c.loop-k.k < length c.loop-k.self.reduced =
    omega (arith, c.loop-k-test.true, w, i.done.len, s.all_reduced) in
    record {
      done =
          subst (IsDone _ _ _) (sym (ap (λ t. t.reduced) c.set_reduced.ensures)) (one_done _ _ _ _ _ i.done inside
          (sym (reduced_same _ c.args.self.now c.loop-k.self _ _ i.rest) ∙ sym c.in_ok-cost.ensures));
      rest = repriced_again c.args.self.now c.loop-k.self _ _ i.rest c.set_reduced.ensures;
    }

pub returns-clause-priced : goal.returns-clause-priced
unfolding priced_run
returns-clause-priced c =
    let s = c.width-k-end.ensures.shape in
    let w = c.width-k-end.ensures.value in
    list_finished c.loop-k.k (all_columns c.args.self.now) _ _ _ c.loop-k.invariant.done
    (omega (arith, c.loop-k-test.false, w)) (omega (arith, c.loop-k.auto.k-end, w)) s.all_reduced
