-- The status of one column more, and all of them.
use Rattle.std.proofs.Common.{[], ◌∙◌}
use Rattle.spec_runs.specs.Cold.{basis_status}
use Rattle.lp_tableau.proofs.GrowingLists.{more_made, all_made}
use Rattle.lp_revised.proofs.state.Revised.factor_basis.Goals as goal

pub loop-k-preserved : goal.loop-k-preserved
loop-k-preserved c =
    more_made [] _ _ c.loop-k.k (basis_status c.args.self.now.bare) _ c.loop-k.invariant c.basis_status.ensures
    c.in_ok-push.ensures.items

pub returns : goal.returns
returns c =
    c.from_vec.ensures
    ∙ all_made [] _ c.loop-k.k _ _ (basis_status c.args.self.now.bare) c.loop-k.invariant c.loop-k.auto.k-end
    c.loop-k-test.false c.form_columns-k-end.ensures.value
