-- No more columns are basic than there are.
use Rattle.std.proofs.Common.{◌≤◌, List, length, subst, arith}
use Rattle.spec_pivot.specs.declared.status.Status.{Status}
use Rattle.lp_form.proofs.Counted.{basics_within}
use Rattle.lp_form.proofs.basis.Basis.rows.Goals as goal

pub returns-clause-bound : goal.returns-clause-bound
returns-clause-bound c =
    subst (λ (statuses : List Status). c.self.inside.rows ≤ length statuses) c.self.view_is
    (omega (
      arith,
      c.self.invariant,
      basics_within c.self.inside.statuses.items (length c.self.inside.statuses.items),
    ))
