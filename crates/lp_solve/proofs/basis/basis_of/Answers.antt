-- As many statuses are basic as the form has rows.
use Rattle.std.proofs.Common.{List, Option, IfSome, sym, ap, subst, ◌∙◌}
use Rattle.spec_pivot.specs.declared.status.Status.{Status}
use Rattle.spec_simplex.specs.Eliminate.{IsBasisOf}
use Rattle.lp_form.specs.Count.{basics}
use Rattle.lp_form.proofs.Counted.{basics_are_rows}
use Rattle.lp_solve.proofs.basis.basis_of.Goals as goal

pub from_vec-requires : goal.from_vec-requires
from_vec-requires c =
    ap basics c.into_vec.ensures
    ∙ basics_are_rows c.args.form.now _
    (subst (λ (o : Option (List Status)). IfSome o (λ basis. IsBasisOf c.args.form.now basis)) c.in-Some.is c.requires)
    ∙ sym c.rows.ensures.value
