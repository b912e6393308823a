-- The basis is one of the form, and not singular.
use Rattle.std.proofs.Common.{Some, subst}
use Rattle.spec_exact.specs.Narrow.{number_limit}
use Rattle.spec_simplex.specs.Eliminate.{start_from}
use Rattle.lp_tableau.specs.Based.{StopsAt}
use Rattle.lp_range.proofs.Ranged.{all_statuses, never_singular}
use Rattle.lp_range.proofs.ranging.Ranging.new.Goals as goal

pub start_from-requires : goal.start_from-requires
start_from-requires c =
    all_statuses (Some number_limit) c.requires.0 c.args.form.now c.args.basis.now c.requires.1 c.requires.2

pub unreachable-requires : goal.unreachable-requires
unreachable-requires c =
    never_singular (Some number_limit) c.requires.0 c.args.form.now c.args.basis.now c.requires.1 c.requires.2
    (subst (λ s. StopsAt (start_from (Some number_limit) c.args.form.now c.args.basis.now) s) c.in-Err-Cause.field-0-is
    c.in-Err-Cause.ensures.err)
