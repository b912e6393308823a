use Rattle.std.proofs.Common.{◌≡◌, None, Ok, sym, ap, subst, ◌∙◌}
use Rattle.spec_check.specs.Run.{lower_run, upper_run}
use Rattle.lp_solve.specs.Standing.{RowStandsWith}
use Rattle.lp_solve.proofs.Standing.{stands_if}
use Rattle.lp_solve.proofs.stands.row_stands.Goals as goal

pub returns-in_ok-lower-in-AtLower : goal.returns-in_ok-lower-in-AtLower
returns-in_ok-lower-in-AtLower c =
    stands_if c.stands_at.result _ _ c.stands_at.ensures (λ e.
    subst (RowStandsWith c.args.model.now c.args.y.now c.args.i c.args.sum.now) (sym c.in-AtLower.is)
    (subst (λ r. lower_run None r ≡ Ok c.in_ok-lower-in-AtLower.lower) c.row.ensures c.in_ok-lower-in-AtLower.ensures
    ∙ ap Ok e))

pub returns-in_ok-upper-in-AtUpper : goal.returns-in_ok-upper-in-AtUpper
returns-in_ok-upper-in-AtUpper c =
    stands_if c.stands_at-in-AtUpper.result _ _ c.stands_at-in-AtUpper.ensures (λ e.
    subst (RowStandsWith c.args.model.now c.args.y.now c.args.i c.args.sum.now) (sym c.in-AtUpper.is)
    (subst (λ r. upper_run None r ≡ Ok c.in_ok-upper-in-AtUpper.upper) c.row-in-AtUpper.ensures
    c.in_ok-upper-in-AtUpper.ensures ∙ ap Ok e))
