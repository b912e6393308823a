use Rattle.std.proofs.Common.{◌≡◌, true, false, Some, Ok, refl, sym, ◌∙◌, subst}
use Rattle.spec_exact.specs.Narrow.{number_limit}
use Rattle.spec_model.specs.Model.{limits_of}
use Rattle.spec_check.specs.Run.{lower_run, upper_run}
use Rattle.spec_iis.specs.Rule.{IsRead}
use Rattle.spec_iis.proofs.Listed.{listed_holds}
use Rattle.spec_iis.proofs.Points.{side}
use Rattle.lp_iis.proofs.rows.row_at.Goals as goal

pub row_with-requires-clause-lower : goal.row_with-requires-clause-lower
row_with-requires-clause-lower c = λ e.
    subst (λ r. lower_run (Some number_limit) r ≡ Ok (limits_of r).lower) (sym c.row.ensures)
    (listed_holds (IsRead (Some number_limit) c.args.model.now) c.args.sides.now (side true c.args.i false)
    c.requires.read
    (sym c.has_lower-lower.ensures ∙ e) refl)

pub row_with-requires-clause-upper : goal.row_with-requires-clause-upper
row_with-requires-clause-upper c = λ e.
    subst (λ r. upper_run (Some number_limit) r ≡ Ok (limits_of r).upper) (sym c.row.ensures)
    (listed_holds (IsRead (Some number_limit) c.args.model.now) c.args.sides.now (side true c.args.i true)
    c.requires.read
    (sym c.has_upper-upper.ensures ∙ e) refl)
