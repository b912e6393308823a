-- A refusal in the reduced costs, and the tableau with them.
use Rattle.std.proofs.Common.{◌∙◌, Some}
use Rattle.spec_exact.specs.Narrow.{number_limit}
use Rattle.lp_tableau.proofs.TableauParts.{price_stops, is_priced}
use Rattle.lp_tableau.proofs.start.priced.Goals as goal

pub returns-clause-err : goal.returns-clause-err
returns-clause-err c =
    price_stops (Some number_limit) c.args.form.now c.args.starts.now c.in_ok-tableau.tableau _ c.in_ok-tableau.ensures
    (c.deref.ensures.value ∙ c.in_ok-costs.ensures) _
    c.in-Err.ensures.priced

pub returns-in-Ok-clause-ok : goal.returns-in-Ok-clause-ok
returns-in-Ok-clause-ok c =
    is_priced (Some number_limit) c.args.form.now c.args.starts.now c.in_ok-tableau.tableau _ c.in_ok-tableau.ensures
    (c.deref.ensures.value ∙ c.in_ok-costs.ensures) _
    c.in-Ok.ensures.priced c.in-Ok.ensures.rest
