use Rattle.std.proofs.Common.{sym, ◌∙◌}
use Rattle.lp_iis.proofs.Tried.{ends_cold}
use Rattle.lp_iis.proofs.SearchSteps.{begun, begun_else}
use Rattle.lp_iis.proofs.finding.find.Goals as goal

pub reduced-found-requires-clause-begun : goal.reduced-found-requires-clause-begun
reduced-found-requires-clause-begun c =
    begun c.args.budget c.args.model.now c.in_ok-end.end c.in-Infeasible.certificate
    (ends_cold c.args.model.now c.args.budget _ c.in_ok-end.ensures)
    (sym c.begin.ensures ∙ c.in-Infeasible.is)

pub returns-in-Else : goal.returns-in-Else
returns-in-Else c =
    begun_else c.args.budget c.args.model.now c.in_ok-end.end c.in-Else.end
    (ends_cold c.args.model.now c.args.budget _ c.in_ok-end.ensures)
    (sym c.begin.ensures ∙ c.in-Else.is)
