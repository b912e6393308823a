-- A position with a gap has an entry.
use Rattle.std.proofs.Common.{sym, ap, ◌∙◌, Some, Ok}
use Rattle.spec_exact.specs.Narrow.{number_limit}
use Rattle.lp_simplex.proofs.Ratios.{divides}
use Rattle.lp_simplex.proofs.primal.ratio.best_at.Goals as goal

pub div-requires : goal.div-requires
div-requires c =
    λ z. divides (Some number_limit) c.args.way c.args.at.entry c.args.at.lower c.args.at.upper c.args.at.value
    c.in-Some.gap c.in-Some.to (sym c.in_ok-gap.ensures ∙ ap Ok c.in-Some.is) (sym c.abs.ensures ∙ z)
