-- A column that may enter has an entry.
use Rattle.std.proofs.Common.{sym, ap, ◌∙◌}
use Rattle.spec_exact.specs.Fraction.{abs_ℚ}
use Rattle.lp_simplex.proofs.DualEntering.{divides}
use Rattle.lp_simplex.proofs.dual.candidates.cheapest_with.Goals as goal

pub div-requires : goal.div-requires
div-requires c =
    λ z. divides c.args.tab.now c.args.out.position c.args.out.direction c.args.k c.in-Some.field-0
    (sym c.column_way.ensures ∙ c.in-Some.is) (ap abs_ℚ (sym c.entry.ensures) ∙ sym c.abs-in-Some.ensures ∙ z)
