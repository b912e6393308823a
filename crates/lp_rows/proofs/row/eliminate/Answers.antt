-- The other row once, where the row stays as it is.
use Rattle.std.proofs.Common.{sym, ◌∙◌, refl}
use Rattle.lp_rows.proofs.TakenMultiples.{once}
use Rattle.lp_rows.proofs.row.eliminate.Goals as goal

pub returns-then-is_unit-clause-each : goal.returns-then-is_unit-clause-each
returns-then-is_unit-clause-each g c t k l =
    c.take_off.ensures.each t k l ∙ sym (once _ _ _ (c.if-is_unit.ensures refl))
