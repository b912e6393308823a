-- A column whose entry is 0 stays.
use Rattle.std.proofs.Common.{get_or, refl, sym, ap, subst, ◌∙◌}
use Rattle.spec_exact.specs.Fraction.{0ℚ}
use Rattle.spec_exact.specs.Laws.{IsWithin}
use Rattle.spec_exact.specs.Narrow.{number_limit}
use Rattle.lp_tableau.proofs.Spots.{not_moved}
use Rattle.lp_tableau.proofs.tableau.Tableau.move_at.Goals as goal

pub returns-then-is_zero-clause-moved : goal.returns-then-is_zero-clause-moved
returns-then-is_zero-clause-moved c =
    let e = c.value-value.ensures ∙ ap (λ k. get_or c.args.self.now.value k 0ℚ) c.basic-k.ensures.value in
    not_moved c.args.self.now _ _ _ (sym c.entry-entry.ensures ∙ c.if-is_zero.ensures.0 refl) c.within.ensures
    (subst (IsWithin number_limit) e c.within-2.ensures)
