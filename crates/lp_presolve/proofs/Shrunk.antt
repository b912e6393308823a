-- A reduction that was chosen, and the model after it.
--
-- `goes_as`: where the reduction r is chosen, and r is s, s may be made of the model.
-- `after_empty`: the model without the row is the model after the reduction of a row without entries.
-- `after_single`: the model with tighter bounds and without the row is the model after the reduction of a row with one
--   entry.
use Rattle.std.proofs.Common.{◌≡◌, ℕ, Option, Some, Ok, refl, subst}
use Rattle.spec_exact.specs.Fraction.{ℚ}
use Rattle.spec_exact.specs.Narrow.{number_limit}
use Rattle.spec_model.specs.Model.{Model, bounds}
use Rattle.spec_edit.specs.Changes.{without_row, with_bounds}
use Rattle.spec_presolve.specs.declared.reduction.Reduction.TheVariants.{Empty, Single}
use Rattle.spec_presolve.specs.declared.reduction.Choice.TheVariants.{Reduce}
use Rattle.spec_presolve.specs.Choose.{ExactReduction, chosen}
use Rattle.spec_presolve.specs.Reduce.{after, tightened}
use Rattle.spec_presolve.proofs.NextReduction.{Goes, what_goes}

pub goes_as : (m : Model) (r s : ExactReduction) → r ≡ s → chosen (Some number_limit) m ≡ Ok (Reduce r) →
    Goes (Some number_limit) m s
goes_as m r s e h = subst (Goes (Some number_limit) m) e (what_goes (Some number_limit) m r h)

pub after_empty : (m n : Model) (r : ExactReduction) (i : ℕ) → r ≡ Empty i → n ≡ without_row m i →
    after (Some number_limit) m r ≡ Ok n
unfolding after
after_empty m n r i e f = rw (e, f) refl

pub after_single : (m n : Model) (r : ExactReduction) (i j : ℕ) (a : ℚ) (lower upper : Option ℚ) →
    r ≡ Single i j a lower upper →
    n ≡ without_row (with_bounds m j (tightened (bounds m j) lower upper)) i → after (Some number_limit) m r ≡ Ok n
unfolding after
after_single m n r i j a lower upper e f = rw (e, f) refl
