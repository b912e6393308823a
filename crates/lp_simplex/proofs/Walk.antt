-- A run of dual steps makes a choice first.
use Rattle.std.proofs.Common.{ℕ, Option, refl}
use Rattle.spec_simplex.specs.Dual.{dual_choice_run, dual_end_or_spent, dual_end_or_next, dual_from}
use Rattle.lp_tableau.proofs.Budget.{IsRun}

-- the run of dual steps makes a choice first, and then ends or goes on by it: with no budget left only an end ends it,
-- else a pivot leads to the run with one step less
pub is_run : (limit : Option ℕ) →
    IsRun (dual_choice_run limit) dual_end_or_spent (dual_end_or_next limit) (dual_from limit)
unfolding dual_from
is_run limit = record { none_left = λ used t. refl; some_left = λ left used t. refl }
