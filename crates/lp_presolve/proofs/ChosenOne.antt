-- What goes next, by the first of the rules that finds something or is refused.
--
-- `none_found`: an option that is `Some` of no value is `None`.
-- `refused₁`: where the rule on clashes is refused an operation, choosing a reduction is refused it.
-- `refused₂`: where no bounds clash and the rule on rows without entries is refused an operation, choosing a reduction
--   is refused it.
-- `refused₃`: where no bounds clash, each row has an entry, and the rule on rows with one entry is refused an
--   operation, choosing a reduction is refused it.
-- `found₁`: what the rule on clashes finds is chosen.
-- `found₂`: where no bounds clash, what the rule on rows without entries finds is chosen.
-- `found₃`: where no bounds clash and each row has an entry, what the rule on rows with one entry finds is chosen.
-- `found₄`: where the rules on clashes, on empty rows and on rows of one entry find nothing, the rule on fixed columns
--   chooses, or the reductions are done.
use Rattle.std.proofs.Common.{◌≡◌, Option, Some, None, Ok, Err, refl}
use Rattle.spec_exact.specs.Fraction.{ℚ}
use Rattle.spec_exact.specs.declared.past.Past.{Past}
use Rattle.spec_exact.specs.Narrow.{number_limit}
use Rattle.spec_model.specs.Model.{Model, width, height}
use Rattle.spec_presolve.specs.Choose.{ExactChoice, first, clash_at, empty_at, single_at, fixed_at, or_done, chosen}

pub none_found : {A : Type 0} (o : Option A) → ((a : A) → o ≡ Some a → ⊥) → o ≡ None
none_found None n = refl
none_found (Some a) n = absurd (n a refl)

pub refused₁ : (m : Model) (p : Past ℚ) → first (width m) (clash_at (Some number_limit) m) ≡ Err p →
    chosen (Some number_limit) m ≡ Err p
unfolding chosen
refused₁ m p e = rw e refl

pub refused₂ : (m : Model) (p : Past ℚ) → first (width m) (clash_at (Some number_limit) m) ≡ Ok None →
    first (height m) (empty_at (Some number_limit) m) ≡ Err p → chosen (Some number_limit) m ≡ Err p
unfolding chosen
refused₂ m p e f = rw (e, f) refl

pub refused₃ : (m : Model) (p : Past ℚ) → first (width m) (clash_at (Some number_limit) m) ≡ Ok None →
    first (height m) (empty_at (Some number_limit) m) ≡ Ok None →
    first (height m) (single_at (Some number_limit) m) ≡ Err p →
    chosen (Some number_limit) m ≡ Err p
unfolding chosen
refused₃ m p e f g = rw (e, f, g) refl

pub found₁ : (m : Model) (c : ExactChoice) → first (width m) (clash_at (Some number_limit) m) ≡ Ok (Some c) →
    chosen (Some number_limit) m ≡ Ok c
unfolding chosen
found₁ m c e = rw e refl

pub found₂ : (m : Model) (c : ExactChoice) → first (width m) (clash_at (Some number_limit) m) ≡ Ok None →
    first (height m) (empty_at (Some number_limit) m) ≡ Ok (Some c) → chosen (Some number_limit) m ≡ Ok c
unfolding chosen
found₂ m c e f = rw (e, f) refl

pub found₃ : (m : Model) (c : ExactChoice) → first (width m) (clash_at (Some number_limit) m) ≡ Ok None →
    first (height m) (empty_at (Some number_limit) m) ≡ Ok None →
    first (height m) (single_at (Some number_limit) m) ≡ Ok (Some c) →
    chosen (Some number_limit) m ≡ Ok c
unfolding chosen
found₃ m c e f g = rw (e, f, g) refl

-- the last rule, which is never refused, finds it, or nothing does
pub found₄ : (m : Model) (o : Option ExactChoice) → first (width m) (clash_at (Some number_limit) m) ≡ Ok None →
    first (height m) (empty_at (Some number_limit) m) ≡ Ok None →
    first (height m) (single_at (Some number_limit) m) ≡ Ok None →
    Ok o ≡ first (width m) (fixed_at m) → chosen (Some number_limit) m ≡ Ok (or_done o)
unfolding chosen
found₄ m o e f g h = rw (e, f, g, ← h) refl
