-- The output of `gen`, and how many entries a model has.
use Rattle.std.proofs.Common.{ℕ, zero, suc, ◌≤◌, ◌<◌, List, length}
use Rattle.std.proofs.Common.{arith, ⊎_elim, slice_index_or}
use Rattle.std.proofs.lemmas.Bool.{cases_lt}
use Rattle.spec_exact.specs.Fraction.{ℚ, 0ℚ}
use Rattle.spec_model.specs.Kept.{AreEntries}

-- ---- entries

-- the entry at place i of a column is of row i or a later one
no_earlier : (n : ℕ) (entries : List (ℕ × ℚ)) → AreEntries n entries → (i : ℕ) → i < length entries →
    i ≤ (slice_index_or entries i (0, 0ℚ)).0
no_earlier n entries are zero h = omega arith
no_earlier n entries are (suc i) h =
    omega (
      arith,
      no_earlier n entries are i (omega (arith, h)),
      are.ascending i (suc i) (0, 0ℚ) (omega arith) (omega (arith, h)),
    )

-- a column of a model of n rows has at most n entries
pub few_entries : (n : ℕ) (entries : List (ℕ × ℚ)) → AreEntries n entries → length entries ≤ n
few_entries n entries are =
    ⊎_elim
    (λ more. absurd (omega (arith, no_earlier n entries are n more, are.inside n (0, 0ℚ) more)))
    (λ few. few) (cases_lt n (length entries))
