-- A model without its free rows, and a certificate without its multipliers for them.
use Rattle.std.specs.Prelude.{ℕ, zero, suc, ◌≡◌, ◌<◌, true, List, [], ◌∷◌, if◌then◌else◌}
use Rattle.spec_exact.specs.Fraction.{ℚ, 0ℚ}
use Rattle.spec_model.specs.Model.{Model, ExactRow, height, row, part, is_free}
use Rattle.spec_edit.specs.Changes.{without_row}
use Rattle.spec_check.specs.declared.certificate.Certificate.TheVariants.{Optimal, Infeasible, Clash, Unbounded}
use Rattle.spec_presolve.specs.Carry.{ExactCertificate}

-- the model without the free ones of its first n rows
abbrev pub without_free_below : ℕ → Model → Model
without_free_below zero m = m
without_free_below (suc i) m = without_free_below i (if is_free (row m i).kind then without_row m i else m)

-- the model without its free rows
unfoldable pub without_free_rows : Model → Model
without_free_rows m = without_free_below (height m) m

-- the multipliers y of these rows, one for each in order, without those of the free rows; multipliers past the last row
-- stay
abbrev pub but_free : List ExactRow → List ℚ → List ℚ
but_free (r ∷ rows) (v ∷ y) = if is_free r.kind then but_free rows y else v ∷ but_free rows y
but_free rows y = []

-- a certificate without its multipliers for the free rows of m; one that has no multipliers, a clash or a ray, stays
unfoldable pub without_free_multipliers : Model → ExactCertificate → ExactCertificate
without_free_multipliers m (Optimal x y) = Optimal x (but_free m.rows y)
without_free_multipliers m (Infeasible y) = Infeasible (but_free m.rows y)
without_free_multipliers m (Clash j) = Clash j
without_free_multipliers m (Unbounded x r) = Unbounded x r

-- the list y of multipliers is 0 at each free row of the model
abbrev pub IsZeroAtFree : Model → List ℚ → Type 0
IsZeroAtFree m y = (i : ℕ) → i < height m → is_free (row m i).kind ≡ true → part y i ≡ 0ℚ

-- the certificate's multipliers, if it has any, are 0 at each free row of m
abbrev pub TakesNoFreeRow : Model → ExactCertificate → Type 0
TakesNoFreeRow m (Optimal x y) = IsZeroAtFree m y
TakesNoFreeRow m (Infeasible y) = IsZeroAtFree m y
TakesNoFreeRow m (Clash j) = Unit {0}
TakesNoFreeRow m (Unbounded x r) = Unit {0}
