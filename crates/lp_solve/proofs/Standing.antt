-- Columns and rows that are at a basis by their reduced costs and sums are so by the definition.
--
-- `stands_if`: where a test whether a number stands at a limit is true, the limit is the number.
-- `true_if`: where a test that is true gives P, and P gives Q, it gives Q.
-- `column_stands_by`: a column that fits the basis by its reduced cost, as computed, fits it by the definition.
-- `row_stands_by`: a row that fits the basis by its sum, as computed, fits it by the definition.
use Rattle.std.proofs.Common.{◌≡◌, ℕ, List, Option, Some, None, Result, Ok, Err, Bool, IfOk, IsTrue, sym, ap, ◌∙◌}
use Rattle.spec_exact.specs.Fraction.{ℚ, ◌+ℚ◌, ◌*ℚ◌, neg_ℚ}
use Rattle.spec_exact.proofs.Sums.{neg-sum_below}
use Rattle.spec_model.specs.Model.{Model, height, coefficient, cost, part, activity}
use Rattle.spec_check.specs.Checks.{signed, reduced}
use Rattle.spec_check.specs.Run.{less_product, reduced_run, stands_at}
use Rattle.spec_check.proofs.StepsComplete.{from_all, less_all, activity_all}
use Rattle.spec_check.proofs.StepsSound.{stands_from}
use Rattle.spec_pivot.specs.declared.status.Status.{Status}
use Rattle.spec_pivot.specs.declared.status.Status.TheVariants.{Basic, AtLower, AtUpper, AtZero}
use Rattle.spec_solve.specs.OfBasis.{ColumnStands, RowStands}
use Rattle.lp_solve.specs.Standing.{ColumnStandsWith, RowStandsWith}

-- ---- tests that may end without memory
pub stands_if : {E P : Type 0} (r : Result Bool E) (l : Option ℚ) (v : ℚ) → IfOk r (λ b. b ≡ stands_at l v) →
    (l ≡ Some v → P) → IfOk r (λ b. IsTrue b → P)
stands_if (Ok b) l v h p = λ e. p (stands_from l v (sym h ∙ e))
stands_if (Err why) l v h p = tt

pub true_if : {E P Q : Type 0} (r : Result Bool E) → IfOk r (λ b. IsTrue b → P) → (P → Q) →
    IfOk r (λ b. IsTrue b → Q)
true_if (Ok b) h q = λ e. q (h e)
true_if (Err why) h q = tt

-- the run of a reduced cost ends with it
reduced_all : (m : Model) (y : List ℚ) (j : ℕ) → reduced_run None m y j ≡ Ok (reduced m y j)
reduced_all m y j =
    from_all (signed m.sense (cost m j)) (height m)
    (λ i d. less_product None (part y i) (coefficient m i j) d) (λ i. neg_ℚ (part y i *ℚ coefficient m i j))
    (λ i u p. less_all (part y i) (coefficient m i j) u)
    ∙ ap (λ s. Ok (signed m.sense (cost m j) +ℚ s))
    (sym (neg-sum_below (height m) (λ i. part y i *ℚ coefficient m i j)))

pub column_stands_by : (m : Model) (x y : List ℚ) (j : ℕ) (d : ℚ) (status : Status) → d ≡ reduced m y j →
    ColumnStandsWith m x j d status → ColumnStands m x y j status
column_stands_by m x y j d Basic e h = reduced_all m y j ∙ ap Ok (sym e ∙ h)
column_stands_by m x y j d AtLower e h = h
column_stands_by m x y j d AtUpper e h = h
column_stands_by m x y j d AtZero e h = h

pub row_stands_by : (m : Model) (x y : List ℚ) (i : ℕ) (s : ℚ) (status : Status) → s ≡ activity m x i →
    RowStandsWith m y i s status → RowStands m x y i status
row_stands_by m x y i s Basic e h = h
row_stands_by m x y i s AtLower e h = (s, activity_all m x i ∙ ap Ok (sym e), h)
row_stands_by m x y i s AtUpper e h = (s, activity_all m x i ∙ ap Ok (sym e), h)
row_stands_by m x y i s AtZero e h = activity_all m x i ∙ ap Ok (sym e ∙ h)
