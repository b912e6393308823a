-- What tableaus of one phase have in common: the values of nonbasic columns, and the bounds.
--
-- `stood`: in a tableau of given equations, costs and bounds, a nonbasic column has the value that its status and its
--   own bounds give.
-- `lower_same`: two tableaus of a phase have the same lower bounds.
-- `upper_same`: two tableaus of a phase have the same upper bounds of structural and logical columns.
-- `fixed_same`: two tableaus of a phase have the same fixed columns among the structural and logical ones.
use Rattle.std.proofs.Common.{◌≡◌, ◌≢◌, ◌⊎◌, inl, inr, ⊎_elim, ℕ, ◌<◌, Option, Some, None, Bool, refl, sym, ap, ap₂}
use Rattle.std.proofs.Common.{◌∙◌, arith}
use Rattle.spec_exact.specs.Fraction.{ℚ, 0ℚ}
use Rattle.spec_pivot.specs.declared.status.Status.{Status}
use Rattle.spec_pivot.specs.declared.status.Status.TheVariants.{Basic, AtLower, AtUpper, AtZero}
use Rattle.spec_pivot.specs.Tableau.{Matrix}
use Rattle.spec_pivot.specs.Simplex.{Bounds, Stands}
use Rattle.spec_simplex.specs.Tableau.{Tableau, form_columns, all_columns, value_at, status_at, lower_at, upper_at}
use Rattle.spec_simplex.specs.Tableau.{is_fixed, or_zero, stand}
use Rattle.spec_simplex.specs.Tables.{IsTableauOf, KeepsBounds}
use Rattle.spec_simplex.proofs.ListIndices.{by_lt}

-- where an upper bound may be none or v, it is v if it is anything
one_upper : (u : Option ℚ) (v x : ℚ) → (u ≡ None) ⊎ (u ≡ Some v) → u ≡ Some x → v ≡ x
one_upper u v x o e =
    ⊎_elim (λ (n : u ≡ None). let z : None ≡ Some x = sym n ∙ e in cc) (λ (n : u ≡ Some v). cc) o

-- a nonbasic column that stands by the bounds lb and ub of the phase has the value that its status and its own bounds l
-- and u give, where u is ub, or is 0 and ub is none or 0
stands_by : (s : Status) (l u lb ub : Option ℚ) (v : ℚ) → s ≢ Basic → l ≡ lb → (u ≡ ub) ⊎ ((u ≡ Some 0ℚ)
    × ((ub ≡ None) ⊎ (ub ≡ Some 0ℚ))) → Stands s lb ub v → v ≡ stand s l u
stands_by Basic l u lb ub v n e o h = absurd (n refl)
stands_by AtLower l u lb ub v n e o h = sym (ap or_zero (e ∙ h))
stands_by AtUpper l u lb ub v n e o h =
    ⊎_elim (λ (same : u ≡ ub). sym (ap or_zero (same ∙ h)))
    (λ (fixed : (u ≡ Some 0ℚ) × ((ub ≡ None) ⊎ (ub ≡ Some 0ℚ))).
    sym (ap or_zero fixed.0 ∙ one_upper ub 0ℚ v fixed.1 h)) o
stands_by AtZero l u lb ub v n e o h = h.2

-- a column that is not basic stands where its status says, by its own bounds
pub stood : (m n : ℕ) (f : Matrix) (cost : ℕ → ℚ) (b : Bounds) (t : Tableau) → IsTableauOf m n f cost b t → (k : ℕ) →
    k < all_columns t → status_at t k ≢ Basic → value_at t k ≡ stand (status_at t k) (lower_at t k) (upper_at t k)
stood m n f cost b t s k h d =
    let keeps : KeepsBounds b t = s.bounds in
    stands_by (status_at t k) (lower_at t k) (upper_at t k) (b.lower k) (b.upper k) (value_at t k) d (keeps.lower k h)
    (by_lt k (form_columns t) (λ l. inl (keeps.upper k l))
    (λ l. inr (keeps.fixed k l h d, keeps.top k l h)))
    (s.tableau.stands k (omega (arith, h, s.rows, s.cols)))

-- bounds of two tableaus of the same phase
pub lower_same : (b : Bounds) (t u : Tableau) → KeepsBounds b t → KeepsBounds b u → all_columns u ≡ all_columns t →
    (k : ℕ) → k < all_columns t → lower_at u k ≡ lower_at t k
lower_same b t u v w e k h = w.lower k (omega (arith, h, e)) ∙ sym (v.lower k h)

pub upper_same : (b : Bounds) (t u : Tableau) → KeepsBounds b t → KeepsBounds b u → form_columns u ≡ form_columns t →
    (k : ℕ) → k < form_columns t → upper_at u k ≡ upper_at t k
upper_same b t u v w e k h = w.upper k (omega (arith, h, e)) ∙ sym (v.upper k h)

pub fixed_same : (b : Bounds) (t u : Tableau) (fixed : ℕ → Bool) → KeepsBounds b t → KeepsBounds b u →
    form_columns u ≡ form_columns t → all_columns u ≡ all_columns t →
    ((k : ℕ) → k < form_columns t → is_fixed (lower_at t k) (upper_at t k) ≡ fixed k) →
    (k : ℕ) → k < form_columns t → is_fixed (lower_at u k) (upper_at u k) ≡ fixed k
fixed_same b t u fixed v w e e' h k l =
    ap₂ is_fixed (lower_same b t u v w e' k (omega (arith, l))) (upper_same b t u v w e k l) ∙ h k l
