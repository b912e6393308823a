-- Tables whose functions agree at each index are equal, and a nonbasic status and the bounds fix the value.
--
-- `same_table`: tables with equal entries, basic columns, values, reduced costs and statuses are equal.
-- `stand_is`: the value that a nonbasic status and the bounds name is the value of a column with that status.
use Rattle.std.proofs.Common.{◌≡◌, ℕ, Option, refl, sym, ap, ◌∙◌}
use Rattle.std.proofs.Math.Path.{fun_ext}
use Rattle.spec_exact.specs.Fraction.{ℚ}
use Rattle.spec_pivot.specs.declared.status.Status.{Status}
use Rattle.spec_pivot.specs.declared.status.Status.TheVariants.{Basic, AtLower, AtUpper, AtZero}
use Rattle.spec_pivot.specs.Simplex.{Table, Stands}
use Rattle.spec_simplex.specs.Tableau.{or_zero, stand}

-- the table of these entries, basic columns, values, reduced costs and statuses
abbrev table : (ℕ → ℕ → ℚ) → (ℕ → ℕ) → (ℕ → ℚ) → (ℕ → ℚ) → (ℕ → Status) → Table
table e b v r s = record { entry = e; basic = b; value = v; reduced = r; status = s }

pub same_table : (t u : Table) → ((i k : ℕ) → t.entry i k ≡ u.entry i k) → ((i : ℕ) → t.basic i ≡ u.basic i) →
    ((k : ℕ) → t.value k ≡ u.value k) → ((k : ℕ) → t.reduced k ≡ u.reduced k)
    → ((k : ℕ) → t.status k ≡ u.status k) → t ≡ u
same_table t u e b v r s =
    ap (λ x. table x t.basic t.value t.reduced t.status) (fun_ext (λ i. fun_ext (e i)))
    ∙ ap (λ x. table u.entry x t.value t.reduced t.status) (fun_ext b)
    ∙ ap (λ x. table u.entry u.basic x t.reduced t.status) (fun_ext v)
    ∙ ap (λ x. table u.entry u.basic u.value x t.status) (fun_ext r)
    ∙ ap (λ x. table u.entry u.basic u.value u.reduced x) (fun_ext s)

pub stand_is : (s : Status) (l u : Option ℚ) (v : ℚ) → ¬ (s ≡ Basic) → Stands s l u v → stand s l u ≡ v
stand_is Basic l u v n h = absurd (n refl)
stand_is AtLower l u v n h = ap or_zero h
stand_is AtUpper l u v n h = ap or_zero h
stand_is AtZero l u v n h = sym h.2
