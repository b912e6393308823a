-- A tableau with one row and two columns x and s, of which s is basic with the entry 1 and costs nothing. The entry of
-- x and its cost are given, and so is the lower bound of s; that of x is 0, and there are no upper bounds. Both values
-- are 0, so that of s may be below its bound.
--
-- `only_zero`: an index below 1 is 0.
-- `is_tableau`: the tableau with this row is one of the row, the costs and the bounds.
use Rattle.std.proofs.Common.{◌≡◌, ℕ, zero, suc, ◌<◌, Option, Some, None, false, refl, sym, subst₂, arith}
use Rattle.spec_exact.specs.Fraction.{ℚ, ◌-ℚ◌, ◌*ℚ◌, 0ℚ, 1ℚ}
use Rattle.spec_exact.specs.Sums.{sum_below}
use Rattle.spec_exact.proofs.Ruleset.{ring}
use Rattle.spec_pivot.specs.Tableau.{Matrix, delta}
use Rattle.spec_pivot.specs.declared.status.Status.{Status}
use Rattle.spec_pivot.specs.declared.status.Status.TheVariants.{Basic, AtLower}
use Rattle.spec_pivot.specs.Simplex.{Bounds, Stands, Table, IsTableau}
use Rattle.spec_pivot.proofs.Pivot.{Spans_refl}

abbrev pub entries : ℚ → Matrix
entries x i zero = x
entries x i (suc k) = 1ℚ

abbrev pub costs : ℚ → ℕ → ℚ
costs c zero = c
costs c (suc k) = 0ℚ

abbrev pub lowest : ℚ → ℕ → Option ℚ
lowest l zero = Some 0ℚ
lowest l (suc k) = Some l

abbrev pub bounds : ℚ → Bounds
bounds l = record { lower = lowest l; upper = λ k. None; barred = λ k. false }

abbrev pub status : ℕ → Status
status zero = AtLower
status (suc k) = Basic

abbrev pub opening : ℚ → ℚ → Table
opening x c =
    record {
      entry = entries x;
      basic = λ i. 1;
      value = λ k. 0ℚ;
      reduced = λ k. costs c k -ℚ sum_below 1 (λ r. 0ℚ *ℚ entries x r k);
      status = status;
    }

pub only_zero : (i : ℕ) → i < 1 → i ≡ 0
only_zero i h = omega arith

pub is_tableau : (x c l : ℚ) → IsTableau 1 2 (entries x) (costs c) (bounds l) (opening x c)
is_tableau x c l = record {
  in_range = λ i h. omega arith;
  forth = Spans_refl 1 (entries x);
  back = Spans_refl 1 (entries x);
  units = λ i r h k. subst₂ (λ i r. 1ℚ ≡ delta i r) (sym (only_zero i h)) (sym (only_zero r k)) refl;
  costs = record { weights = λ r. 0ℚ; less = λ k. refl; at_basic = λ i h. simp ring };
  marked = λ i h. refl;
  placed = λ k h e. place k h e;
  stands = λ k h. stand k;
  solves = λ i h. simp ring;
}
  where
    place : (k : ℕ) → k < 2 → status k ≡ Basic → (i : ℕ) × (i < 1) × (1 ≡ k)
    place zero h e = cc
    place (suc k) h e = (0, omega arith, omega arith)

    stand : (k : ℕ) → Stands (status k) (lowest l k) None 0ℚ
    stand zero = refl
    stand (suc k) = tt
