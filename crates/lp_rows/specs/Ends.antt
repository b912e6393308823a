-- The certificate and the basis of an end.
use Rattle.std.specs.Prelude.{ℕ, ◌+◌, List, Option, Some, None, ◌<◌, All}
use Rattle.spec_exact.specs.Fraction.{ℚ}
use Rattle.spec_exact.specs.Run.{made}
use Rattle.spec_check.specs.declared.certificate.Certificate.{Certificate}
use Rattle.spec_check.specs.declared.certificate.Certificate.TheVariants as certificate
use Rattle.spec_pivot.specs.declared.status.Status.{Status}
use Rattle.spec_pivot.specs.declared.status.Way.{Way}
use Rattle.spec_simplex.specs.declared.ends.PrimalEnd.{PrimalEnd}
use Rattle.spec_simplex.specs.declared.ends.PrimalEnd.TheVariants.{Optimal, Unbounded}
use Rattle.spec_simplex.specs.Tableau.{Tableau, value_at, reduced_at}
use Rattle.spec_runs.specs.Cold.{moves_by, basis_at}
use Rattle.lp_rows.specs.declared.tableau.tableau.RowTableau.{RowTableau}
use Rattle.lp_rows.specs.Shows.{width}

-- ---- the lists of spec_runs, of another kind of numbers

-- the values of the structural columns, in a kind of numbers
abbrev pub point_as : {N : Type 0} → (ℚ → N) → Tableau → List N
point_as of t = made t.cols (λ j. of (value_at t j))

-- the reduced costs of the rows' logicals, in a kind of numbers
abbrev pub multipliers_as : {N : Type 0} → (ℚ → N) → Tableau → List N
multipliers_as of t = made t.rows (λ i. of (reduced_at t (t.cols + i)))

-- how the structural columns move as column j enters and rises or falls by 1, in a kind of numbers
abbrev pub direction_as : {N : Type 0} → (ℚ → N) → Tableau → ℕ → Way → List N
direction_as of t j way = made t.cols (λ k. of (moves_by t j way k))

-- the certificate of an end of phase two, in a kind of numbers; without such an end phase one left an artificial that
-- is not 0, and it is that of infeasibility
abbrev pub certificate_as : {N : Type 0} → (ℚ → N) → Tableau → Option PrimalEnd → Certificate (List N)
certificate_as of t None = certificate.Infeasible (multipliers_as of t)
certificate_as of t (Some Optimal) = certificate.Optimal (point_as of t) (multipliers_as of t)
certificate_as of t (Some (Unbounded j way)) = certificate.Unbounded (point_as of t) (direction_as of t j way)

-- `fits` holds of all numbers of a certificate
abbrev pub AllFit : {N : Type 0} → (N → Type 0) → Certificate (List N) → Type 0
AllFit fits (certificate.Optimal x y) = All fits x × All fits y
AllFit fits (certificate.Infeasible y) = All fits y
AllFit fits (certificate.Clash j) = Unit {0}
AllFit fits (certificate.Unbounded x r) = All fits x × All fits r

-- the basis of an optimal end; none of an unbounded end, nor where phase one leaves an artificial that is not 0
abbrev pub basis_by : Tableau → Option PrimalEnd → Option (List Status)
basis_by t None = None
basis_by t (Some end) = basis_at t end

-- if the end is an unbounded one, its column is structural or logical; of other ends nothing is asked
abbrev pub IsInside : {T : Type 0} → RowTableau T → Option PrimalEnd → Type 0
IsInside r None = Unit {0}
IsInside r (Some Optimal) = Unit {0}
IsInside r (Some (Unbounded j way)) = j < width r
