-- What a certificate shows.
use Rattle.std.specs.Prelude.{◌≡◌, ◌<◌, List, length, All}
use Rattle.spec_exact.specs.Fraction.{ℚ}
use Rattle.spec_exact.specs.Narrow.{IsNarrow}
use Rattle.spec_model.specs.Model.{Model, width, height, value_of}
use Rattle.spec_model.specs.Truth.{IsOptimal, IsInfeasible, IsUnbounded}
use Rattle.spec_check.specs.declared.certificate.Certificate.{Certificate}
use Rattle.spec_check.specs.declared.certificate.Certificate.TheVariants.{Optimal, Infeasible, Clash, Unbounded}
use Rattle.spec_check.specs.declared.certificate.Known.{Known}
use Rattle.spec_check.specs.declared.certificate.Known.TheVariants as known

-- the certificate has the model's sizes: as many numbers in each list as there are columns or rows, and a column that
-- it names is one of the model's
abbrev pub IsFor : {F : Type 0} → Model → Certificate (List F) → Type 0
IsFor m (Optimal x y) = (length x ≡ width m) × (length y ≡ height m)
IsFor m (Infeasible y) = length y ≡ height m
IsFor m (Clash j) = j < width m
IsFor m (Unbounded x r) = (length x ≡ width m) × (length r ≡ width m)

-- each number of the certificate's lists has a numerator and a denominator of at most 127 bits; true of a clash
abbrev pub IsNarrowCertificate : Certificate (List ℚ) → Type 0
IsNarrowCertificate (Optimal x y) = All IsNarrow x × All IsNarrow y
IsNarrowCertificate (Infeasible y) = All IsNarrow y
IsNarrowCertificate (Clash j) = Unit {0}
IsNarrowCertificate (Unbounded x r) = All IsNarrow x × All IsNarrow r

-- what a certificate shows of a model, if it is accepted: that the optimal value is that of its point, that no point is
-- feasible, or that the model is unbounded
abbrev pub shown : Model → Certificate (List ℚ) → Known ℚ
shown m (Optimal x y) = known.Optimal (value_of m x)
shown m (Infeasible y) = known.Infeasible
shown m (Clash j) = known.Infeasible
shown m (Unbounded x r) = known.Unbounded

-- what is known of a model is true of it: v is its optimal value, no point is feasible, or feasible points get better
-- without limit
abbrev pub Holds : Model → Known ℚ → Type 0
Holds m (known.Optimal v) = IsOptimal m v
Holds m known.Infeasible = IsInfeasible m
Holds m known.Unbounded = IsUnbounded m
