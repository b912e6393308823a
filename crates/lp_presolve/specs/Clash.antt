-- The column whose bounds clash by a certificate.
use Rattle.std.specs.Prelude.{ℕ}
use Rattle.spec_check.specs.declared.certificate.Certificate.TheVariants.{Optimal, Infeasible, Clash, Unbounded}
use Rattle.spec_presolve.specs.Carry.{ExactCertificate}

-- the number of the column that clashes, and 0 where the certificate is of another kind
abbrev pub clash_of : ExactCertificate → ℕ
clash_of (Optimal x y) = 0
clash_of (Infeasible y) = 0
clash_of (Clash k) = k
clash_of (Unbounded x r) = 0
