-- A place in the model is one in the list of the letter.
use Rattle.std.proofs.Common.{ℕ, List, arith}
use Rattle.spec_model.specs.Model.{Model}
use Rattle.spec_check.specs.declared.certificate.Certificate.{Certificate}
use Rattle.spec_check.specs.declared.certificate.Certificate.TheVariants.{Optimal, Infeasible, Clash, Unbounded}
use Rattle.spec_check.specs.declared.certificate.Letter.{Letter}
use Rattle.spec_check.specs.declared.certificate.Letter.TheVariants.{X, Y, R}
use Rattle.spec_check.specs.Certificate.{IsFor}
use Rattle.lp_certificate.specs.Answer.{IsPlace, IsInside}

-- where a certificate fits the model, the number of a column, or for y of a row, is a place in its list for the letter
pub inside : {F : Type 0} (m : Model) (letter : Letter) (k : ℕ) (cert : Certificate (List F)) → IsFor m cert → IsPlace m letter k →
    IsInside letter k cert
inside m X k (Optimal x y) f h = omega (arith, f.0, h)
inside m Y k (Optimal x y) f h = omega (arith, f.1, h)
inside m R k (Optimal x y) f h = tt
inside m X k (Infeasible y) f h = tt
inside m Y k (Infeasible y) f h = omega (arith, f, h)
inside m R k (Infeasible y) f h = tt
inside m X k (Clash j) f h = tt
inside m Y k (Clash j) f h = tt
inside m R k (Clash j) f h = tt
inside m X k (Unbounded x r) f h = omega (arith, f.0, h)
inside m Y k (Unbounded x r) f h = tt
inside m R k (Unbounded x r) f h = omega (arith, f.1, h)
