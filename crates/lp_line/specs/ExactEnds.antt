-- How an exact solve ends, as far as its lines need it.
use Rattle.spec_model.specs.Model.{Model}
use Rattle.spec_check.specs.Certificate.{IsFor}
use Rattle.spec_solve.specs.declared.exact.ExactEnd.TheVariants.{Answered, Open}
use Rattle.spec_solve.specs.Exact.{RationalEnd}

-- if the exact solve ended with an answer, its certificate is one for the model; else nothing is asked
abbrev pub HasFit : Model → RationalEnd → Type 0
HasFit m (Answered a) = IsFor m a.certificate
HasFit m Open = Unit {0}
