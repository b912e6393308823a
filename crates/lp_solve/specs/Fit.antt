-- What holds of the certificate of an answer, and of its basis.
use Rattle.std.specs.Prelude.{Some}
use Rattle.spec_model.specs.Model.{Model}
use Rattle.spec_check.specs.Certificate.{IsFor, IsNarrowCertificate}
use Rattle.spec_check.specs.declared.certificate.Known.TheVariants as known
use Rattle.spec_simplex.specs.Form.{Form}
use Rattle.spec_simplex.specs.Eliminate.{IsBasisOf}
use Rattle.spec_check.specs.declared.solve_end.SolveEnd.TheVariants.{Ended, Past, Spent}
use Rattle.spec_runs.specs.Cold.{ExactSolveEnd}
use Rattle.spec_runs.specs.declared.ends.Warm.TheVariants as warm
use Rattle.spec_runs.specs.Warm.{WarmResult}

-- if the solve ended with an answer, its certificate is one for the model, and its numbers have at most 127 bits
abbrev pub IsFit : Model → ExactSolveEnd → Type 0
IsFit m (Ended answer certificate basis pivots) = IsFor m certificate × IsNarrowCertificate certificate
IsFit m (Past p) = Unit {0}
IsFit m Spent = Unit {0}

-- if the warm start ended with an answer, its certificate is one for the model, and its numbers have at most 127 bits
abbrev pub IsWarmFit : Model → WarmResult → Type 0
IsWarmFit m (warm.Ended answer certificate basis pivots) = IsFor m certificate × IsNarrowCertificate certificate
IsWarmFit m (warm.Stopped stop) = Unit {0}

-- if the solve ended with an optimum and a basis, the basis is one of the form; of other ends nothing is asked
abbrev pub LeavesBasis : Form → ExactSolveEnd → Type 0
LeavesBasis f (Ended (known.Optimal v) certificate (Some basis) pivots) = IsBasisOf f basis
LeavesBasis f other = Unit {0}
