-- Where the run says yes, the conditions hold.
use Rattle.std.proofs.Common.{◌≡◌, ℕ, List, Option, Ok}
use Rattle.spec_exact.specs.Fraction.{ℚ}
use Rattle.spec_model.specs.Model.{Model}
use Rattle.spec_check.specs.declared.certificate.Certificate.{Certificate}
use Rattle.spec_check.specs.declared.certificate.Certificate.TheVariants.{Optimal, Infeasible, Clash, Unbounded}
use Rattle.spec_check.specs.declared.certificate.Known.{Known}
use Rattle.spec_check.specs.Certificate.{IsFor, shown}
use Rattle.spec_check.specs.Checks.{Checks}
use Rattle.spec_check.specs.Run.{check_run}
use Rattle.spec_check.proofs.OptimalSound.{optimal_ok}
use Rattle.spec_check.proofs.InfeasibleSound.{infeasible_ok, clash_ok}
use Rattle.spec_check.proofs.UnboundedSound.{unbounded_ok}

-- where the check accepts a certificate of the model's sizes, it meets all conditions, and what the check tells is what
-- it shows
pub run_sound : (limit : Option ℕ) (m : Model) (cert : Certificate (List ℚ)) (said : Known ℚ) → IsFor m cert →
    check_run limit m cert ≡ Ok said → Checks m cert × (said ≡ shown m cert)
unfolding check_run
run_sound limit m (Optimal x y) said f e = optimal_ok limit m x y said f.0 e
run_sound limit m (Infeasible y) said f e = infeasible_ok limit m y said e
run_sound limit m (Clash j) said f e = clash_ok limit m j said f e
run_sound limit m (Unbounded x r) said f e = unbounded_ok limit m x r said f.0 e
