-- Where the conditions hold, the run without a limit says yes.
use Rattle.std.proofs.Common.{◌≡◌, List, None, Ok}
use Rattle.spec_exact.specs.Fraction.{ℚ}
use Rattle.spec_model.specs.Model.{Model}
use Rattle.spec_check.specs.declared.certificate.Certificate.{Certificate}
use Rattle.spec_check.specs.declared.certificate.Certificate.TheVariants.{Optimal, Infeasible, Clash, Unbounded}
use Rattle.spec_check.specs.Certificate.{shown}
use Rattle.spec_check.specs.Checks.{Checks}
use Rattle.spec_check.specs.Run.{check_run}
use Rattle.spec_check.proofs.OptimalComplete.{optimal_all}
use Rattle.spec_check.proofs.InfeasibleComplete.{infeasible_all, clash_all}
use Rattle.spec_check.proofs.UnboundedComplete.{unbounded_all}

-- where a certificate meets all conditions for the model, the check without a limit on numbers accepts it and tells
-- what it shows
pub run_complete : (m : Model) (cert : Certificate (List ℚ)) → Checks m cert → check_run None m cert ≡ Ok (shown m cert)
unfolding check_run
run_complete m (Optimal x y) h = optimal_all m x y h
run_complete m (Infeasible y) h = infeasible_all m y h
run_complete m (Clash j) h = clash_all m j h
run_complete m (Unbounded x r) h = unbounded_all m x r h
