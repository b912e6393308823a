-- What is found by a smaller model, or why nothing is, where memory may be wanting.
use Rattle.std.specs.Prelude.{ℕ, ◌≡◌, Option, Some, None, Result, Ok, Err, List}
use Rattle.spec_exact.specs.Fraction.{ℚ}
use Rattle.spec_exact.specs.declared.past.Past.{Past as Refusal}
use Rattle.spec_exact.specs.Narrow.{number_limit}
use Rattle.spec_model.specs.Model.{Model, width, height}
use Rattle.spec_check.specs.declared.certificate.CheckStop.TheVariants as check
use Rattle.spec_check.specs.declared.certificate.Known.{Known}
use Rattle.spec_check.specs.declared.solve_end.SolveEnd.TheVariants.{Ended}
use Rattle.spec_check.specs.Run.{check_run}
use Rattle.spec_presolve.specs.declared.presolved.Why.TheVariants as why
use Rattle.spec_presolve.specs.declared.presolved.Way.TheVariants.{Reduced}
use Rattle.spec_presolve.specs.declared.reduction.Halt.{Halt}
use Rattle.spec_presolve.specs.Choose.{ExactReduction}
use Rattle.spec_presolve.specs.Reduce.{reduced}
use Rattle.spec_presolve.specs.Carry.{ExactCertificate}
use Rattle.spec_presolve.specs.Presolved.{ExactWhy, ExactPresolved, IsLast, IsPlain, IsPresolved}
use Rattle.lp_frac.specs.declared.stop.Stop.{Stop}
use Rattle.lp_frac.specs.declared.stop.Stop.TheVariants.{Cause, Past, NoMemory}
use Rattle.lp_presolve.specs.declared.step.Step.{Step}
use Rattle.lp_presolve.specs.Kept.{all_kept}

-- the last model may end as the code gives it: with a certificate, past the limit or with a spent budget; of a stop for
-- lack of memory nothing is asked
abbrev pub LastTells : {C : Type 0} → Model → ℕ → Option ExactCertificate → Result (ExactCertificate × ℕ) (Stop C) → Type 0
LastTells last budget halted (Ok end) = IsLast last budget halted (Ok end)
LastTells last budget halted (Err (Cause c)) = IsLast last budget halted (Err why.Spent)
LastTells last budget halted (Err (Past q)) = IsLast last budget halted (Err (why.Past q))
LastTells last budget halted (Err NoMemory) = Unit {0}

-- The code's result fits the check of the certificate that was carried back: with a yes, p is the answer by the last
-- model; else the check is refused for the same operation.
abbrev pub Accepts : Model → Model → ExactCertificate → ℕ → Result ExactPresolved (Refusal ℚ) → Type 0
Accepts m last back pivots (Ok p) =
    (known : Known ℚ) × (check_run (Some number_limit) m back ≡ Ok known)
    × (p ≡ record { way = Reduced (height last) (width last); end = Ended known back None pivots })
Accepts m last back pivots (Err q) = check_run (Some number_limit) m back ≡ Err (check.Past q)

-- the reductions of the model m lead to the model `last` and end there for the reason `halt`, and `kept` is what the
-- code keeps of them
pub record Led (m last : Model) (kept : List Step) (halt : Halt) : Type 0 where
  pub steps : List (ExactReduction × Model)
  pub run : reduced (Some number_limit) m ≡ Ok (record { steps = steps; last = last; halt = halt })
  pub are_kept : kept ≡ all_kept steps

-- each end that says that the model was solved as it is, for this reason, is one that its presolved solve may have
abbrev pub Falls : Model → ℕ → ExactWhy → Type 0
Falls m budget why = (p : ExactPresolved) → IsPlain m budget why p → IsPresolved m budget p

-- The code's result is right: an end that a presolved solve may have; or the reason for which the model is to be solved
-- as it is. Of a stop for lack of memory nothing is asked.
abbrev pub Tries : {C : Type 0} → Model → ℕ → Result ExactPresolved (Stop C) → Type 0
Tries m budget (Ok p) = IsPresolved m budget p
Tries m budget (Err (Cause c)) = Falls m budget why.Spent
Tries m budget (Err (Past q)) = Falls m budget (why.Past q)
Tries m budget (Err NoMemory) = Unit {0}
