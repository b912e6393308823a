-- What a solve by a smaller model may end with, at the limit of the program and within a budget.
use Rattle.std.specs.Prelude.{ℕ, ◌≡◌, Option, Some, None, Result, Ok, Err, List}
use Rattle.spec_exact.specs.Fraction.{ℚ}
use Rattle.spec_exact.specs.Run.{Run}
use Rattle.spec_exact.specs.Narrow.{number_limit}
use Rattle.spec_model.specs.Model.{Model, width, height}
use Rattle.spec_check.specs.declared.certificate.CheckStop.{CheckStop}
use Rattle.spec_check.specs.declared.certificate.CheckStop.TheVariants as stop
use Rattle.spec_check.specs.declared.certificate.Known.{Known}
use Rattle.spec_check.specs.declared.solve_end.SolveEnd.TheVariants.{Ended, Past, Spent}
use Rattle.spec_check.specs.Run.{check_run}
use Rattle.spec_pivot.specs.declared.status.Status.{Status}
use Rattle.spec_runs.specs.Cold.{ExactSolveEnd}
use Rattle.spec_runs.specs.Solve.{SolveEnd}
use Rattle.spec_solve.specs.Answers.{MayAnswer, IsSolved}
use Rattle.spec_presolve.specs.declared.presolved.Why.{Why}
use Rattle.spec_presolve.specs.declared.presolved.Why.TheVariants as why
use Rattle.spec_presolve.specs.declared.presolved.Way.TheVariants.{Reduced, Plain}
use Rattle.spec_presolve.specs.declared.presolved.Presolved.{Presolved}
use Rattle.spec_presolve.specs.Reduce.{Reductions, reduced}
use Rattle.spec_presolve.specs.Carry.{ExactCertificate, halted, carried}

-- why a presolved solve gives the smaller model up and solves the model as it is, with exact numbers
abbrev pub ExactWhy : Type 0
ExactWhy = Why ℚ

-- what a presolved solve ends with, in exact numbers
abbrev pub ExactPresolved : Type 0
ExactPresolved = Presolved ℚ (List ℚ) (List Status)

-- ---- the last model

-- how the last model ends: with a certificate of it and the count of pivots and flips, or why there is none
abbrev pub LastEnd : Type 0
LastEnd = Result (ExactCertificate × ℕ) ExactWhy

-- the end of a solve of the last model: its certificate and its count of pivots and flips, or why there is none
abbrev pub last_end : ExactSolveEnd → LastEnd
last_end (Ended known certificate basis pivots) = Ok (certificate, pivots)
last_end (Past q) = Err (why.Past q)
last_end Spent = Err why.Spent

-- The last model ends so: with the certificate that no point is feasible, where the reductions found that; else as a
-- cold solve of it may end, with the whole budget.
abbrev pub IsLast : Model → ℕ → Option ExactCertificate → LastEnd → Type 0
IsLast last budget (Some certificate) end = end ≡ Ok (certificate, 0)
IsLast last budget None end =
    (solved : SolveEnd) × IsSolved last budget None solved × (end ≡ last_end solved.end)

-- ---- the model itself

-- p says that m was solved as it is, for the reason `why`, and its end is one that a cold solve of m may have, with the
-- whole budget
abbrev pub IsPlain : Model → ℕ → ExactWhy → ExactPresolved → Type 0
IsPlain m budget why p =
    (p.way ≡ Plain why) × ((solved : SolveEnd) × IsSolved m budget None solved × (p.end ≡ solved.end))

-- The end p fits what the checker says of m and the certificate `back` that was carried back. With a yes, p ends with
-- what that shows, with `back` and without a basis, and names the sizes of the last model. Past the limit, the model is
-- solved as it is. A no never comes.
abbrev pub ByCheck : Model → ℕ → Model → ExactCertificate → ℕ → Result (Known ℚ) (CheckStop ℚ) → ExactPresolved → Type 0
ByCheck m budget last back pivots (Ok known) p =
    (p.way ≡ Reduced (height last) (width last)) × (p.end ≡ Ended known back None pivots)
ByCheck m budget last back pivots (Err (stop.Past q)) p = IsPlain m budget (why.Past q) p
ByCheck m budget last back pivots (Err (stop.No n)) p = ⊥

-- the end p fits the carrying back of the last model's certificate: by the check of what was carried back; or where the
-- carrying is past the limit, the model is solved as it is
abbrev pub ByCarried : Model → ℕ → Model → ℕ → Run ExactCertificate → ExactPresolved → Type 0
ByCarried m budget last pivots (Ok back) p =
    ByCheck m budget last back pivots (check_run (Some number_limit) m back) p
ByCarried m budget last pivots (Err q) p = IsPlain m budget (why.Past q) p

-- the end p fits how the last model of the reductions ends: by its certificate, carried back; or where it has none, the
-- model m is solved as it is
abbrev pub ByLast : Model → ℕ → Reductions → LastEnd → ExactPresolved → Type 0
ByLast m budget r (Ok (certificate, pivots)) p =
    ByCarried m budget r.last pivots (carried (Some number_limit) r.steps certificate) p
ByLast m budget r (Err why) p = IsPlain m budget why p

-- the end p fits the reductions: by their last model; or where one of their operations is past the limit, the model is
-- solved as it is
abbrev pub ByReductions : Model → ℕ → Run Reductions → ExactPresolved → Type 0
ByReductions m budget (Ok r) p =
    (end : LastEnd) × IsLast r.last budget (halted r.last r.halt) end × ByLast m budget r end p
ByReductions m budget (Err q) p = IsPlain m budget (why.Past q) p

-- The model's presolved solve may end so. Its end may be answered of the model itself, and it is found by the smaller
-- model, unless that way is past the limit or spends the budget: then alone the model is solved as it is.
pub record IsPresolved (m : Model) (budget : ℕ) (p : ExactPresolved) : Type 0 where
  pub may_answer : MayAnswer m budget p.end
  pub by_reductions : ByReductions m budget (reduced (Some number_limit) m) p
