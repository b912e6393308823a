-- What a search for an irreducible infeasible subset may end with, at the limit of the program.
use Rattle.std.specs.Prelude.{ℕ, ◌≡◌, List, [], Option, Some, None, Ok}
use Rattle.spec_exact.specs.Fraction.{ℚ}
use Rattle.spec_exact.specs.Narrow.{number_limit}
use Rattle.spec_model.specs.Model.{Model}
use Rattle.spec_model.specs.Truth.{IsInfeasible}
use Rattle.spec_check.specs.declared.certificate.Certificate.{Certificate}
use Rattle.spec_check.specs.declared.certificate.Known.TheVariants as known
use Rattle.spec_check.specs.Certificate.{IsFor, IsNarrowCertificate}
use Rattle.spec_check.specs.Run.{check_run}
use Rattle.spec_check.specs.declared.solve_end.SolveEnd.TheVariants.{Ended, Past, Spent}
use Rattle.spec_pivot.specs.declared.status.Status.{Status}
use Rattle.spec_runs.specs.Cold.{ExactSolveEnd}
use Rattle.spec_runs.specs.declared.ends.Route.TheVariants as route
use Rattle.spec_solve.specs.Order.{GivesUp}
use Rattle.spec_solve.specs.Answers.{IsSolved}
use Rattle.spec_iis.specs.declared.side.Side.{Side}
use Rattle.spec_iis.specs.declared.outcome.Iis.{Iis}
use Rattle.spec_iis.specs.declared.outcome.Iis.TheVariants.{Found, Other, Stopped}
use Rattle.spec_iis.specs.Only.{only}
use Rattle.spec_iis.specs.Irreducible.{IsIrreducible, ArePointsWithout}
use Rattle.spec_iis.specs.Rule.{used, Reaches}

-- what a search for an irreducible infeasible subset ends with, in exact numbers
abbrev pub ExactIis : Type 0
ExactIis = Iis (List Side) (Certificate (List ℚ)) (List (List ℚ)) ExactSolveEnd

-- a solve of the model within this budget, without a starting basis, may end with `end`
abbrev pub EndsCold : Model → ℕ → ExactSolveEnd → Type 0
EndsCold m budget end = IsSolved m budget None (record { end = end; route = route.Cold })

-- the certificate is for the model, has numbers of at most 127 bits, and the checker accepts it as one of infeasibility
pub record ShowsInfeasible (m : Model) (cert : Certificate (List ℚ)) : Type 0 where
  pub fits : IsFor m cert
  pub narrow : IsNarrowCertificate cert
  pub accepted : check_run (Some number_limit) m cert ≡ Ok known.Infeasible

-- a solve of the model may end with a certificate that no point is feasible, and the rule comes from the sides that
-- this one uses to the set s
pub record IsReached (m : Model) (budget : ℕ) (s : List Side) : Type 0 where
  pub certificate : Certificate (List ℚ)
  pub basis : Option (List Status)
  pub pivots : ℕ
  pub ends : EndsCold m budget (Ended known.Infeasible certificate basis pivots)
  pub reached : Reaches m [] (used m certificate) s

-- An irreducible set that the rule ends with, in its order: rows before columns, each in the order of their numbers,
-- and the lower side before the upper one. The certificate is of the model with these sides alone.
pub record IsFound (m : Model) (budget : ℕ) (sides : List Side) (cert : Certificate (List ℚ))
    (points : List (List ℚ)) : Type 0 where
  pub irreducible : IsIrreducible m sides
  pub reached : IsReached m budget sides
  pub certificate : ShowsInfeasible (only m sides) cert
  pub without : ArePointsWithout m sides points

-- the solve ended with an optimum, as unbounded, or without an answer, but not as infeasible
abbrev pub IsElse : ExactSolveEnd → Type 0
IsElse (Ended known.Infeasible cert basis pivots) = ⊥
IsElse (Ended (known.Optimal v) cert basis pivots) = Unit {0}
IsElse (Ended known.Unbounded cert basis pivots) = Unit {0}
IsElse (Past p) = Unit {0}
IsElse Spent = Unit {0}

-- The rule gives up. The model is infeasible, and a solve of it with only the sides of a set that the rule reaches may
-- end with `end`, without an answer.
pub record IsStopped (m : Model) (budget : ℕ) (end : ExactSolveEnd) : Type 0 where
  pub infeasible : IsInfeasible m
  pub sides : List Side
  pub reached : IsReached m budget sides
  pub ends : EndsCold (only m sides) budget end
  pub gives_up : GivesUp end

-- A search in the model may end with this, where each solve has this budget: an irreducible infeasible set; or the end
-- of the model's own solve, if it is not that no point is feasible; or the end of a later solve that gives up, of a
-- model without a feasible point.
abbrev pub MayFind : Model → ℕ → ExactIis → Type 0
MayFind m budget (Found sides cert points) = IsFound m budget sides cert points
MayFind m budget (Other end) = EndsCold m budget end × IsElse end
MayFind m budget (Stopped end) = IsStopped m budget end
