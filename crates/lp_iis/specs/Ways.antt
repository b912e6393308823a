-- What holds on the way of a search.
use Rattle.std.specs.Prelude.{ℕ, ◌≡◌, List, [], ◌++◌, All, Option, Some}
use Rattle.spec_exact.specs.Fraction.{ℚ}
use Rattle.spec_exact.specs.Narrow.{number_limit}
use Rattle.spec_model.specs.Model.{Model}
use Rattle.spec_model.specs.Truth.{IsFeasible}
use Rattle.spec_check.specs.declared.certificate.Certificate.{Certificate}
use Rattle.spec_check.specs.declared.certificate.Known.TheVariants as known
use Rattle.spec_pivot.specs.declared.status.Status.{Status}
use Rattle.spec_check.specs.declared.solve_end.SolveEnd.TheVariants.{Ended, Past, Spent}
use Rattle.spec_runs.specs.Cold.{ExactSolveEnd}
use Rattle.spec_solve.specs.Order.{GivesUp}
use Rattle.spec_iis.specs.declared.side.Side.{Side}
use Rattle.spec_iis.specs.declared.outcome.Iis.TheVariants.{Found, Other, Stopped as IisStopped}
use Rattle.spec_iis.specs.Only.{only}
use Rattle.spec_iis.specs.Irreducible.{IsIrreducible, ArePointsWithout}
use Rattle.spec_iis.specs.Rule.{IsRead, IsClash, IsFiltered, Reaches}
use Rattle.spec_iis.specs.Found.{ExactIis, EndsCold, ShowsInfeasible}
use Rattle.lp_iis.specs.declared.look.Look.{Look}
use Rattle.lp_iis.specs.declared.look.Look.TheVariants.{Clash, Point, Stopped as LookStopped}
use Rattle.lp_iis.specs.declared.finding.First.{First}
use Rattle.lp_iis.specs.declared.finding.First.TheVariants.{Infeasible, Else}
use Rattle.lp_iis.specs.declared.finding.Left.{Left}
use Rattle.lp_iis.specs.declared.finding.Left.TheVariants.{Kept, Stopped}

-- ---- one look

-- what a solve of the model with these sides alone shows is true: no point meets a few of them, this point meets all,
-- or the solve may end so and gives up
abbrev pub IsSeen : ℕ → Model → List Side → Look → Type 0
IsSeen budget m sides (Clash few) = IsClash m sides few
IsSeen budget m sides (Point z) = IsFeasible (only m sides) z
IsSeen budget m sides (LookStopped end) = EndsCold (only m sides) budget end × GivesUp end

-- ---- the begin

-- what a search begins with, by the end of the model's solve: its certificate of infeasibility, or any other end
abbrev pub begin_by : ExactSolveEnd → First
begin_by (Ended known.Infeasible cert basis pivots) = Infeasible cert
begin_by (Ended (known.Optimal v) cert basis pivots) = Else (Ended (known.Optimal v) cert basis pivots)
begin_by (Ended known.Unbounded cert basis pivots) = Else (Ended known.Unbounded cert basis pivots)
begin_by (Past p) = Else (Past p)
begin_by Spent = Else Spent

-- a solve of the model within the budget, without a starting basis, may end with this certificate that no point is
-- feasible
pub record IsBegun (budget : ℕ) (m : Model) (cert : Certificate (List ℚ)) : Type 0 where
  pub basis : Option (List Status)
  pub pivots : ℕ
  pub ends : EndsCold m budget (Ended known.Infeasible cert basis pivots)

-- ---- the way

-- The search has kept these sides, with a point for each, and has the others still to try: the rule comes here from all
-- sides, and their limits are not refused.
pub record IsOnWay (m : Model) (all kept rest : List Side) (points : List (List ℚ)) : Type 0 where
  pub filtered : IsFiltered m kept rest points
  pub read : All (IsRead (Some number_limit) m) (kept ++ rest)
  pub onward : (s : List Side) → Reaches m kept rest s → Reaches m [] all s

-- a solve of the model with only the sides of some set, of which `IsReached` holds, may end with `end`, without an
-- answer
pub record GivesUpAt (budget : ℕ) (m : Model) (end : ExactSolveEnd) (IsReached : List Side → Type 0) : Type 0 where
  pub sides : List Side
  pub reached : IsReached sides
  pub ends : EndsCold (only m sides) budget end
  pub gives_up : GivesUp end

-- the search has tried all sides and kept these; or the solve of a set that the rule reaches gives up
abbrev pub IsLeft : ℕ → Model → List Side → Left → Type 0
IsLeft budget m all (Kept kept points) = IsOnWay m all kept [] points
IsLeft budget m all (Stopped end) = GivesUpAt budget m end (λ s. Reaches m [] all s)

-- ---- the end

-- what was found are the kept sides: an irreducible set, with a certificate of it, and a point without each side
pub record IsCertified (m : Model) (kept sides : List Side) (cert : Certificate (List ℚ)) (points : List (List ℚ))
    : Type 0 where
  pub same : sides ≡ kept
  pub irreducible : IsIrreducible m sides
  pub certificate : ShowsInfeasible (only m sides) cert
  pub without : ArePointsWithout m sides points

-- A search that keeps these sides may end in this way: with a certified IIS, or where a trial solve of them gives up.
abbrev pub MayEnd : ℕ → Model → List Side → ExactIis → Type 0
MayEnd budget m kept (Found sides cert points) = IsCertified m kept sides cert points
MayEnd budget m kept (Other end) = ⊥
MayEnd budget m kept (IisStopped end) = GivesUpAt budget m end (λ s. s ≡ kept)
