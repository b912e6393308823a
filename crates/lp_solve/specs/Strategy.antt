-- What the engines of a cold solve end with.
use Rattle.std.specs.Prelude.{◌≡◌, ℕ, Some}
use Rattle.spec_exact.specs.Narrow.{number_limit}
use Rattle.spec_model.specs.Model.{Model}
use Rattle.spec_simplex.specs.Form.{Form}
use Rattle.spec_check.specs.declared.solve_end.SolveEnd.TheVariants.{Ended, Past, Spent}
use Rattle.spec_runs.specs.Cold.{ExactSolveEnd, cold}
use Rattle.spec_factor.specs.Over.{over_factors}
use Rattle.spec_solve.specs.Order.{GivesUp, MayEndCold}
use Rattle.lp_solve.specs.declared.strategy.Engine.{Engine}
use Rattle.lp_solve.specs.declared.strategy.Engine.TheVariants.{Factors, Tableaus, Rows}

-- What holds where this engine gave up, with `refused`: the stated run over factors gives up too; or, for whole
-- tableaus, the stated cold solve ends with `refused`. For rows nothing is asked.
abbrev pub GaveUp : ℕ → Model → Form → ExactSolveEnd → Engine → Type 0
GaveUp budget m f refused Factors = GivesUp (over_factors (Some number_limit) budget m f)
GaveUp budget m f refused Tableaus = GivesUp refused × (refused ≡ cold (Some number_limit) budget m)
GaveUp budget m f refused Rows = Unit {0}

-- This engine's end fits: with an answer, it is one that the cold solve may end with; without one, what is asked of an
-- engine that gave up holds.
abbrev pub IsRunOf : ℕ → Model → Form → Engine → ExactSolveEnd → Type 0
IsRunOf budget m f engine (Ended known certificate basis pivots) =
    MayEndCold (Some number_limit) budget m (Ended known certificate basis pivots)
IsRunOf budget m f engine (Past p) = GaveUp budget m f (Past p) engine
IsRunOf budget m f engine Spent = GaveUp budget m f Spent engine

-- what is kept as the refusal after this engine's end: that end, if the engine is the one over tableaus; else the
-- refusal from before
abbrev pub KeepsRefusal : Engine → ExactSolveEnd → ExactSolveEnd → ExactSolveEnd → Type 0
KeepsRefusal Tableaus refused end kept = kept ≡ end
KeepsRefusal Factors refused end kept = kept ≡ refused
KeepsRefusal Rows refused end kept = kept ≡ refused
