-- Targets as the code marks them.
use Rattle.std.specs.Prelude.{ℕ, Option, Some, None}
use Rattle.spec_mps.specs.declared.target.Target.{Target}
use Rattle.spec_mps.specs.declared.target.Target.TheVariants.{Objective, Row}

-- the mark by which the code holds a target: the number of a row, and none for the objective
abbrev pub mark_of : Target → Option ℕ
mark_of Objective = None
mark_of (Row i) = Some i

-- what a number is for, by its mark: the objective where the mark is none, and else the row of that number
abbrev pub target_of : Option ℕ → Target
target_of None = Objective
target_of (Some i) = Row i
