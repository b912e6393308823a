use Rattle.std.proofs.Common.{drop}
use Rattle.lp_iis.proofs.SearchSteps.{IsAhead}
use Rattle.lp_iis.proofs.finding.filter.Given as goal

-- the rule comes from all sides to the kept ones with their points and the sides from i on, of which some, in `clash`,
-- no point meets together
abbrev pub invariant-loop-i : goal.invariant-loop-i
invariant-loop-i l = IsAhead l.model l.sides l.kept (drop l.i l.sides) l.points l.clash
