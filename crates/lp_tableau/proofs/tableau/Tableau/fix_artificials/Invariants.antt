-- The loop over the artificials.
use Rattle.std.proofs.Common.{◌≡◌, ◌+◌}
use Rattle.spec_simplex.specs.Phases.{fixed_at_zero}
use Rattle.lp_tableau.proofs.tableau.Tableau.fix_artificials.Given as goal

-- the artificials so far are at 0
abbrev pub invariant-loop-i : goal.invariant-loop-i
invariant-loop-i l =
    l.self ≡ record l.fn.self {
      lower = fixed_at_zero (l.fn.self.cols + l.fn.self.rows) l.i l.fn.self.lower;
      upper = fixed_at_zero (l.fn.self.cols + l.fn.self.rows) l.i l.fn.self.upper;
    }
