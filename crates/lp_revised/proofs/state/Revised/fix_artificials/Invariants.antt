-- The loop over the artificials.
use Rattle.std.proofs.Common.{◌≡◌, ◌+◌}
use Rattle.spec_simplex.specs.Phases.{fixed_at_zero}
use Rattle.lp_revised.specs.Moved.{fixed_at}
use Rattle.lp_revised.proofs.state.Revised.fix_artificials.Given as goal

-- the artificials so far are at 0
abbrev pub invariant-loop-i : goal.invariant-loop-i
invariant-loop-i l =
    l.self ≡ fixed_at l.fn.self
    (fixed_at_zero (l.fn.self.bare.cols + l.fn.self.bare.rows) l.i l.fn.self.bare.lower)
    (fixed_at_zero (l.fn.self.bare.cols + l.fn.self.bare.rows) l.i l.fn.self.bare.upper)
