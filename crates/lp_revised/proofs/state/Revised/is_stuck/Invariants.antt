-- The loop over the basic columns.
use Rattle.std.proofs.Common.{◌≡◌, false, take, not, ◌&&◌}
use Rattle.std.specs.List.{list_any}
use Rattle.spec_exact.specs.Fraction.{0ℚ, eq_ℚ}
use Rattle.spec_simplex.specs.Tableau.{is_artificial, value_at}
use Rattle.lp_revised.proofs.state.Revised.is_stuck.Given as goal

-- none of those so far is one
abbrev pub invariant-loop-k : goal.invariant-loop-k
invariant-loop-k l =
    list_any (λ k. is_artificial l.self.bare k && not (eq_ℚ (value_at l.self.bare k) 0ℚ)) (take l.k-index l.k-items)
    ≡ false
