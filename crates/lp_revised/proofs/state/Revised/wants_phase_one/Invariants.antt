-- The loop over the basic columns.
use Rattle.std.proofs.Common.{◌≡◌, false, take}
use Rattle.std.specs.List.{list_any}
use Rattle.spec_simplex.specs.Tableau.{is_artificial}
use Rattle.lp_revised.proofs.state.Revised.wants_phase_one.Given as goal

-- none of those so far is one
abbrev pub invariant-loop-k : goal.invariant-loop-k
invariant-loop-k l = list_any (λ k. is_artificial l.self.bare k) (take l.k-index l.k-items) ≡ false
