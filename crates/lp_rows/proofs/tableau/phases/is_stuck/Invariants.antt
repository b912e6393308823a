-- No column so far.
use Rattle.std.proofs.Common.{◌≡◌, false, not, ◌&&◌}
use Rattle.std.proofs.Math.ListN.{take}
use Rattle.std.specs.List.{list_any}
use Rattle.spec_exact.specs.Fraction.{0ℚ, eq_ℚ}
use Rattle.spec_simplex.specs.Tableau.{Tableau, is_artificial, value_at}
use Rattle.lp_rows.specs.Shows.{Shows}
use Rattle.lp_rows.proofs.tableau.phases.is_stuck.Given as goal

abbrev pub invariant-loop-i : goal.invariant-loop-i
invariant-loop-i g l =
    (t : Tableau) → Shows g.T.Words.value l.tab t →
    list_any (λ k. is_artificial t k && not (eq_ℚ (value_at t k) 0ℚ)) (take l.i t.basic) ≡ false
