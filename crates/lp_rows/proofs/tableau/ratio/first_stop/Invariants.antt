-- The first of the positions so far.
use Rattle.std.proofs.Common.{◌≡◌, Option, None, Ok, option_map}
use Rattle.spec_exact.specs.Fraction.{ℚ}
use Rattle.spec_exact.specs.Run.{steps}
use Rattle.spec_simplex.specs.declared.ends.Best.{Best}
use Rattle.spec_simplex.specs.Tableau.{Tableau, lower_at, upper_at}
use Rattle.spec_simplex.specs.Step.{range_run, best_with}
use Rattle.lp_rows.specs.Ratio.{best_of}
use Rattle.lp_rows.specs.Shows.{Shows, height}
use Rattle.lp_rows.specs.Stops.{IsStop}
use Rattle.lp_rows.proofs.tableau.ratio.first_stop.Given as goal

abbrev pub invariant-loop-i : goal.invariant-loop-i
invariant-loop-i g l = record {
  inside : IsStop g.T.Words.value (height l.tab) l.best;
  so_far : (t : Tableau) → Shows g.T.Words.value l.tab t → (x : Option (Best ℚ)) ×
      (range_run None l.e (lower_at t l.e.col) (upper_at t l.e.col) ≡ Ok x) ×
      (steps l.i (best_with None t l.e) x ≡
      Ok (option_map (best_of g.T.Words.value (g.T.Words.value l.tab.denominator)) l.best));
}
