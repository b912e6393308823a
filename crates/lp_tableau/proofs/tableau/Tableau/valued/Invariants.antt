-- The loop over the positions.
use Rattle.std.proofs.Common.{◌≡◌, length, Some, Ok}
use Rattle.std.specs.Prelude.{slice_set}
use Rattle.spec_exact.specs.Run.{◌>>=◌, steps}
use Rattle.spec_exact.specs.Narrow.{number_limit}
use Rattle.spec_simplex.specs.Tableau.{all_columns, basic_at}
use Rattle.spec_simplex.specs.Eliminate.{position_run}
use Rattle.lp_tableau.proofs.tableau.Tableau.valued.Given as goal

-- the positions so far have their values
abbrev pub invariant-loop-i : goal.invariant-loop-i
invariant-loop-i l = record {
  done : steps l.i (λ i values. position_run (Some number_limit) l.self i >>= λ v. Ok
      (slice_set values (basic_at l.self i) v)) l.self.value ≡ Ok l.values.items;
  len : length l.values.items ≡ all_columns l.self;
}
