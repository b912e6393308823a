-- The loop over the places.
use Rattle.std.proofs.Common.{◌≡◌, ◌<◌, All, map, take}
use Rattle.spec_simplex.specs.Tableau.{all_columns}
use Rattle.spec_factor.specs.Revised.{standing}
use Rattle.lp_revised.proofs.state.Revised.positions.Given as goal

-- the columns of the places so far
abbrev pub invariant-loop-place : goal.invariant-loop-place
invariant-loop-place l = record {
  value : l.basic.items ≡ map (λ k. standing l.self.bare k) (take l.place l.factors.basic);
  inside : All (λ k. k < all_columns l.self.bare) l.basic.items;
}
