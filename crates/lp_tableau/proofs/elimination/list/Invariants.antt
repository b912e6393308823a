-- The loop over the columns.
use Rattle.std.proofs.Common.{◌≡◌, ◌≤◌, [], length, take, get_or}
use Rattle.lp_tableau.specs.Grid.{IsListed}
use Rattle.lp_tableau.proofs.elimination.list.Given as goal

-- the columns so far are listed
abbrev pub invariant-loop-k : goal.invariant-loop-k
invariant-loop-k l = record {
  few : l.count ≤ l.k;
  len : length l.spots ≡ length l.fn.spots;
  listed : IsListed (get_or l.grid l.p []) l.k (take l.count l.spots);
}
