-- The loop over the places.
use Rattle.std.proofs.Common.{◌≡◌, map, take}
use Rattle.std.specs.Prelude.{unwrap_or}
use Rattle.lp_revised.proofs.choose.basic_of.Given as goal

-- the columns of the places so far
abbrev pub invariant-loop-column : goal.invariant-loop-column
invariant-loop-column l = l.basic.items ≡ map (λ o. unwrap_or o 0) (take l.column-index l.columns)
