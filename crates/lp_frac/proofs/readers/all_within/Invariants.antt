-- The loop over the list.
use Rattle.std.proofs.Common.{take}
use Rattle.std.specs.Prelude.{All}
use Rattle.spec_exact.specs.Laws.{IsWithin}
use Rattle.spec_exact.specs.Narrow.{number_limit}
use Rattle.lp_frac.proofs.readers.all_within.Given as goal

-- the fractions so far
abbrev pub invariant-loop-v : goal.invariant-loop-v
invariant-loop-v l = All (IsWithin number_limit) (take l.v-index l.vs)
