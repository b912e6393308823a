-- The loop over the places.
use Rattle.std.proofs.Common.{◌≡◌, None}
use Rattle.spec_factor.specs.Factors.{open_place}
use Rattle.lp_revised.proofs.choose.open_place.Given as goal

-- none of the places so far is open
abbrev pub invariant-loop-i : goal.invariant-loop-i
invariant-loop-i l = open_place l.columns l.v l.i ≡ None
