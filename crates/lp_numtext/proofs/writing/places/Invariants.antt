use Rattle.std.proofs.Common.{◌≡◌, ◌-◌, ◌%◌, ◌^◌, ◌==◌}
use Rattle.std.specs.Prelude.{find}
use Rattle.std.specs.List.{range_with_len}
use Rattle.spec_mps.specs.NumberWritten as number_written
use Rattle.lp_numtext.proofs.writing.places.Given as goal

abbrev pub invariant-loop-d : goal.invariant-loop-d
invariant-loop-d l = find (λ d. 10 ^ d % l.den == 0) (range_with_len l.d (19 - l.d)) ≡ number_written.places l.den
