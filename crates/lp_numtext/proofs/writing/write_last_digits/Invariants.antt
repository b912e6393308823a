use Rattle.std.proofs.Common.{◌≡◌, ◌++◌}
use Rattle.spec_mps.specs.NumberWritten as number_written
use Rattle.lp_numtext.proofs.writing.write_last_digits.Given as goal

abbrev pub invariant-loop-place : goal.invariant-loop-place
invariant-loop-place l =
    l.to ++ number_written.last_digits l.place l.n ≡ l.fn.to ++ number_written.last_digits l.fn.places l.n
