-- The lines so far, with those that follow.
use Rattle.std.proofs.Common.{◌≡◌, ◌+◌, ◌++◌, drop}
use Rattle.spec_serve.specs.Lines.{end_lines}
use Rattle.lp_serve.proofs.ends.print_ends.Given as goal

abbrev pub invariant-loop-index : goal.invariant-loop-index
invariant-loop-index l =
    l.to ++ end_lines l.worker (l.index + 1) (drop l.index l.ends) ≡ l.initial.to ++ end_lines l.worker 1 l.ends
