-- The line feeds so far.
use Rattle.std.proofs.Common.{◌≡◌, ◌≤◌, ◌==◌, length, take}
use Rattle.std.specs.List.{filter}
use Rattle.lp_line.proofs.printing.count_of_lines.Given as goal

abbrev pub invariant-loop-byte : goal.invariant-loop-byte
invariant-loop-byte l = record {
  counted : l.count ≡ length (filter (λ b. b == 10) (take l.byte-index l.text));
  small : l.count ≤ l.byte-index;
}
