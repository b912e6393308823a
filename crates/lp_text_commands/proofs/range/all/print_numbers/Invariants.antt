-- The loop over the columns or rows.
use Rattle.std.proofs.Common.{◌≡◌, ◌++◌, List}
use Rattle.spec_pivot.specs.declared.status.Status.{Status}
use Rattle.spec_simplex.specs.Form.{Form}
use Rattle.spec_commands.specs.RangesOut.{number_lines}
use Rattle.lp_range.specs.Answer.{IsFrom}
use Rattle.lp_text_commands.proofs.range.all.print_numbers.Given as goal

-- the lines of those so far follow the first
abbrev pub invariant-loop-at : goal.invariant-loop-at
invariant-loop-at l =
    (f : Form) (basis : List Status) → IsFrom l.model f basis l.ranging →
    l.to ≡ l.fn.to ++ number_lines l.moved l.model f basis l.at
