-- The loop over the columns.
use Rattle.std.proofs.Common.{◌≡◌, ◌++◌}
use Rattle.spec_model.specs.Model.{column}
use Rattle.spec_check.specs.declared.certificate.Letter.TheVariants.{X}
use Rattle.spec_certificate.specs.TextWritten.{lines_below}
use Rattle.spec_server.specs.Output.{ended_lines}
use Rattle.lp_text_commands.proofs.iis.points.print_parts.Given as goal

-- the lines of the columns so far follow the first
abbrev pub invariant-loop-j : goal.invariant-loop-j
invariant-loop-j l = l.to ≡ l.fn.to ++ ended_lines (lines_below X (λ j. (column l.model j).name) l.point l.j)
