-- The entries of the columns before this one.
use Rattle.std.proofs.Common.{◌≡◌, ◌*◌, ◌≤◌, length, take, sum_by}
use Rattle.lp_text_commands.proofs.generator.lines.count_entries.Given as goal

abbrev pub invariant-loop-column : goal.invariant-loop-column
invariant-loop-column l = record {
  counted : l.count ≡ sum_by (λ c. length c.entries) (take l.column l.model.columns);
  few : l.count ≤ 256 * l.column;
}
