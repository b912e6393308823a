use Rattle.std.proofs.Common.{◌≡◌}
use Rattle.spec_commands.specs.Generated as generator
use Rattle.lp_text_commands.proofs.generator.parts.columns.Given as goal

-- the columns before this one
abbrev pub invariant-loop-j : goal.invariant-loop-j
invariant-loop-j l =
    record {
      columns : l.columns.items ≡ generator.generated_columns l.initial.draws l.rows l.j;
      state : l.draws ≡ generator.at_column l.rows l.initial.draws l.j;
    }
