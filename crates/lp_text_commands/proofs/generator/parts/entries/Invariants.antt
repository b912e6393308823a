use Rattle.std.proofs.Common.{◌≡◌}
use Rattle.spec_commands.specs.Generated as generator
use Rattle.lp_text_commands.proofs.generator.parts.entries.Given as goal

-- the entries of the rows before this one
abbrev pub invariant-loop-row : goal.invariant-loop-row
invariant-loop-row l =
    record {
      entries : l.entries ≡ generator.entries l.initial.draws l.row;
      state : l.draws ≡ generator.at_row l.initial.draws l.row;
    }
