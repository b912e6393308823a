use Rattle.std.proofs.Common.{◌≡◌}
use Rattle.spec_commands.specs.Draws.{after}
use Rattle.spec_commands.specs.Generated as generator
use Rattle.lp_text_commands.proofs.generator.parts.rows.Given as goal

-- the rows before this one
abbrev pub invariant-loop-i : goal.invariant-loop-i
invariant-loop-i l =
    record {
      rows : l.rows.items ≡ generator.generated_rows l.initial.draws l.i;
      state : l.draws ≡ after l.i l.initial.draws;
    }
