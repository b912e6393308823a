use Rattle.std.proofs.Common.{ap, ◌∙◌}
use Rattle.spec_commands.specs.Generated.{at_column, generated_rows, generated_columns, generated}
use Rattle.spec_commands.proofs.GeneratedKept.{generated-kept}
use Rattle.lp_text_commands.proofs.generator.parts.make.Goals as goal

pub new-requires : goal.new-requires
unfolding generated
new-requires c =
    let m = c.args.rows in
    let n = c.args.columns in
    let begins = c.new-draws.ensures in
    let columns = c.in_ok-columns.ensures.columns ∙ ap (λ s. generated_columns s m n) begins in
    let state = c.in_ok-columns.ensures.state ∙ ap (λ s. at_column m s n) begins in
    let rows = c.in_ok-rows.ensures ∙ ap (λ s. generated_rows s m) state in
    rw (c.in_ok-from_slice.ensures, c.in_ok-from_slice-2.ensures, c.zero.ensures, rows, columns)
    (generated-kept c.args.seed m n c.requires.rows c.requires.columns).0

pub new-requires-2 : goal.new-requires-2
unfolding generated
new-requires-2 c =
    let m = c.args.rows in
    let n = c.args.columns in
    let begins = c.new-draws.ensures in
    let columns = c.in_ok-columns.ensures.columns ∙ ap (λ s. generated_columns s m n) begins in
    let state = c.in_ok-columns.ensures.state ∙ ap (λ s. at_column m s n) begins in
    let rows = c.in_ok-rows.ensures ∙ ap (λ s. generated_rows s m) state in
    rw (c.new.ensures, c.in_ok-from_slice.ensures, c.in_ok-from_slice-2.ensures, c.zero.ensures, rows, columns)
    (generated-kept c.args.seed m n c.requires.rows c.requires.columns).1
