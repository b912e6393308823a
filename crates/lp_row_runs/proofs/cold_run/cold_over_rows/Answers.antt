-- The start is reached, and has the form's size.
use Rattle.std.proofs.Common.{Some}
use Rattle.spec_exact.specs.Narrow.{number_limit}
use Rattle.lp_row_runs.proofs.Widths.{start_size, whole_ends}
use Rattle.lp_row_runs.proofs.cold_run.cold_over_rows.Goals as goal

pub run_cold-end-requires-clause-rows : goal.run_cold-end-requires-clause-rows
run_cold-end-requires-clause-rows g c = (start_size (Some number_limit) _ _ c.in-Ok.ensures.ok).0

pub run_cold-end-requires-clause-cols : goal.run_cold-end-requires-clause-cols
run_cold-end-requires-clause-cols g c = (start_size (Some number_limit) _ _ c.in-Ok.ensures.ok).1

pub returns-in-Ok-clause-whole : goal.returns-in-Ok-clause-whole
returns-in-Ok-clause-whole g c = λ m formed.
    whole_ends g.N.Listed.of (Some number_limit) c.args.budget m c.args.form.now c.in-Ok.tab c.run_cold-end.result
    formed
    c.in-Ok.ensures.ok c.run_cold-end.ensures.run
