-- One column more.
use Rattle.std.proofs.Common.{◌<◌, arith, ap, length}
use Rattle.std.proofs.lemmas.List.Sums.{sum_by_more}
use Rattle.spec_model.specs.Model.{ExactColumn, height, no_column}
use Rattle.lp_text_commands.proofs.Generating.{few_entries}
use Rattle.lp_text_commands.proofs.generator.lines.count_entries.Goals as goal

pub loop-column-preserved : goal.loop-column-preserved
loop-column-preserved c =
    let m = c.args.model.now in
    let here = c.loop-column.invariant in
    let inside : c.loop-column.column < length m.columns =
    omega (arith, c.loop-column-test.true, c.cols-column-end.ensures.value, c.loop-column.auto.column-end) in
    let more = sum_by_more (λ (c : ExactColumn). length c.entries) m.columns c.loop-column.column no_column inside in
    let same = ap length c.entries.ensures.value in
    record {
      counted = omega (arith, here.counted, more, same);
      few = omega (arith, here.few, few_entries (height m) c.entries.result.now c.entries.ensures.kept, c.requires);
    }
