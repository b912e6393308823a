use Rattle.spec_text_truth.proofs.FalseTexts.{wide_range_refuted, wide_ranges_refuted, unended_refuted}
use Rattle.spec_text_truth.proofs.FalseReplies.{before_refuted}
use Rattle.spec_text_truth.proofs.FalseWide.{wide_refuted}
use Rattle.spec_text_truth.proofs.false_outputs_are_refuted.Goals as goal

pub returns : goal.returns
returns c = record {
  range = wide_range_refuted;
  ranges = wide_ranges_refuted;
  unended = unended_refuted;
  before = before_refuted;
  wide = wide_refuted;
}
