use Rattle.spec_range.proofs.Limits.{cost_gives, side_gives}
use Rattle.spec_range.proofs.ranges_stop_only_by_refusals.Goals as goal

pub returns : goal.returns
returns c = record {
  cost = λ limit m f basis j formed k. cost_gives limit m f formed basis k j;
  side = λ limit m f basis i formed k. side_gives limit m f formed basis k i;
}
