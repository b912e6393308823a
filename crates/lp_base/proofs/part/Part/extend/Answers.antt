-- A run is kept as far as there is room.
use Rattle.std.proofs.Common.{arith, length-append}
use Rattle.lp_base.proofs.KeptLemmas.{run_kept, last_of_run}
use Rattle.lp_base.proofs.part.Part.extend.Goals as goal

pub returns : goal.returns
returns c = λ raw kept. record {
  bytes =
      run_kept 16385 c.args.self.now.len c.saturating_sub-room.result c.min.result
      c.args.self.now.bytes.items c.extend_from_slice.new.self.items raw c.args.run.now kept.bytes
      kept.len c.saturating_sub-room.ensures c.min.ensures c.in_ok-extend_from_slice.ensures.items;
  len = omega (arith, kept.len, length-append raw c.args.run.now);
  last = last_of_run raw c.args.run.now c.in-Some.last.now c.in-Some.ensures.value;
}
