use Rattle.std.proofs.Common.{arith}
use Rattle.spec_iis.specs.Only.{stays}
use Rattle.spec_iis.proofs.Picked.{rank_few}
use Rattle.lp_iis.proofs.places.places.Goals as goal

pub overflow_add-next : goal.overflow_add-next
overflow_add-next c =
    record {
      fits = omega (
        arith,
        rank_few (stays c.args.sides.now) c.loop-i.i,
        c.loop-i.invariant.next,
        c.loop-i-test.true,
        c.rows-i-end.ensures.bound,
      );
    }
