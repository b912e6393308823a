-- The listeners so far, the last one first.
use Rattle.std.proofs.Common.{◌≡◌, ◌+◌, vec_len, vec_capacity}
use Rattle.lp_workers.proofs.Gathering.{AreSplit}
use Rattle.lp_serve.specs.Desks.{nets_of}
use Rattle.lp_serve.proofs.desks.leave.Given as goal

abbrev pub invariant-loop-desk : goal.invariant-loop-desk
invariant-loop-desk g l =
    record {
      nets : AreSplit (nets_of l.fn.desks.items) (nets_of l.desks.items) l.nets.items;
      len : vec_len l.nets + vec_len l.desks ≡ vec_len l.fn.desks;
      room : vec_capacity l.nets ≡ vec_capacity l.fn.nets;
    }

abbrev pub decreases-loop-desk : goal.decreases-loop-desk
decreases-loop-desk g l = vec_len l.desks
