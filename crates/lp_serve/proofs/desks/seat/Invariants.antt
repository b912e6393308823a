-- The desks so far, the last one first.
use Rattle.std.proofs.Common.{◌≡◌, ◌+◌, vec_len, vec_capacity}
use Rattle.std.specs.Prelude.{All}
use Rattle.lp_workers.proofs.Gathering.{AreSplit}
use Rattle.lp_serve.specs.Desks.{IsOpen, IsRoom, nets_of}
use Rattle.lp_serve.proofs.desks.seat.Given as goal

abbrev pub invariant-loop-net : goal.invariant-loop-net
invariant-loop-net g l =
    record {
      nets : AreSplit l.fn.nets.items l.nets.items (nets_of l.desks.items);
      many : vec_len l.nets ≡ vec_len l.rooms;
      len : vec_len l.desks + vec_len l.nets ≡ vec_len l.fn.nets;
      room : vec_capacity l.desks ≡ vec_len l.fn.nets;
      kept : vec_capacity l.nets ≡ vec_capacity l.fn.nets;
      rooms : All (IsRoom l.each) l.rooms.items;
      opened : All (IsOpen l.each) l.desks.items;
    }

abbrev pub decreases-loop-net : goal.decreases-loop-net
decreases-loop-net g l = vec_len l.nets
