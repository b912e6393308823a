-- The lists so far.
use Rattle.std.proofs.Common.{◌≡◌, vec_len, vec_capacity}
use Rattle.std.specs.Prelude.{All}
use Rattle.lp_serve.specs.Desks.{IsRoom}
use Rattle.lp_serve.proofs.desks.rooms.Given as goal

abbrev pub invariant-loop-index : goal.invariant-loop-index
invariant-loop-index l =
    record {
      len : vec_len l.rooms ≡ l.index;
      room : vec_capacity l.rooms ≡ l.count;
      rooms : All (IsRoom l.each) l.rooms.items;
    }
