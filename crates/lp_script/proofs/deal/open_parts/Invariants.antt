-- The parts so far.
use Rattle.std.proofs.Common.{◌≡◌, [], vec_len, vec_capacity}
use Rattle.std.specs.Prelude.{All}
use Rattle.lp_script.specs.declared.part.Part.{Part}
use Rattle.lp_script.specs.Parts.{IsOpen}
use Rattle.lp_script.proofs.deal.open_parts.Given as goal

abbrev pub invariant-loop-index : goal.invariant-loop-index
invariant-loop-index l =
    record {
      len : vec_len l.parts ≡ l.index;
      room : vec_capacity l.parts ≡ l.workers;
      idle : All (λ (part : Part). part.asks.items ≡ []) l.parts.items;
      all : All IsOpen l.parts.items;
    }
