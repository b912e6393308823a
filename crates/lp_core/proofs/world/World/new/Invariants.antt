use Rattle.std.proofs.Common.{◌≡◌, length}
use Rattle.std.specs.List.{All}
use Rattle.lp_core.specs.Core.{Kept, opening_kept}
use Rattle.lp_core.proofs.world.World.new.Given as goal

-- so many sessions hold nothing
abbrev pub invariant-loop : goal.invariant-loop
invariant-loop l = (length l.seats.items ≡ l.counter) × All (λ (kept : Kept). kept ≡ opening_kept) l.seats.items
