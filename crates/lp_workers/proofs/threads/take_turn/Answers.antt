-- The turn was taken.
use Rattle.lp_workers.proofs.threads.take_turn.Goals as goal

pub returns : goal.returns
returns g c = record { ready = c.requires; turn = c.turn.ensures.took; used = c.turn.ensures.used }
