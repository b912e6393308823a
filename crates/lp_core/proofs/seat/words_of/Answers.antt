use Rattle.lp_core.proofs.Words.{no_words_past, words_there}
use Rattle.lp_core.proofs.seat.words_of.Goals as goal

pub returns-then-place-places : goal.returns-then-place-places
returns-then-place-places c = no_words_past _ _ c.if-place-places.true

pub returns-in-Claimed : goal.returns-in-Claimed
returns-in-Claimed c = words_there _ _ _ _ c.if-place-places.false c.in-Claimed.is

pub returns-in-Done : goal.returns-in-Done
returns-in-Done c = words_there _ _ _ _ c.if-place-places.false c.in-Done.is
