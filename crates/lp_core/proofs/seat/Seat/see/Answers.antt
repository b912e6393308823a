use Rattle.lp_core.proofs.StageSteps.{sees_on, sees_agree, seen_agrees}
use Rattle.lp_core.proofs.seat.Seat.see.Goals as goal

pub returns-clause-fits : goal.returns-clause-fits
returns-clause-fits c =
    sees_on _ _ _ _ _ _ _ c.self.view_is c.in-Sees.shape c.in-Sees.place _ _ _ c.in-Sees.is
    c.if-at-place.false c.words_of.ensures c.seen-self-inside.ensures

pub invariant_of-self : goal.invariant_of-self
invariant_of-self c =
    seen_agrees _ _ _ _ _ _ (sees_agree _ _ c.in-Sees.shape _ c.in-Sees.is c.self.invariant) c.requires.formed
    c.words_of.ensures c.seen-self-inside.ensures
