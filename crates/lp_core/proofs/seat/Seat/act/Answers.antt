use Rattle.lp_core.proofs.WorldActs.{reads_fit}
use Rattle.lp_core.proofs.seat.Seat.act.Goals as goal

pub returns-in-Ask-clause-fits : goal.returns-in-Ask-clause-fits
returns-in-Ask-clause-fits c =
    reads_fit _ _ _ _ _ _ _ _ _ c.in-Ask.is c.as_slice.ensures.value c.ask.ensures.fits

pub returns-in-Count-clause-fits : goal.returns-in-Count-clause-fits
returns-in-Count-clause-fits c =
    reads_fit _ _ _ _ _ _ _ _ _ c.in-Count.is c.as_slice-in-Count.ensures.value c.count.ensures.fits

pub returns-in-See-clause-fits : goal.returns-in-See-clause-fits
returns-in-See-clause-fits c =
    reads_fit _ _ _ _ _ _ _ _ _ c.in-See.is c.as_slice-in-See.ensures.value c.see.ensures.fits

pub returns-in-Work-clause-fits : goal.returns-in-Work-clause-fits
returns-in-Work-clause-fits c =
    reads_fit _ _ _ _ _ _ _ _ _ c.in-Work.is c.as_slice-in-Work.ensures.value c.work.ensures.fits
