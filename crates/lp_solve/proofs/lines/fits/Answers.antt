use Rattle.lp_solve.proofs.LineLemmas.{fits_of}
use Rattle.lp_solve.proofs.lines.fits.Goals as goal

pub returns : goal.returns
returns c = λ below.
    fits_of c.args.number.now _ _ _ c.requires c.in_ok-lowest.ensures.top c.in_ok-lowest.ensures.bottom
    (c.both_below-is_short.ensures below)
