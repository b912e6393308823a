-- As many factors 2, whichever is the larger.
use Rattle.lp_frac.proofs.Odd.{gap_odd, gap_common}
use Rattle.lp_frac.proofs.divisors.odd_gap.Goals as goal

pub returns-clause-odd : goal.returns-clause-odd
returns-clause-odd c = gap_odd c.args.x c.args.y _ c.ranges.x.fits c.ranges.y.fits c.requires.other c.abs_diff.ensures

pub returns-clause-common : goal.returns-clause-common
returns-clause-common c =
    gap_common c.args.x c.args.y _ c.ranges.x.fits c.ranges.y.fits c.requires.other c.abs_diff.ensures
