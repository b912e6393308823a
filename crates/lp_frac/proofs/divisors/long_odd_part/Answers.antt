use Rattle.lp_frac.proofs.Odd.{odd_part}
use Rattle.lp_frac.proofs.divisors.long_odd_part.Goals as goal

pub returns : goal.returns
returns c = odd_part 128 c.args.n c.requires c.ranges.n.fits
