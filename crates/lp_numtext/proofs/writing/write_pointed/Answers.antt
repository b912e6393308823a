use Rattle.lp_numtext.proofs.WriteSteps.{power_positive}
use Rattle.lp_numtext.proofs.writing.write_pointed.Goals as goal

pub nonzero_div-n : goal.nonzero_div-n
nonzero_div-n c = power_positive c.pow.result c.args.places c.pow.ensures
