use Rattle.std.proofs.Common.{◌∙◌}
use Rattle.lp_numtext.proofs.ReadSteps.{ten_cut}
use Rattle.lp_numtext.proofs.reading.times_ten.Goals as goal

pub returns : goal.returns
returns c =
    c.product.ensures
    ∙ ten_cut c.try_from.result c.args.n c.args.count c.unwrap_or-count.result c.saturating_pow.result c.requires
    c.try_from.ensures c.unwrap_or-count.ensures c.saturating_pow.ensures
