use Rattle.std.proofs.Common.{◌∙◌, ap, pos, int_cmp}
use Rattle.lp_natural.specs.Whole.{whole}
use Rattle.lp_rows.proofs.Ratios.{gap_run_is}
use Rattle.lp_rows.proofs.ratio.goes.Goals as goal

pub returns : goal.returns
returns g c e p lower upper v =
    gap_run_is c.args.way (whole c.args.entry.negative
    (g.T.Words.value c.args.entry.size)) e c.sign.result lower upper v p
    (c.sign.ensures ∙ ap (λ z. int_cmp z (pos 0)) c.toward.ensures)
