use Rattle.std.proofs.Common.{◌<◌, sym, ◌∙◌, subst}
use Rattle.lp_rows.proofs.OverDenominator.{ratio_is}
use Rattle.lp_rows.proofs.wide.ratio.Goals as goal

pub quotient-requires : goal.quotient-requires
quotient-requires g c = subst (λ d. 0 < d) (sym c.in_ok-bottom.ensures) c.requires

pub returns : goal.returns
returns g c =
    c.quotient.ensures ∙ ratio_is c.args.v.number.negative _ _ _ _ c.in_ok-top.ensures c.in_ok-bottom.ensures
