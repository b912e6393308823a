use Rattle.lp_rows.proofs.Converted.{if_some, on_denominator}
use Rattle.lp_rows.proofs.tableau.common.on.Goals as goal

pub returns-in-Some : goal.returns-in-Some
returns-in-Some g c =
    if_some _ _ c.times.result
    (λ p h. on_denominator c.args.f _ _ _ _ (g.T.Words.value c.args.denominator) c.requires c.in-Some-Some.ensures
    c.in-Some-Some.ensures' c.in-Some.ensures h)
    c.times.ensures
