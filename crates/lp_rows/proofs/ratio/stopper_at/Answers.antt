use Rattle.std.proofs.Common.{◌∙◌, ap, Option, None}
use Rattle.spec_exact.specs.Fraction.{over}
use Rattle.spec_simplex.specs.Step.{with_gap}
use Rattle.lp_natural.specs.Whole.{whole}
use Rattle.lp_rows.specs.Ratio.{gap_of}
use Rattle.lp_rows.specs.declared.ratio.Gap.{Gap}
use Rattle.lp_rows.proofs.Ratios.{stops}
use Rattle.lp_rows.proofs.ratio.stopper_at.Goals as goal

pub returns-in-Some-clause-step : goal.returns-in-Some-clause-step
returns-in-Some-clause-step g c d e p q best =
    ap (λ (gap : Option (Gap g.row.T.Denot)). with_gap None c.args.at.position c.args.at.col
    (over (whole c.args.at.entry.negative (g.T.Words.value c.args.at.entry.size)) e) best
    (gap_of g.T.Words.value d e gap))
    c.in-Some.is
    ∙ stops (whole c.in-Some.gap.size.negative (g.T.Words.value c.in-Some.gap.size.size)) d e
    (g.T.Words.value c.args.at.entry.size) c.args.at.entry.negative c.args.at.position c.args.at.col c.in-Some.gap.to
    best p q c.requires
