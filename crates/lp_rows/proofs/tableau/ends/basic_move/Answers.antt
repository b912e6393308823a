use Rattle.std.proofs.Common.{◌∙◌, ap}
use Rattle.spec_exact.specs.Fraction.{neg_ℚ}
use Rattle.spec_simplex.specs.Step.{directed}
use Rattle.lp_rows.proofs.Read.{entry_is}
use Rattle.lp_rows.proofs.tableau.ends.basic_move.Goals as goal

pub returns : goal.returns
returns g c t s =
    c.negated.ensures ∙ ap neg_ℚ c.directed.ensures
    ∙ ap (λ v. neg_ℚ (directed c.args.e.direction v))
    (c.number-entry.ensures
    ∙ entry_is g.T.Words.value c.args.tab.now t c.args.i c.args.e.col c.index.result.now s c.requires.place
    c.requires.column
    c.index.ensures)
