use Rattle.std.proofs.Common.{◌∙◌, option_map}
use Rattle.lp_rows.specs.Ratio.{best_of}
use Rattle.lp_rows.specs.Shows.{height}
use Rattle.lp_rows.proofs.tableau.ratio.first_with.Goals as goal

pub returns-clause-value : goal.returns-clause-value
returns-clause-value g c t shows =
    c.in_ok-stop.ensures.value t shows
    (option_map (best_of g.T.Words.value (g.T.Words.value c.args.tab.now.denominator)) c.args.best)
    ∙ c.first.ensures.value (g.T.Words.value c.args.tab.now.denominator) c.requires.whole.positive

pub returns-clause-inside : goal.returns-clause-inside
returns-clause-inside g c =
    c.first.ensures.inside (height c.args.tab.now) c.in_ok-stop.ensures.inside c.requires.best
