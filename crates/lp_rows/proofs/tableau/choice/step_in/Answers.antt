use Rattle.std.proofs.Common.{option_map}
use Rattle.spec_simplex.specs.Step.{choice_by}
use Rattle.lp_rows.specs.Ratio.{best_of}
use Rattle.lp_rows.specs.Shows.{height, width}
use Rattle.lp_rows.proofs.RatioAtPosition.{chosen_by}
use Rattle.lp_rows.proofs.tableau.choice.step_in.Goals as goal

pub returns-in-Ok-clause-chosen : goal.returns-in-Ok-clause-chosen
returns-in-Ok-clause-chosen g c t shows =
    let d = g.T.Words.value c.args.tab.now.denominator in (
      choice_by c.args.e (option_map (best_of g.T.Words.value d) c.in-Ok.stop),
      chosen_by t c.args.e (option_map (best_of g.T.Words.value d) c.in-Ok.stop) (c.in-Ok.ensures.value t shows),
      c.step_by.ensures.value d,
    )

pub returns-in-Ok-clause-inside : goal.returns-in-Ok-clause-inside
returns-in-Ok-clause-inside g c =
    c.step_by.ensures.inside (height c.args.tab.now) (width c.args.tab.now) c.requires.column c.in-Ok.ensures.inside
