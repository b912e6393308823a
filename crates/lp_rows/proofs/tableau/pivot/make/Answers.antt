use Rattle.lp_rows.proofs.Made.{flip_made, pivot_made}
use Rattle.lp_rows.proofs.tableau.pivot.make.Goals as goal

pub returns-in-Flip-clause-whole : goal.returns-in-Flip-clause-whole
returns-in-Flip-clause-whole g c i = let made = c.flip.ensures i in made.whole

pub returns-in-Flip-clause-rows : goal.returns-in-Flip-clause-rows
returns-in-Flip-clause-rows g c i = let made = c.flip.ensures i in made.rows.len

pub returns-in-Flip-clause-cols : goal.returns-in-Flip-clause-cols
returns-in-Flip-clause-cols g c i = let made = c.flip.ensures i in made.kept.cols

pub returns-in-Flip-clause-made : goal.returns-in-Flip-clause-made
returns-in-Flip-clause-made g c i t u choice reached shows h k d =
    flip_made g.T.Words.value c.args.tab.now c.flip.new.tab t u reached c.requires.whole shows c.in-Flip.col c.args.step
    choice c.in-Flip.is h k d (c.flip.ensures i)

pub returns-in-Pivot-clause-whole : goal.returns-in-Pivot-clause-whole
returns-in-Pivot-clause-whole g c i = let made = c.pivot.ensures i in made.whole

pub returns-in-Pivot-clause-rows : goal.returns-in-Pivot-clause-rows
returns-in-Pivot-clause-rows g c i = let made = c.pivot.ensures i in made.rows.len

pub returns-in-Pivot-clause-cols : goal.returns-in-Pivot-clause-cols
returns-in-Pivot-clause-cols g c i = let made = c.pivot.ensures i in made.kept.cols

pub returns-in-Pivot-clause-made : goal.returns-in-Pivot-clause-made
returns-in-Pivot-clause-made g c i t u choice reached shows h k d =
    pivot_made g.T.Words.value c.args.tab.now c.pivot.new.tab t u reached c.requires.whole shows c.in-Pivot.place
    c.in-Pivot.col c.in-Pivot.to c.args.step choice c.in-Pivot.is h k d (c.pivot.ensures i)
