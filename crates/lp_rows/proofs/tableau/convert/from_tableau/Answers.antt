use Rattle.std.proofs.lemmas.Result.{IfOk-weaker}
use Rattle.lp_rows.proofs.Converted.{if_some}
use Rattle.lp_rows.proofs.Held.{held_whole, held_shown}
use Rattle.lp_rows.proofs.tableau.convert.from_tableau.Goals as goal

pub returns-clause-whole : goal.returns-clause-whole
returns-clause-whole g c =
    IfOk-weaker c.parts.result _ _
    (λ o h. if_some _ _ o (λ r p. held_whole g.T.Words.value c.args.tab.now r c.width.ensures.shape p) h)
    c.parts.ensures

pub returns-clause-rows : goal.returns-clause-rows
returns-clause-rows g c =
    IfOk-weaker c.parts.result _ _ (λ o h. if_some _ _ o (λ r p. p.rows.len) h) c.parts.ensures

pub returns-clause-cols : goal.returns-clause-cols
returns-clause-cols g c =
    IfOk-weaker c.parts.result _ _ (λ o h. if_some _ _ o (λ r p. p.cols) h) c.parts.ensures

pub returns-clause-shown : goal.returns-clause-shown
returns-clause-shown g c reached =
    IfOk-weaker c.parts.result _ _
    (λ o h. if_some _ _ o (λ r p. held_shown g.T.Words.value c.args.tab.now r c.width.ensures.shape p reached) h)
    c.parts.ensures
