use Rattle.std.proofs.lemmas.Result.{IfOk-weaker}
use Rattle.lp_rows.proofs.Converted.{if_some}
use Rattle.lp_rows.proofs.SameNumbers.{same_height, same_whole, same_shown}
use Rattle.lp_rows.proofs.tableau.widen.widened.Goals as goal

pub returns-clause-whole : goal.returns-clause-whole
returns-clause-whole g c =
    IfOk-weaker c.made.result _ _ (λ o. if_some _ _ o
    (λ s h. same_whole g.T.Words.value g.U.Words.value c.args.tab.now s h c.requires)) c.made.ensures

pub returns-clause-rows : goal.returns-clause-rows
returns-clause-rows g c =
    IfOk-weaker c.made.result _ _ (λ o. if_some _ _ o
    (λ s h. same_height g.T.Words.value g.U.Words.value c.args.tab.now s h)) c.made.ensures

pub returns-clause-cols : goal.returns-clause-cols
returns-clause-cols g c = IfOk-weaker c.made.result _ _ (λ o. if_some _ _ o (λ s h. h.cols)) c.made.ensures

pub returns-clause-shown : goal.returns-clause-shown
returns-clause-shown g c t shown =
    IfOk-weaker c.made.result _ _ (λ o. if_some _ _ o
    (λ s h. same_shown g.T.Words.value g.U.Words.value c.args.tab.now s h t shown)) c.made.ensures
