-- The three words, and the end of the line.
use Rattle.std.proofs.lemmas.Result.{on_ok_weaker}
use Rattle.lp_bas.proofs.Added.{pair_line}
use Rattle.lp_bas.proofs.writing.push_pair.Goals as goal

pub returns : goal.returns
returns c =
    on_ok_weaker c.push.result
    (λ pushed. pair_line c.args.kind.now c.args.column.now c.args.row.now c.args.to.now _ _ _ _
    c.in_ok-push_word.ensures c.in_ok-push_word-2.ensures c.in_ok-push_word-3.ensures pushed)
    c.push.ensures.ok
