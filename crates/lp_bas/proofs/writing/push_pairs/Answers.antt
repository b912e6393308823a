use Rattle.std.proofs.Common.{arith}
use Rattle.spec_bas.specs.Written.{written_card, pair_card}
use Rattle.lp_bas.proofs.Added.{one_pair, all_pairs}
use Rattle.lp_bas.proofs.writing.push_pairs.Goals as goal

pub loop-at-preserved : goal.loop-at-preserved
loop-at-preserved c =
    one_pair (λ pair. written_card (pair_card c.args.model.now c.args.form.now c.args.basis.now pair))
    c.args.columns.now
    c.args.rows.now c.loop-at.at c.args.to.now c.loop-at.to c.push_pair_of.new.to (omega arith) (omega arith)
    c.loop-at.invariant c.in_ok-push_pair_of.ensures

pub returns : goal.returns
returns c =
    all_pairs (λ pair. written_card (pair_card c.args.model.now c.args.form.now c.args.basis.now pair))
    c.args.columns.now
    c.args.rows.now c.loop-at.at c.args.to.now c.loop-at.to (omega arith) c.loop-at.invariant
