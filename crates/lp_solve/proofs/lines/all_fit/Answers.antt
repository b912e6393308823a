-- One more of them.
use Rattle.std.proofs.Common.{below_more, subst, sym, ◌∙◌}
use Rattle.std.proofs.lemmas.Option.{get_or_from_slice_get, slice_get-get_or}
use Rattle.spec_solve.specs.Exact.{FitsLine}
use Rattle.lp_solve.proofs.lines.all_fit.Goals as goal

pub loop-i-preserved : goal.loop-i-preserved
loop-i-preserved c =
    let list = c.args.list.now in
    let number = c.index-list-i.result in
    below_more _ _ c.loop-i.invariant (λ d.
    subst FitsLine
    (c.index-list-i.is
    ∙ sym (get_or_from_slice_get list c.loop-i.i _ d (slice_get-get_or list c.loop-i.i number c.loop-i-test.true)))
    (c.in_ok-fits.ensures c.if-not-branch.false))
