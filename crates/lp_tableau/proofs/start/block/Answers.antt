-- One row more, and all.
use Rattle.std.proofs.Common.{refl, ap, ◌≡◌, ◌∙◌, arith}
use Rattle.lp_tableau.specs.Begun.{start_front}
use Rattle.lp_tableau.specs.Grid.{flat}
use Rattle.lp_tableau.proofs.GrowingLists.{more_flat}
use Rattle.lp_tableau.proofs.start.block.Goals as goal

pub loop-i-preserved : goal.loop-i-preserved
loop-i-preserved c =
    more_flat _ _ _ c.loop-i.i (start_front c.args.form.now c.args.starts.now) c.loop-i.invariant refl
    c.in_ok-push_row.ensures

pub returns : goal.returns
returns c =
    let z : c.loop-i.i ≡ c.args.form.now.rows =
    omega (arith, c.loop-i.auto.i-end, c.loop-i-test.false, c.rows-i-end.ensures.value) in
    c.loop-i.invariant ∙ ap (λ n. flat n (start_front c.args.form.now c.args.starts.now)) z
