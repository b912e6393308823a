-- An item that is 0, or one more entry.
use Rattle.std.proofs.Common.{◌≡◌, ◌≢◌, ◌∙◌, sym, ap, subst, ◌+◌, Some, true}
use Rattle.spec_exact.specs.Fraction.{0ℚ}
use Rattle.lp_revised.proofs.PairItems.{skip_item, push_item}
use Rattle.lp_revised.specs.Eta.{AreItems}
use Rattle.lp_revised.proofs.eta.entries_of.Goals.{then-not-is_zero+in_ok-push, else-not-is_zero}
use Rattle.lp_revised.proofs.eta.entries_of.Goals as goal

pub loop-i-preserved : goal.loop-i-preserved
loop-i-preserved c =
    elim c.if-not-is_zero.branch [
      | then-not-is_zero+in_ok-push w ↦
          (let other : c.narrow-value.result ≢ 0ℚ =
          λ e. let t : c.is_zero.result ≡ true = c.is_zero.ensures.1 e in
          let f = w.if-not-is_zero.true in cc in
          push_item c.loop-i.i c.args.column.now c.loop-i.entries c.if-not-is_zero.entries
          c.narrow-value.result c.loop-i.invariant (c.at.ensures ∙ ap Some (sym c.narrow-value.ensures.value))
          other c.narrow-value.ensures.narrow (w.entries-is ∙ w.in_ok-push.ensures.ok))
      | else-not-is_zero w ↦
          subst (AreItems (c.loop-i.i + 1) c.args.column.now) (sym w.entries-is)
          (skip_item c.loop-i.i c.args.column.now c.loop-i.entries c.narrow-value.result c.loop-i.invariant
          (c.at.ensures ∙ ap Some (sym c.narrow-value.ensures.value)) (c.is_zero.ensures.0 w.if-not-is_zero.false))
    ]
