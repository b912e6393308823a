-- A flip that stops, one column more, and the end.
use Rattle.std.proofs.Common.{◌+◌, sym, subst₂, ◌∙◌, Some, arith}
use Rattle.std.proofs.lemmas.Result.{err_from_is_err_and}
use Rattle.spec_exact.specs.Narrow.{number_limit}
use Rattle.lp_simplex.proofs.ColumnFlips.{Flipping, flips_pass, flips_stop, flips_end, flips_go_on}
use Rattle.lp_simplex.proofs.dual.flips.flips.Goals as goal
use Rattle.lp_simplex.proofs.dual.flips.flips.Goals.{then-needs_flip_at+in_ok-flip_next, else-needs_flip_at}

pub returns-in_err-flip_next-clause-flips : goal.returns-in_err-flip_next-clause-flips
returns-in_err-flip_next-clause-flips c =
    let p = err_from_is_err_and c.from_residual.result c.from_residual.ensures.1 in
    rw (p.1, p.2) (flips_stop (Some number_limit) c.args.budget c.args.tab.now c.loop-k.k _ _ c.loop-k.invariant
    (omega (arith, c.loop-k-test.true, c.width-k-end.ensures.value))
    (sym c.needs_flip_at.ensures ∙ c.if-needs_flip_at.true) c.in_err-flip_next.ensures)

pub loop-k-preserved : goal.loop-k-preserved
loop-k-preserved c =
    elim c.if-needs_flip_at.branch [
      | then-needs_flip_at+in_ok-flip_next w ↦
          subst₂ (λ t u. Flipping (Some number_limit) c.args.budget c.args.tab.now
          (c.loop-k.k + 1) (record { tableau = t; used = u })) (sym w.tab-is) (sym w.used-is)
          (flips_go_on (Some number_limit) c.args.budget c.args.tab.now c.loop-k.k _ c.loop-k.invariant
          (omega (arith, c.loop-k-test.true, c.width-k-end.ensures.value))
          (sym c.needs_flip_at.ensures ∙ w.if-needs_flip_at.true) _ w.in_ok-flip_next.ensures)
      | else-needs_flip_at w ↦
          subst₂ (λ t u. Flipping (Some number_limit) c.args.budget c.args.tab.now
          (c.loop-k.k + 1) (record { tableau = t; used = u })) (sym w.tab-is) (sym w.used-is)
          (flips_pass (Some number_limit) c.args.budget c.args.tab.now c.loop-k.k _ c.loop-k.invariant
          (sym c.needs_flip_at.ensures ∙ w.if-needs_flip_at.false))
    ]

pub returns-clause-flips : goal.returns-clause-flips
returns-clause-flips c =
    flips_end (Some number_limit) c.args.budget c.args.tab.now c.loop-k.k _ c.loop-k.invariant
    (omega (arith, c.loop-k-test.false, c.loop-k.auto.k-end, c.width-k-end.ensures.value))
