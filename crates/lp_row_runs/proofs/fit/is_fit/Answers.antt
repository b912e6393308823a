-- One value more, and all.
use Rattle.std.proofs.Common.{sym, subst, arith}
use Rattle.spec_pivot.specs.Simplex.{IsInside}
use Rattle.spec_pivot.proofs.Pivot.{by_eq}
use Rattle.spec_simplex.specs.Tableau.{basic_at, value_at, lower_at, upper_at}
use Rattle.lp_row_runs.proofs.PrimalFeasibleStarts.{basis_fits}
use Rattle.lp_row_runs.proofs.fit.is_fit.Goals as goal

pub loop-i-preserved : goal.loop-i-preserved
loop-i-preserved g c = λ t s i h.
    by_eq i c.loop-i.i
    (λ e. subst (λ i. IsInside (lower_at t (basic_at t i)) (upper_at t (basic_at t i)) (value_at t (basic_at t i))) (sym e)
    (c.is_inside.ensures c.if-not-is_inside.false t s))
    (λ n. c.loop-i.invariant t s i (omega (arith, h, n)))

pub returns : goal.returns
returns g c = λ _ f t b s.
    basis_fits f t b
    (λ i h. c.loop-i.invariant t s i (omega (arith, h, c.loop-i-test.false, c.len-i-end.ensures, s.rows)))
