-- Each number is that of its row.
use Rattle.std.proofs.Common.{◌≡◌, ◌+◌, arith}
use Rattle.spec_simplex.specs.Tableau.{reduced_at}
use Rattle.lp_rows.proofs.Read.{one_more, all_more, all_made}
use Rattle.lp_rows.proofs.tableau.ends.multipliers.Goals as goal

pub loop-i-preserved : goal.loop-i-preserved
loop-i-preserved g c = (
  λ t s. one_more _ _ c.in-Some.v c.in_ok-push-in-Some.ensures.ok
      (λ i. g.N.Listed.of (reduced_at t (t.cols + i))) c.loop-i.i c.in_ok-v.field-0 c.in-Some.is
      (c.loop-i.invariant.0 t s)
      (c.in_ok-v.ensures.value (reduced_at t (t.cols + c.loop-i.i)) (c.multiplier.ensures t s)),
  all_more _ _ c.in-Some.v c.in_ok-push-in-Some.ensures.ok g.N.Listed.fits c.in_ok-v.field-0 c.in-Some.is
      c.loop-i.invariant.1 c.in_ok-v.ensures.fits,
)

pub returns-clause-value : goal.returns-clause-value
returns-clause-value g c t s =
    let all : c.loop-i.i ≡ t.rows = omega (arith, c.loop-i-test.false, c.len-i-end.ensures, s.rows) in
    all_made (λ i. g.N.Listed.of (reduced_at t (t.cols + i))) c.loop-i.multipliers c.loop-i.i t.rows all
    (c.loop-i.invariant.0 t s)
