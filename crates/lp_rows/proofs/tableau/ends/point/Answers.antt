-- Each number is that of its column.
use Rattle.std.proofs.Common.{◌≡◌, arith}
use Rattle.spec_simplex.specs.Tableau.{value_at}
use Rattle.lp_rows.proofs.Read.{one_more, all_more, all_made}
use Rattle.lp_rows.proofs.tableau.ends.point.Goals as goal

pub loop-j-preserved : goal.loop-j-preserved
loop-j-preserved g c = (
  λ t s. one_more _ _ c.in-Some.v c.in_ok-push-in-Some.ensures.ok (λ j. g.N.Listed.of (value_at t j)) c.loop-j.j
      c.in_ok-v.field-0 c.in-Some.is (c.loop-j.invariant.0 t s)
      (c.in_ok-v.ensures.value (value_at t c.loop-j.j) (c.value_of.ensures t s)),
  all_more _ _ c.in-Some.v c.in_ok-push-in-Some.ensures.ok g.N.Listed.fits c.in_ok-v.field-0 c.in-Some.is
      c.loop-j.invariant.1 c.in_ok-v.ensures.fits,
)

pub returns-clause-value : goal.returns-clause-value
returns-clause-value g c t s =
    let all : c.loop-j.j ≡ t.cols = omega (arith, c.loop-j-test.false, s.cols) in
    all_made (λ j. g.N.Listed.of (value_at t j)) c.loop-j.point c.loop-j.j t.cols all (c.loop-j.invariant.0 t s)
