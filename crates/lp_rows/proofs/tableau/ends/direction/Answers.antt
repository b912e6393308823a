-- Each number is that of its column.
use Rattle.std.proofs.Common.{◌≡◌, arith}
use Rattle.spec_runs.specs.Cold.{moves_by}
use Rattle.lp_rows.proofs.Read.{one_more, all_more, all_made}
use Rattle.lp_rows.proofs.tableau.ends.direction.Goals as goal

pub loop-k-preserved : goal.loop-k-preserved
loop-k-preserved g c = (
  λ t s. one_more _ _ c.in-Some.v c.in_ok-push-in-Some.ensures.ok
      (λ k. g.N.Listed.of (moves_by t c.args.e.col c.args.e.direction k)) c.loop-k.k c.in_ok-v.field-0 c.in-Some.is
      (c.loop-k.invariant.0 t s)
      (c.in_ok-v.ensures.value (moves_by t c.args.e.col c.args.e.direction c.loop-k.k) (c.move_of.ensures t s)),
  all_more _ _ c.in-Some.v c.in_ok-push-in-Some.ensures.ok g.N.Listed.fits c.in_ok-v.field-0 c.in-Some.is
      c.loop-k.invariant.1 c.in_ok-v.ensures.fits,
)

pub returns-clause-value : goal.returns-clause-value
returns-clause-value g c t s =
    let all : c.loop-k.k ≡ t.cols = omega (arith, c.loop-k-test.false, s.cols) in
    all_made (λ k. g.N.Listed.of (moves_by t c.args.e.col c.args.e.direction k)) c.loop-k.direction c.loop-k.k t.cols all
    (c.loop-k.invariant.0 t s)
