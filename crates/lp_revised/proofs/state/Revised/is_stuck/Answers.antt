-- One more, one that is found, and all of them.
use Rattle.std.proofs.Common.{ap, ◌∙◌, arith, not, ◌&&◌}
use Rattle.spec_exact.specs.Fraction.{0ℚ, eq_ℚ}
use Rattle.spec_simplex.specs.Tableau.{is_artificial, value_at}
use Rattle.spec_factor.specs.Revised.{Revised}
use Rattle.lp_revised.proofs.Found.{none_more, found_at, none_found}
use Rattle.lp_revised.proofs.state.Revised.is_stuck.Goals as goal

pub loop-k-preserved : goal.loop-k-preserved
loop-k-preserved c =
    let t = c.args.self.now.bare in
    none_more (λ k. is_artificial t k && not (eq_ℚ (value_at t k) 0ℚ)) c.deref-k-items.result.now c.loop-k.k-index
    c.is_wanting.result c.loop-k-test.true c.is_wanting.ensures c.if-is_wanting.false c.loop-k.invariant

pub returns-then-is_wanting : goal.returns-then-is_wanting
returns-then-is_wanting c =
    let t = c.args.self.now.bare in
    found_at (λ k. is_artificial t k && not (eq_ℚ (value_at t k) 0ℚ)) c.deref-k-items.result.now c.loop-k.k-index
    c.is_wanting.result t.basic c.loop-k-test.true c.is_wanting.ensures c.if-is_wanting.true
    (c.deref-k-items.ensures.value ∙ ap (λ (s : Revised). s.bare.basic) c.self.view_is)

pub returns : goal.returns
returns c =
    let t = c.args.self.now.bare in
    none_found (λ k. is_artificial t k && not (eq_ℚ (value_at t k) 0ℚ)) c.deref-k-items.result.now c.loop-k.k-index
    t.basic (omega (arith, c.loop-k-test.false)) c.loop-k.invariant
    (c.deref-k-items.ensures.value ∙ ap (λ (s : Revised). s.bare.basic) c.self.view_is)
