-- One more, one that is found, and all of them.
use Rattle.std.proofs.Common.{ap, ◌∙◌, arith}
use Rattle.spec_simplex.specs.Tableau.{is_artificial}
use Rattle.spec_factor.specs.Revised.{Revised}
use Rattle.lp_revised.proofs.Found.{none_more, found_at, none_found}
use Rattle.lp_revised.proofs.state.Revised.wants_phase_one.Goals as goal

pub loop-k-preserved : goal.loop-k-preserved
loop-k-preserved c =
    let t = c.args.self.now.bare in
    none_more (λ k. is_artificial t k) c.deref-k-items.result.now c.loop-k.k-index
    c.is_artificial.result c.loop-k-test.true c.is_artificial.ensures c.if-is_artificial.false c.loop-k.invariant

pub returns-then-is_artificial : goal.returns-then-is_artificial
returns-then-is_artificial c =
    let t = c.args.self.now.bare in
    found_at (λ k. is_artificial t k) c.deref-k-items.result.now c.loop-k.k-index
    c.is_artificial.result t.basic c.loop-k-test.true c.is_artificial.ensures c.if-is_artificial.true
    (c.deref-k-items.ensures.value ∙ ap (λ (s : Revised). s.bare.basic) c.self.view_is)

pub returns : goal.returns
returns c =
    let t = c.args.self.now.bare in
    none_found (λ k. is_artificial t k) c.deref-k-items.result.now c.loop-k.k-index
    t.basic (omega (arith, c.loop-k-test.false)) c.loop-k.invariant
    (c.deref-k-items.ensures.value ∙ ap (λ (s : Revised). s.bare.basic) c.self.view_is)
