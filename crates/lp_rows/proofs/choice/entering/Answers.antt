use Rattle.std.proofs.Common.{◌≡◌, ◌<◌, length, sym, subst, arith, None}
use Rattle.spec_simplex.specs.Tableau.{form_columns, all_columns}
use Rattle.spec_simplex.specs.Step.{entering_below}
use Rattle.spec_simplex.proofs.EnteringColumns.{enters_at}
use Rattle.lp_rows.proofs.Enters.{none_more, none_behind, way_there}
use Rattle.lp_rows.proofs.choice.entering.Goals as goal

pub returns-in-Some-clause-value : goal.returns-in-Some-clause-value
returns-in-Some-clause-value g c t h =
    let l : c.loop-k.k < length c.args.fixed.now = c.loop-k-test.true in
    sym (enters_at t c.loop-k.k (all_columns t) c.in-Some.direction (c.loop-k.invariant t h) (omega (arith, l, h.columns))
    (way_there g.T.Words.value t c.args.costs.now.numbers.items _ c.loop-k.k c.args.status.now c.args.fixed.now
    c.index-cost.result.now _ _ h c.requires.positive l c.requires.numbers c.requires.statuses c.index-cost.ensures
    c.in-Some.ensures))

pub loop-k-preserved : goal.loop-k-preserved
loop-k-preserved g c t h =
    let l : c.loop-k.k < length c.args.fixed.now = c.loop-k-test.true in
    none_more t c.loop-k.k (c.loop-k.invariant t h)
    (way_there g.T.Words.value t c.args.costs.now.numbers.items _ c.loop-k.k c.args.status.now c.args.fixed.now
    c.index-cost.result.now _ _ h c.requires.positive l c.requires.numbers c.requires.statuses c.index-cost.ensures
    c.in-None.ensures)

pub returns-clause-value : goal.returns-clause-value
returns-clause-value g c t h =
    let n : c.loop-k.k ≡ form_columns t = omega (arith, c.loop-k.auto.k-end, c.loop-k-test.false, h.columns) in
    sym (none_behind t (form_columns t) t.rows
    (subst (λ k. entering_below t k ≡ None) n (c.loop-k.invariant t h)) h.stay)
