use Rattle.std.proofs.Common.{◌≡◌, option_map, refl, arith}
use Rattle.lp_rows.specs.Ratio.{best_of}
use Rattle.lp_rows.specs.Shows.{height}
use Rattle.lp_rows.proofs.RatioAtPosition.{stop_more, range_is, one_position, all_positions}
use Rattle.lp_rows.proofs.tableau.ratio.first_stop.Goals as goal

pub loop-i-init : goal.loop-i-init
loop-i-init g c = record {
  inside = stop_more g.T.Words.value (height c.args.tab.now) c.in_ok-best.best c.in_ok-best.ensures.inside;
  so_far = λ t shows.
      let d = g.T.Words.value c.args.tab.now.denominator in (
        option_map (best_of g.T.Words.value d) c.in_ok-best.best,
        range_is g.T.Words.value c.args.tab.now t c.args.e c.index.result.now c.index-2.result.now _ _ _ shows
            c.requires.whole c.requires.column c.index.ensures c.index-2.ensures
            (c.in_ok-best.ensures.value d c.requires.whole.positive),
        refl,
      );
}

pub loop-i-preserved : goal.loop-i-preserved
loop-i-preserved g c = record {
  inside = c.in_ok-best-2.ensures.inside;
  so_far = λ t shows.
      let x = c.loop-i.invariant.so_far t shows in
      (x.0, x.1, one_position t c.args.e c.loop-i.i x.0 _ _ x.2 (c.in_ok-best-2.ensures.value t shows));
}

pub returns-clause-value : goal.returns-clause-value
returns-clause-value g c t shows =
    let x = c.loop-i.invariant.so_far t shows in
    let n : c.loop-i.i ≡ t.rows =
    omega (arith, c.loop-i.auto.i-end, c.loop-i-test.false, c.len-i-end.ensures, shows.rows) in
    all_positions t c.args.e c.loop-i.i x.0 _ n x.1 x.2
