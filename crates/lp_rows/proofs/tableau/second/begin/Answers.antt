-- The bounds that were lent, and written back.
use Rattle.std.proofs.Common.{refl}
use Rattle.lp_rows.proofs.SecondPhaseRows.{zeroed_written}
use Rattle.lp_rows.proofs.tableau.second.begin.Goals as goal

pub returns : goal.returns
returns g c = record {
  cols = refl;
  rows = refl;
  reduced = refl;
  basic = refl;
  status = refl;
  lower =
      zeroed_written g.T.Words.value c.width-first.result _ _ c.args.tab.now.lower.items c.deref_mut.result.now
      c.zero_from.new.bounds c.deref_mut.ensures.value c.deref_mut.ensures.len c.width-first.ensures
      c.zero_from.ensures;
  upper =
      zeroed_written g.T.Words.value c.width-first.result _ _ c.args.tab.now.upper.items c.deref_mut-2.result.now
      c.zero_from-2.new.bounds c.deref_mut-2.ensures.value c.deref_mut-2.ensures.len c.width-first.ensures
      c.zero_from-2.ensures;
  fixed = refl;
  denominator = refl;
}
