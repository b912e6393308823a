-- One item more, a refused one, and the whole row.
use Rattle.std.proofs.Common.{sym}
use Rattle.std.proofs.lemmas.Result.{err_from_is_err_and}
use Rattle.lp_tableau.specs.Twins.{scaled_by}
use Rattle.lp_tableau.proofs.Done.{row_stops, row_finished, row_as_before, one_row_done}
use Rattle.lp_tableau.proofs.Done.{grid_row, grid_set, row_inside, column_inside}
use Rattle.lp_tableau.proofs.elimination.scale.Goals as goal

pub returns-in_err-entry-clause-rows : goal.returns-in_err-entry-clause-rows
unfolding scaled_by
returns-in_err-entry-clause-rows c =
    let p = err_from_is_err_and c.from_residual.result c.from_residual.ensures.1 in
    let d = c.loop-k.invariant.done in
    let step = rw (c.at.ensures, row_as_before _ _ _ _ _ d) at c.in_err-entry.ensures in
    rw (p.1, p.2) (row_stops _ _ _ _ _ _ _ d c.loop-k-test.true (sym step))

pub loop-k-preserved : goal.loop-k-preserved
loop-k-preserved c =
    let d = c.loop-k.invariant.done in
    let g = c.loop-k.invariant.shape in
    let step = rw (c.at.ensures, row_as_before _ _ _ _ _ d) at c.in_ok-entry.ensures in
    record {
      done =
          rw c.set.ensures (one_row_done _ _ _ _ _ _ d (row_inside _ _ _ _ g c.requires.place)
          (column_inside _ _ _ _ _ g c.requires.place c.loop-k-test.true) (sym step));
      shape = rw c.set.ensures (grid_set _ _ _ _ _ _ g c.requires.place);
    }

pub returns-clause-rows : goal.returns-clause-rows
unfolding scaled_by
returns-clause-rows c =
    row_finished _ _ _ _ _ _ c.loop-k.invariant.done c.loop-k-test.false c.loop-k.auto.k-end
    (grid_row _ _ _ _ c.requires.shape c.requires.place)
