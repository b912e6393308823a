-- A row that stays, one item more, a refused one, and the whole row.
use Rattle.std.proofs.Common.{refl, sym}
use Rattle.std.proofs.lemmas.Result.{err_from_is_err_and}
use Rattle.lp_tableau.specs.Twins.{cleared_by}
use Rattle.lp_tableau.proofs.Done.{row_stops, row_all_done, row_as_before, other_as_before, others_as_before}
use Rattle.lp_tableau.proofs.Done.{one_row_done, grid_row, grid_set, row_inside, column_inside}
use Rattle.lp_tableau.proofs.Spots.{none_cleared, set_out, at_spot, past_spots, there, next_inside, gone_on, arrived}
use Rattle.lp_tableau.proofs.elimination.clear.Goals as goal

pub returns-then-is_zero-clause-rows : goal.returns-then-is_zero-clause-rows
unfolding cleared_by
returns-then-is_zero-clause-rows c =
    let r = grid_row _ _ _ _ c.requires.shape c.requires.row in
    row_all_done _ _ _ _ _
    (none_cleared _ c.args.p c.args.times c.args.i c.args.grid.now c.narrow.ensures (c.if-is_zero.ensures.0 refl) r) r

pub loop-spot-init : goal.loop-spot-init
loop-spot-init c = record { done = set_out _ _ _ _ _ _ c.requires.listed; shape = c.requires.shape }

pub at-requires-in-loop-spot-clause-column : goal.at-requires-in-loop-spot-clause-column
at-requires-in-loop-spot-clause-column c =
    let o = at_spot _ _ _ _ _ _ _ _ c.loop-spot.invariant.done c.loop-spot-test.true in
    column_inside _ _ _ _ _ c.loop-spot.invariant.shape c.requires.row
    (next_inside _ _ _ _ _ _ c.within.ensures c.narrow.ensures _ _ o)

pub at-requires-clause-column : goal.at-requires-clause-column
at-requires-clause-column c =
    let o = at_spot _ _ _ _ _ _ _ _ c.loop-spot.invariant.done c.loop-spot-test.true in
    column_inside _ _ _ _ _ c.loop-spot.invariant.shape c.requires.place
    (next_inside _ _ _ _ _ _ c.within.ensures c.narrow.ensures _ _ o)

pub set-requires-clause-column : goal.set-requires-clause-column
set-requires-clause-column c =
    let o = at_spot _ _ _ _ _ _ _ _ c.loop-spot.invariant.done c.loop-spot-test.true in
    column_inside _ _ _ _ _ c.loop-spot.invariant.shape c.requires.row
    (next_inside _ _ _ _ _ _ c.within.ensures c.narrow.ensures _ _ o)

pub returns-in_err-entry-clause-rows : goal.returns-in_err-entry-clause-rows
unfolding cleared_by
returns-in_err-entry-clause-rows c =
    let p = err_from_is_err_and c.from_residual.result c.from_residual.ensures.1 in
    let o = at_spot _ _ _ _ _ _ _ _ c.loop-spot.invariant.done c.loop-spot-test.true in
    let d =
    there _ _ _ _ _ _ c.within.ensures c.narrow.ensures _ _ o
    (grid_row _ _ _ _ c.loop-spot.invariant.shape c.requires.row) in
    let n = c.requires.other in
    let step =
    rw (c.at.ensures, c.at-in-loop-spot.ensures, row_as_before _ _ _ _ _ d, other_as_before _ _ _ _ _ _ d n)
    at c.in_err-entry.ensures in
    rw (p.1, p.2)
    (row_stops _ _ _ _ _ _ _ d (next_inside _ _ _ _ _ _ c.within.ensures c.narrow.ensures _ _ o) (sym step))

pub returns-in_err-entry-clause-rest : goal.returns-in_err-entry-clause-rest
returns-in_err-entry-clause-rest c =
    others_as_before _ _ _ _ _ _ c.loop-spot.invariant.done.done (λ e. c.requires.other (sym e))

pub loop-spot-preserved : goal.loop-spot-preserved
loop-spot-preserved c =
    let o = at_spot _ _ _ _ _ _ _ _ c.loop-spot.invariant.done c.loop-spot-test.true in
    let g = c.loop-spot.invariant.shape in
    let d = there _ _ _ _ _ _ c.within.ensures c.narrow.ensures _ _ o (grid_row _ _ _ _ g c.requires.row) in
    let l = next_inside _ _ _ _ _ _ c.within.ensures c.narrow.ensures _ _ o in
    let n = c.requires.other in
    let step =
    rw (c.at.ensures, c.at-in-loop-spot.ensures, row_as_before _ _ _ _ _ d, other_as_before _ _ _ _ _ _ d n)
    at c.in_ok-entry.ensures in
    record {
      done =
          rw c.set.ensures (gone_on _ _ _ _ _ _ c.within.ensures c.narrow.ensures _ _ _ o (one_row_done _ _ _ _ _ _ d
          (row_inside _ _ _ _ g c.requires.row) (column_inside _ _ _ _ _ g c.requires.row l) (sym step)));
      shape = rw c.set.ensures (grid_set _ _ _ _ _ _ g c.requires.row);
    }

pub returns-clause-rows : goal.returns-clause-rows
unfolding cleared_by
returns-clause-rows c =
    let o = past_spots _ _ _ _ _ _ _ _ c.loop-spot.invariant.done c.loop-spot-test.false in
    row_all_done _ _ _ _ _ (arrived _ _ _ _ _ _ c.within.ensures c.narrow.ensures o
    (grid_row _ _ _ _ c.loop-spot.invariant.shape c.requires.row)) (grid_row _ _ _ _ c.requires.shape c.requires.row)

pub returns-clause-rest : goal.returns-clause-rest
returns-clause-rest c = others_as_before _ _ _ _ _ _ c.loop-spot.invariant.done.done (λ e. c.requires.other (sym e))
