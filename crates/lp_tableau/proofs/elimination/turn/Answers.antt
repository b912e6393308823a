-- A refusal in the first row, one in another row, and all rows.
use Rattle.std.proofs.Common.{◌+◌, take, Ok, Err, refl, subst, sym, ◌∙◌}
use Rattle.std.proofs.lemmas.Result.{err_from_is_err_and}
use Rattle.lp_tableau.specs.Grid.{IsListed}
use Rattle.lp_tableau.proofs.TwinRows.{scaled_twins}
use Rattle.lp_tableau.proofs.PivotRows.{IsTurning, first_refused, row_refused, row_passed, row_turned, rows_turned}
use Rattle.lp_tableau.proofs.elimination.turn.Goals as goal
use Rattle.lp_tableau.proofs.elimination.turn.Goals.{then-i-p+in_ok-clear_twins, else-i-p}

pub item-by-requires-clause-shape : goal.item-by-requires-clause-shape
item-by-requires-clause-shape c = c.requires.shape

pub scale-requires-clause-shape : goal.scale-requires-clause-shape
scale-requires-clause-shape c = c.requires.shape

pub scale-requires-clause-divisor : goal.scale-requires-clause-divisor
scale-requires-clause-divisor c e = c.requires.entry (sym c.item-by.ensures ∙ e)

pub returns-in_err-scale-clause-rows : goal.returns-in_err-scale-clause-rows
returns-in_err-scale-clause-rows c =
    let p = err_from_is_err_and c.from_residual.result c.from_residual.ensures.1 in
    rw (p.1, p.2) (first_refused _ _ _ _ _ _ _ (scaled_twins _ _ _ _ _ c.requires.twins c.requires.shape _ _
    _ c.args.grid.now (Err _) c.requires.place c.item-by.ensures c.in_err-scale.ensures.rows))

pub returns-in_err-clear_twins-clause-rows : goal.returns-in_err-clear_twins-clause-rows
returns-in_err-clear_twins-clause-rows c =
    let p =
    err_from_is_err_and c.from_residual-in_err-clear_twins.result c.from_residual-in_err-clear_twins.ensures.1 in
    rw (p.1, p.2) (row_refused _ _ _ _ _ _ _ _ _ _
    (scaled_twins _ _ _ _ _ c.requires.twins c.requires.shape _ _
    _ _ (Ok tt) c.requires.place c.item-by.ensures c.in_ok-scale.ensures.rows)
    c.loop-i.invariant.done c.loop-i-test.true c.if-i-p.true c.in_err-clear_twins.ensures.rows)

pub returns-clause-rows : goal.returns-clause-rows
returns-clause-rows c =
    rows_turned _ _ _ _ _ _ _ _ _
    (scaled_twins _ _ _ _ _ c.requires.twins c.requires.shape _ _
    _ _ (Ok tt) c.requires.place c.item-by.ensures c.in_ok-scale.ensures.rows)
    c.loop-i.invariant.done c.loop-i-test.false c.loop-i.auto.i-end

pub clear_twins-requires-clause-listed : goal.clear_twins-requires-clause-listed
clear_twins-requires-clause-listed c =
    subst (λ row. IsListed row (c.args.first + c.args.others) (take c.list-count.result c.list-count.new.spots))
    (sym c.loop-i.invariant.kept) c.list-count.ensures.listed

pub returns-in_err-scale-clause-shape : goal.returns-in_err-scale-clause-shape
returns-in_err-scale-clause-shape c = c.in_err-scale.ensures.shape

pub list-count-requires-clause-shape : goal.list-count-requires-clause-shape
list-count-requires-clause-shape c = c.in_ok-scale.ensures.shape

pub loop-i-init : goal.loop-i-init
loop-i-init c = record { done = refl; kept = refl; shape = c.in_ok-scale.ensures.shape }

pub slice_bounds-spots-end : goal.slice_bounds-spots-end
slice_bounds-spots-end c = c.list-count.ensures.inside

pub loop-i-preserved : goal.loop-i-preserved
loop-i-preserved c =
    elim c.if-i-p.branch [
      | then-i-p+in_ok-clear_twins w ↦
          subst
          (IsTurning c.args.first c.args.others c.args.turned.now c.args.at.position c.args.at.column (c.loop-i.i + 1) c.scale.new.grid)
          (sym w.grid-is)
          (record {
            done = row_turned _ _ _ _ _ _ _ c.loop-i.invariant.done _ w.if-i-p.true w.in_ok-clear_twins.ensures.rows;
            kept = w.in_ok-clear_twins.ensures.rest ∙ c.loop-i.invariant.kept;
            shape = w.in_ok-clear_twins.ensures.shape;
          })
      | else-i-p w ↦
          subst
          (IsTurning c.args.first c.args.others c.args.turned.now c.args.at.position c.args.at.column (c.loop-i.i + 1) c.scale.new.grid)
          (sym w.grid-is)
          (record {
            done = row_passed _ _ _ _ _ _ _ c.loop-i.invariant.done w.if-i-p.false;
            kept = c.loop-i.invariant.kept;
            shape = c.loop-i.invariant.shape;
          })
    ]

pub clear_twins-requires-clause-shape : goal.clear_twins-requires-clause-shape
clear_twins-requires-clause-shape c = c.loop-i.invariant.shape

pub clear_twins-requires-clause-other : goal.clear_twins-requires-clause-other
clear_twins-requires-clause-other c = c.if-i-p.true

pub returns-in_err-clear_twins-clause-shape : goal.returns-in_err-clear_twins-clause-shape
returns-in_err-clear_twins-clause-shape c = c.in_err-clear_twins.ensures.shape

pub returns-clause-shape : goal.returns-clause-shape
returns-clause-shape c = c.loop-i.invariant.shape
