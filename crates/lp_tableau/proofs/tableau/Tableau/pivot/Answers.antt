-- A refusal in each part, and the whole pivot.
use Rattle.std.proofs.lemmas.Result.{err_from_is_err_and}
use Rattle.lp_tableau.proofs.Pivots.{move_stops, shift_stops, turn_stops, reprice_stops, pivot_made}
use Rattle.lp_tableau.proofs.tableau.Tableau.pivot.Goals as goal

pub returns-in_err-move_values : goal.returns-in_err-move_values
returns-in_err-move_values c =
    let p = err_from_is_err_and c.from_residual.result c.from_residual.ensures.1 in
    rw (p.1, p.2) (move_stops _ _ _ _ _ _ _ c.in_err-move_values.ensures.moved)

pub returns-in_err-shift : goal.returns-in_err-shift
returns-in_err-shift c =
    let p = err_from_is_err_and c.from_residual-in_err-shift.result c.from_residual-in_err-shift.ensures.1 in
    rw (p.1, p.2)
    (shift_stops _ _ _ _ _ _ c.move_values.new.self c.in_ok-move_values.ensures.moved _ c.in_err-shift.ensures.value)

pub returns-in_err-turn_rows : goal.returns-in_err-turn_rows
returns-in_err-turn_rows c =
    let p = err_from_is_err_and c.from_residual-in_err-turn_rows.result c.from_residual-in_err-turn_rows.ensures.1 in
    let a = c.in_ok-move_values.ensures in
    let b = c.in_ok-shift.ensures in
    rw (p.1, p.2) (turn_stops _ _ _ _ _ _ _ a.moved _ b.value a.rest b.rest _ c.in_err-turn_rows.ensures.rows)

pub returns-in_err-reprice : goal.returns-in_err-reprice
returns-in_err-reprice c =
    let p = err_from_is_err_and c.from_residual-in_err-reprice.result c.from_residual-in_err-reprice.ensures.1 in
    let a = c.in_ok-move_values.ensures in
    let b = c.in_ok-shift.ensures in
    let r = c.in_ok-turn_rows.ensures in
    rw (p.1, p.2)
    (reprice_stops _ _ _ _ _ _ _ a.moved _ b.value a.rest b.rest _ r.rows r.rest _ c.in_err-reprice.ensures.costs)

pub returns : goal.returns
returns c =
    let a = c.in_ok-move_values.ensures in
    let b = c.in_ok-shift.ensures in
    let r = c.in_ok-turn_rows.ensures in
    let d = c.in_ok-reprice.ensures in
    pivot_made _ _ _ _ _ _ _ a.moved _ b.value a.rest b.rest _ r.rows r.rest _ _ d.costs d.rest c.exchange.ensures
