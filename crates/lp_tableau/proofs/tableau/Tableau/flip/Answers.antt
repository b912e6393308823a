-- A refusal in each part, and the whole flip.
use Rattle.std.proofs.Common.{sym, ap, ◌∙◌}
use Rattle.std.proofs.lemmas.Result.{err_from_is_err_and}
use Rattle.spec_simplex.specs.Step.{flip_way}
use Rattle.lp_tableau.proofs.Flips.{range_stops, flip_stops, flip_made}
use Rattle.lp_tableau.proofs.tableau.Tableau.flip.Goals as goal

pub returns-in_err-range : goal.returns-in_err-range
returns-in_err-range c =
    let p = err_from_is_err_and c.from_residual.result c.from_residual.ensures.1 in
    let step =
    rw (c.or_zero.ensures, c.upper.ensures, c.or_zero-2.ensures, c.lower.ensures) at c.in_err-range.ensures in
    rw (p.1, p.2) (range_stops _ _ _ _ (sym step))

pub returns-in_err-move_values : goal.returns-in_err-move_values
returns-in_err-move_values c =
    let p =
    err_from_is_err_and c.from_residual-in_err-move_values.result c.from_residual-in_err-move_values.ensures.1 in
    let step = rw (c.or_zero.ensures, c.upper.ensures, c.or_zero-2.ensures, c.lower.ensures) at c.in_ok-range.ensures in
    let way = c.flip_way-way.ensures ∙ ap flip_way c.status.ensures in
    rw (p.1, p.2) (flip_stops _ _ _ _ (sym step) _ way _ _ c.directed.ensures c.in_err-move_values.ensures.moved)

pub returns : goal.returns
returns c =
    let step = rw (c.or_zero.ensures, c.upper.ensures, c.or_zero-2.ensures, c.lower.ensures) at c.in_ok-range.ensures in
    let way = c.flip_way-way.ensures ∙ ap flip_way c.status.ensures in
    flip_made _ _ _ _ (sym step) _ way _ _ _ _ c.directed.ensures c.other_bound.ensures
    c.in_ok-move_values.ensures.moved c.in_ok-move_values.ensures.rest c.put_at.ensures
