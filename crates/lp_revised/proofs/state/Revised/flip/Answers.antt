-- A refusal in each part, and the whole flip.
use Rattle.std.proofs.Common.{sym, ap, ◌∙◌}
use Rattle.std.proofs.lemmas.Result.{err_from_is_err_and}
use Rattle.spec_simplex.specs.Step.{flip_way}
use Rattle.spec_factor.specs.Revised.{Revised, bare_of}
use Rattle.lp_revised.proofs.MovedBasics.{flip_refused, flip_moves_refused, flips}
use Rattle.lp_revised.proofs.state.Revised.flip.Goals as goal

pub returns-in_err-range-clause-run : goal.returns-in_err-range-clause-run
returns-in_err-range-clause-run c =
    let p = err_from_is_err_and c.from_residual.result c.from_residual.ensures.1 in
    let step =
    rw (c.or_zero.ensures, c.upper.ensures, c.or_zero-2.ensures, c.lower.ensures) at c.in_err-range.ensures in
    rw (p.1, p.2) (flip_refused c.args.starts.now c.args.self.now c.args.solved.now c.args.col _ (sym step))

pub returns-in_err-move_values-clause-run : goal.returns-in_err-move_values-clause-run
returns-in_err-move_values-clause-run c =
    let p =
    err_from_is_err_and c.from_residual-in_err-move_values.result c.from_residual-in_err-move_values.ensures.1 in
    let step = rw (c.or_zero.ensures, c.upper.ensures, c.or_zero-2.ensures, c.lower.ensures) at c.in_ok-range.ensures in
    let way = c.flip_way-way.ensures ∙ ap flip_way c.status.ensures in
    rw (p.1, p.2) (flip_moves_refused c.args.starts.now c.args.self.now c.args.solved.now c.args.col _ (sym step) _ way
    _ c.directed.ensures _ c.in_err-move_values.ensures.moved)

pub returns-clause-run : goal.returns-clause-run
returns-clause-run c =
    let step = rw (c.or_zero.ensures, c.upper.ensures, c.or_zero-2.ensures, c.lower.ensures) at c.in_ok-range.ensures in
    let way = c.flip_way-way.ensures ∙ ap flip_way c.status.ensures in
    let v = c.self.view_is in
    flips c.args.starts.now c.args.self.now c.args.solved.now c.args.col _ (sym step) _ way _ c.directed.ensures _
    c.move_values.new.self c.put_at.new.self c.other_bound.ensures
    (sym (ap (λ (s : Revised). s.bare) v) ∙ ap (λ (s : Revised). bare_of s.bare) v) c.in_ok-move_values.ensures.moved
    c.in_ok-move_values.ensures.rest c.put_at.ensures
