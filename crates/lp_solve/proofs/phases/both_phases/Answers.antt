-- A stop in phase one, its end with an artificial that is not 0, a refusal of phase two's costs, a stop in phase two
-- and its end.
use Rattle.std.proofs.Common.{sym, ◌∙◌}
use Rattle.std.proofs.lemmas.Result.{err_from_is_err_and}
use Rattle.lp_solve.proofs.RunEnds.{run_inside}
use Rattle.lp_solve.proofs.BothPhases.{same_rows, same_cols, first_stops, is_infeasible, second_refused, second_stops}
use Rattle.lp_solve.proofs.BothPhases.{is_finished}
use Rattle.lp_solve.proofs.phases.both_phases.Goals as goal

pub returns-in_err-phase_one-clause-answer : goal.returns-in_err-phase_one-clause-answer
returns-in_err-phase_one-clause-answer c =
    let p = err_from_is_err_and c.from_residual.result c.from_residual.ensures.1 in
    rw (p.1, p.2) (first_stops _ _ _ _ c.requires.start _ c.in_err-phase_one.ensures)

pub returns-then-is_stuck-clause-answer : goal.returns-then-is_stuck-clause-answer
returns-then-is_stuck-clause-answer c =
    is_infeasible _ _ _ _ c.requires.start _ _ _ c.in_ok-phase_one.ensures (sym c.is_stuck.ensures ∙ c.if-is_stuck.true)

pub phase_two-requires-clause-same_rows : goal.phase_two-requires-clause-same_rows
phase_two-requires-clause-same_rows c = same_rows _ _ _ _ c.requires.start _ _ _ c.in_ok-phase_one.ensures

pub phase_two-requires-clause-same_cols : goal.phase_two-requires-clause-same_cols
phase_two-requires-clause-same_cols c = same_cols _ _ _ _ c.requires.start _ _ _ c.in_ok-phase_one.ensures

pub returns-in_err-phase_two-clause-answer : goal.returns-in_err-phase_two-clause-answer
returns-in_err-phase_two-clause-answer c =
    let p = err_from_is_err_and c.from_residual-in_err-phase_two.result c.from_residual-in_err-phase_two.ensures.1 in
    rw (p.1, p.2) (second_refused _ _ _ _ c.requires.start _ _ _ c.in_ok-phase_one.ensures
    (sym c.is_stuck.ensures ∙ c.if-is_stuck.false) _ c.in_err-phase_two.ensures)

pub returns-in_err-end-clause-answer : goal.returns-in_err-end-clause-answer
returns-in_err-end-clause-answer c =
    let p = err_from_is_err_and c.from_residual-in_err-end.result c.from_residual-in_err-end.ensures.1 in
    rw (p.1, p.2) (second_stops _ _ _ _ c.requires.start _ _ _ c.in_ok-phase_one.ensures
    (sym c.is_stuck.ensures ∙ c.if-is_stuck.false) _ c.in_ok-phase_two.ensures _ c.in_err-end.ensures.ended)

pub returns-clause-answer : goal.returns-clause-answer
returns-clause-answer c =
    is_finished _ _ _ _ c.requires.start _ _ _ c.in_ok-phase_one.ensures
    (sym c.is_stuck.ensures ∙ c.if-is_stuck.false) _ c.in_ok-phase_two.ensures _ c.in_ok-end.ensures.ended

pub returns-clause-inside : goal.returns-clause-inside
returns-clause-inside c = run_inside _ _ _ _ _ _ _ c.in_ok-end.ensures.ended
