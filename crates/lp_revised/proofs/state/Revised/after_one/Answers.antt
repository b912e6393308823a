-- An artificial that is not 0, and phase two.
use Rattle.std.proofs.Common.{sym, ◌∙◌}
use Rattle.lp_revised.proofs.TwoPhases.{is_infeasible, then_second}
use Rattle.lp_revised.proofs.state.Revised.after_one.Goals as goal

pub returns-then-is_stuck-clause-run : goal.returns-then-is_stuck-clause-run
returns-then-is_stuck-clause-run c =
    is_infeasible c.args.budget c.args.form.now c.args.starts.now c.args.self.now c.args.used c.args.one.now
    _ _ (sym c.is_stuck.ensures ∙ c.if-is_stuck.true) c.rows.ensures.value c.in_ok-y.ensures.value

pub returns-clause-run : goal.returns-clause-run
returns-clause-run c =
    then_second c.args.budget c.args.form.now c.args.starts.now c.args.self.now c.args.used c.args.one.now
    c.phase_two.result (sym c.is_stuck.ensures ∙ c.if-is_stuck.false) c.phase_two.ensures.run
