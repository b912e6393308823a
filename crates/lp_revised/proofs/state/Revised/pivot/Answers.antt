-- An exchange that stops, and what follows it.
use Rattle.std.proofs.lemmas.Result.{err_from_is_err_and}
use Rattle.lp_revised.proofs.Pivoted.{no_exchange, pivots}
use Rattle.lp_revised.proofs.state.Revised.pivot.Goals as goal

pub returns-in_err-exchange_values-clause-run : goal.returns-in_err-exchange_values-clause-run
returns-in_err-exchange_values-clause-run c =
    let p = err_from_is_err_and c.from_residual.result c.from_residual.ensures.1 in
    rw (p.1, p.2)
    (no_exchange c.args.form.now c.args.starts.now c.args.self.now c.args.column.now.solved c.args.place
    c.args.column.now.number c.args.theta c.args.to c.requires.column.solves _ c.in_err-exchange_values.ensures.run)

pub returns-clause-run : goal.returns-clause-run
returns-clause-run c =
    pivots c.args.form.now c.args.starts.now c.args.self.now c.args.column.now.solved c.args.place
    c.args.column.now.number c.args.theta c.args.to c.requires.column.solves
    c.exchange_values.new.self c.refresh.new.self _ c.in_ok-exchange_values.ensures.run c.refresh.ensures.run
