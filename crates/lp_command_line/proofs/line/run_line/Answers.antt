-- No options, no number of workers, none of places, and both.
use Rattle.std.proofs.Common.{Some, None, refl, sym, ap, ◌∙◌, map}
use Rattle.std.specs.Prelude.{string_bytes}
use Rattle.spec_program.specs.Spelled.{told}
use Rattle.lp_command_line.proofs.Asking.{run-refused, asks-run}
use Rattle.lp_command_line.proofs.line.run_line.Goals as goal

pub returns-then-not-are_options : goal.returns-then-not-are_options
returns-then-not-are_options c =
    sym (run-refused (map string_bytes c.args.words.now) (sym c.are_options.ensures ∙ c.if-not-are_options.true))

pub returns-in_err-workers : goal.returns-in_err-workers
returns-in_err-workers c =
    ap told c.from_residual.ensures
    ∙ sym (asks-run (map string_bytes c.args.words.now) None _ (sym c.are_options.ensures ∙ c.if-not-are_options.false)
    (sym c.in_err-workers.ensures) refl)

pub returns-in_err-places : goal.returns-in_err-places
returns-in_err-places c =
    ap told c.from_residual-in_err-places.ensures
    ∙ sym (asks-run (map string_bytes c.args.words.now) (Some c.in_ok-workers.workers) None
    (sym c.are_options.ensures ∙ c.if-not-are_options.false) (sym c.in_ok-workers.ensures)
    (sym c.in_err-places.ensures))

pub returns : goal.returns
returns c =
    sym (asks-run (map string_bytes c.args.words.now) (Some c.in_ok-workers.workers) (Some c.in_ok-places.places)
    (sym c.are_options.ensures ∙ c.if-not-are_options.false) (sym c.in_ok-workers.ensures)
    (sym c.in_ok-places.ensures))
