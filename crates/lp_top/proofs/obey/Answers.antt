-- By the command, and what it is answered.
use Rattle.std.proofs.Common.{subst}
use Rattle.spec_program.specs.declared.command_line.CommandLine.TheVariants.{Run, Read, Generate}
use Rattle.std.proofs.KnownBytes.{Consumes-nil}
use Rattle.spec_program.specs.Fits.{Fits}
use Rattle.spec_program.specs.Spelled.{spelled, spelled_text}
use Rattle.lp_top.proofs.Telling.{run_done, run_stopped, text_done, text_halted, generated, not_generated, does_as}
use Rattle.lp_top.proofs.obey.Goals as goal

pub run_script-requires-clause-workers : goal.run_script-requires-clause-workers
run_script-requires-clause-workers g c = λ lives bounds. (subst (λ k. Fits (spelled k)) c.in-Run.is c.requires.fits).0

pub run_script-requires-clause-places : goal.run_script-requires-clause-places
run_script-requires-clause-places g c = λ lives bounds. (subst (λ k. Fits (spelled k)) c.in-Run.is c.requires.fits).1

pub returns-in-Ok-clause-output : goal.returns-in-Ok-clause-output
returns-in-Ok-clause-output g c =
    does_as c.args.command (Run c.in-Run.workers c.in-Run.places) _ _ c.in-Run.is (run_done c.in-Ok.ensures.output)

pub returns-in-Err-clause-output : goal.returns-in-Err-clause-output
returns-in-Err-clause-output g c =
    does_as c.args.command (Run c.in-Run.workers c.in-Run.places) _ _ c.in-Run.is
    (run_stopped c.in-Err.halt c.from.result.code c.from.ensures c.in-Err.ensures.output)

pub returns-in-Ok-read_text-clause-output : goal.returns-in-Ok-read_text-clause-output
returns-in-Ok-read_text-clause-output g c =
    does_as c.args.command (Read c.in-Read.command c.in-Read.style) _ _ c.in-Read.is
    (text_done (spelled_text c.in-Read.command) c.in-Read.style _ c.in-Ok-read_text.status.code
    c.in-Ok-read_text.ensures.output)

pub returns-in-Err-read_text-clause-output : goal.returns-in-Err-read_text-clause-output
returns-in-Err-read_text-clause-output g c =
    does_as c.args.command (Read c.in-Read.command c.in-Read.style) _ _ c.in-Read.is
    (text_halted (spelled_text c.in-Read.command) c.in-Read.style _ c.in-Err-read_text.halt c.from-in-Err-read_text.result.code
    c.from-in-Err-read_text.ensures c.in-Err-read_text.ensures.output)

pub returns-in-Ok-generate-clause-output : goal.returns-in-Ok-generate-clause-output
returns-in-Ok-generate-clause-output g c =
    does_as c.args.command (Generate c.in-Generate.seed c.in-Generate.rows c.in-Generate.columns) _ _ c.in-Generate.is
    (generated (Consumes-nil _) c.in-Ok-generate.ensures.output)

pub returns-in-Err-generate-clause-output : goal.returns-in-Err-generate-clause-output
returns-in-Err-generate-clause-output g c =
    does_as c.args.command (Generate c.in-Generate.seed c.in-Generate.rows c.in-Generate.columns) _ _ c.in-Generate.is
    (not_generated (Consumes-nil _) c.in-Err-generate.halt c.from-in-Err-generate.result.code
    c.from-in-Err-generate.ensures c.in-Err-generate.ensures.output)
