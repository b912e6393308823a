-- What is found by the last model, and why nothing is.
use Rattle.std.proofs.lemmas.Result.{err_from_is_err_and}
use Rattle.spec_model.proofs.KeptModels.{within_from_usual}
use Rattle.spec_presolve.proofs.KeptReductions.{kept_all}
use Rattle.lp_presolve.proofs.Tried.{few_steps, not_carried, back_fits, never_no, not_accepted, found}
use Rattle.lp_presolve.proofs.presolving.from_last.Goals as goal

pub last_certificate-requires : goal.last_certificate-requires
last_certificate-requires c =
    let led = c.requires.led in
    (kept_all c.args.model.now _ (within_from_usual c.args.model.now c.requires.kept) led.run).1.few

pub carry-requires : goal.carry-requires
carry-requires c =
    few_steps c.args.model.now c.args.last.now c.args.budget c.args.steps.now c.args.halt c.requires.led
    c.in_ok-certificate.certificate c.in_ok-certificate.pivots c.in_ok-certificate.ensures c.requires.kept.1

pub returns-in_err-certificate-2 : goal.returns-in_err-certificate-2
returns-in_err-certificate-2 c =
    let p = err_from_is_err_and c.from_residual-in_err-certificate-2.result
    c.from_residual-in_err-certificate-2.ensures.1 in
    rw (p.1, p.2)
    (not_carried c.args.model.now c.args.last.now c.args.budget c.args.steps.now c.args.halt c.requires.led
    c.in_ok-certificate.certificate c.in_ok-certificate.pivots c.in_ok-certificate.ensures _
    (c.in_err-certificate-2.ensures.carried c.requires.led.steps c.requires.led.are_kept))

pub accepted-requires-clause-fits : goal.accepted-requires-clause-fits
accepted-requires-clause-fits c =
    back_fits c.args.model.now c.args.last.now c.args.budget c.args.steps.now c.args.halt c.requires.led
    c.in_ok-certificate.certificate c.in_ok-certificate.pivots c.in_ok-certificate.ensures
    c.in_ok-certificate-2.certificate
    (c.in_ok-certificate-2.ensures.carried c.requires.led.steps c.requires.led.are_kept)

pub accepted-requires-clause-never_no : goal.accepted-requires-clause-never_no
accepted-requires-clause-never_no c =
    never_no c.args.model.now c.args.last.now c.args.budget c.args.steps.now c.args.halt c.requires.led
    c.in_ok-certificate.certificate c.in_ok-certificate.pivots c.in_ok-certificate.ensures
    c.in_ok-certificate-2.certificate
    (c.in_ok-certificate-2.ensures.carried c.requires.led.steps c.requires.led.are_kept)

pub returns-in_err-accepted : goal.returns-in_err-accepted
returns-in_err-accepted c =
    let p = err_from_is_err_and c.from_residual-in_err-accepted.result c.from_residual-in_err-accepted.ensures.1 in
    rw (p.1, p.2)
    (not_accepted c.args.model.now c.args.last.now c.args.budget c.args.steps.now c.args.halt c.requires.led
    c.in_ok-certificate.certificate c.in_ok-certificate.pivots c.in_ok-certificate.ensures
    c.in_ok-certificate-2.certificate
    (c.in_ok-certificate-2.ensures.carried c.requires.led.steps c.requires.led.are_kept) _ c.in_err-accepted.ensures)

pub returns : goal.returns
returns c =
    found c.args.model.now c.args.last.now c.args.budget c.args.steps.now c.args.halt c.requires.led
    c.in_ok-certificate.certificate c.in_ok-certificate.pivots c.in_ok-certificate.ensures
    c.in_ok-certificate-2.certificate
    (c.in_ok-certificate-2.ensures.carried c.requires.led.steps c.requires.led.are_kept)
    c.in_ok-accepted.field-0 c.is_narrow.ensures c.in_ok-accepted.ensures
