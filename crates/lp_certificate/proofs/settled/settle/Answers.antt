-- The certificate without parts, and all parts put to it.
use Rattle.std.proofs.Common.{[], sym, ap, ◌∙◌, subst}
use Rattle.std.proofs.lemmas.Result.{err_from_is_err_and}
use Rattle.spec_check.specs.Settle.{put_all}
use Rattle.lp_certificate.specs.Answer.{IsErrorOf}
use Rattle.lp_certificate.proofs.PartPlaces.{blank_stopped, whole, unfit}
use Rattle.lp_certificate.proofs.settled.settle.Goals as goal

pub returns-in_err-cert-clause-answer : goal.returns-in_err-cert-clause-answer
returns-in_err-cert-clause-answer g c =
    let p = err_from_is_err_and c.from_residual.result c.from_residual.ensures.1 in
    rw (p.1, p.2) (blank_stopped g.N.Number.nothing c.args.model.now c.args.raw.now c.in_err-cert.field-0.0 c.in_err-cert.ensures.answer)

pub returns-in-Ok-clause-answer : goal.returns-in-Ok-clause-answer
returns-in-Ok-clause-answer g c =
    whole g.N.Number.nothing c.args.model.now c.args.raw.now c.in_ok-cert.cert c.put_all.new.cert c.in_ok-cert.ensures.answer
    (ap (λ ps. put_all c.args.model.now [] ps c.in_ok-cert.cert) (sym c.as_slice.ensures) ∙ c.in-Ok.ensures.answer)

pub returns-in-Err-clause-answer : goal.returns-in-Err-clause-answer
returns-in-Err-clause-answer g c =
    unfit g.N.Number.nothing c.args.model.now c.args.raw.now c.in_ok-cert.cert c.in-Err.error c.in_ok-cert.ensures.answer
    (subst (λ ps. IsErrorOf (put_all c.args.model.now [] ps c.in_ok-cert.cert) c.in-Err.error) c.as_slice.ensures
    c.in-Err.ensures.answer)
