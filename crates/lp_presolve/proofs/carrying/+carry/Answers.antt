-- The first step comes last.
use Rattle.std.proofs.lemmas.Result.{err_from_is_err_and}
use Rattle.lp_presolve.proofs.Overs.{parted, carried_stops, carried_on}
use Rattle.lp_presolve.proofs.carrying.+carry.Goals as goal

pub returns-in_err-carry-in-len1-up-clause-carried : goal.returns-in_err-carry-in-len1-up-clause-carried
returns-in_err-carry-in-len1-up-clause-carried t c = λ rs h.
    let p = err_from_is_err_and c.from_residual.result c.from_residual.ensures.1 in
    rw (p.1, p.2)
    (carried_stops c.first-item.result _ rs c.args.certificate _
    (parted c.args.steps.now c.first-item.result rs c.in-len1-up.len_at_least c.first-item.is h)
    c.in_err-carry-in-len1-up.ensures.carried)

pub returns-in_ok-carry-in-len1-up-clause-carried : goal.returns-in_ok-carry-in-len1-up-clause-carried
returns-in_ok-carry-in-len1-up-clause-carried t c = λ rs h.
    carried_on c.first-item.result _ rs c.args.certificate c.in_ok-carry-in-len1-up.field-0 c.over.result
    (parted c.args.steps.now c.first-item.result rs c.in-len1-up.len_at_least c.first-item.is h)
    c.in_ok-carry-in-len1-up.ensures.carried c.over.ensures.carried
