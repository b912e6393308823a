-- Where the next ask is complete, and where the reading stops.
use Rattle.std.proofs.Common.{◌∙◌, ap, Err}
use Rattle.std.proofs.lemmas.Result.{err_from_is_err_and}
use Rattle.lp_line.proofs.AskTurns.{takes, takes_more, no_fault, too_long, stopped}
use Rattle.lp_line.proofs.taking.take.Goals as goal

pub returns-in_err-next-clause-taken : goal.returns-in_err-next-clause-taken
returns-in_err-next-clause-taken g c =
    let p = err_from_is_err_and c.from_residual.result c.from_residual.ensures.1 in
    stopped c.args.addressing (g.S.Source.left c.args.source.now) (g.S.Source.left c.hear.new.source) c.args.lines.now
    c.hear.new.lines c.from_residual.result _ (p.1 ∙ ap Err p.2) c.in_err-next.ensures.heard

pub returns-in-Says-clause-taken : goal.returns-in-Says-clause-taken
returns-in-Says-clause-taken g c =
    takes c.args.addressing (g.S.Source.left c.args.source.now) (g.S.Source.left c.hear.new.source) c.args.lines.now
    c.hear.new.lines c.in_ok-next.field-0 c.in-Says.next c.in-Says.is c.in_ok-next.ensures.heard

pub returns-in-Says-clause-more : goal.returns-in-Says-clause-more
returns-in-Says-clause-more g c =
    takes_more c.args.addressing (g.S.Source.left c.args.source.now)
    (g.S.Source.left c.hear.new.source) c.args.lines.now
    c.hear.new.lines c.in_ok-next.field-0 c.in-Says.next c.in-Says.is c.in_ok-next.ensures.heard

pub returns-in-Says-clause-read : goal.returns-in-Says-clause-read
returns-in-Says-clause-read g c =
    no_fault c.args.addressing (g.S.Source.left c.args.source.now)
    (g.S.Source.left c.hear.new.source) c.args.lines.now
    c.hear.new.lines c.in_ok-next.field-0 c.in-Says.next c.in-Says.is c.in_ok-next.ensures.heard

pub returns-in-Over-clause-taken : goal.returns-in-Over-clause-taken
returns-in-Over-clause-taken g c =
    too_long c.args.addressing (g.S.Source.left c.args.source.now) (g.S.Source.left c.hear.new.source) c.args.lines.now
    c.hear.new.lines c.in_ok-next.field-0 c.in-Over.is c.in_ok-next.ensures.heard
