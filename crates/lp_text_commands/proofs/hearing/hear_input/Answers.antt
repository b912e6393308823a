-- Where something is said, and where the reading halts.
use Rattle.std.proofs.lemmas.Result.{err_from_is_err_and}
use Rattle.lp_text_commands.proofs.Heard.{says_so, too_long, stopped, reads_none, no_write}
use Rattle.lp_text_commands.proofs.hearing.hear_input.Goals as goal

pub returns-in_err-lines-clause-output : goal.returns-in_err-lines-clause-output
returns-in_err-lines-clause-output g c = λ said agrees.
    let p = err_from_is_err_and c.from_residual.result c.from_residual.ensures.1 in
    reads_none said (g.S.Source.left c.args.src.now) c.from_residual.result p.0 p.1 p.2

pub returns-in_err-said-clause-output : goal.returns-in_err-said-clause-output
returns-in_err-said-clause-output g c = λ said agrees.
    let p = err_from_is_err_and c.from_residual-in_err-said.result c.from_residual-in_err-said.ensures.1 in
    stopped said agrees (g.S.Source.left c.args.src.now) (g.S.Source.left c.hear.new.source) c.in_ok-lines.lines
    c.hear.new.lines c.in_ok-lines.ensures _ c.in_err-said.ensures.heard c.from_residual-in_err-said.result p.0 p.1 p.2

pub returns-in_err-said-clause-no_write : goal.returns-in_err-said-clause-no_write
returns-in_err-said-clause-no_write g c =
    let p = err_from_is_err_and c.from_residual-in_err-said.result c.from_residual-in_err-said.ensures.1 in
    no_write _ c.from_residual-in_err-said.result p.0 p.1 p.2

pub returns-in-Says-clause-output : goal.returns-in-Says-clause-output
returns-in-Says-clause-output g c = λ said agrees.
    says_so said agrees (g.S.Source.left c.args.src.now) (g.S.Source.left c.hear.new.source) c.in_ok-lines.lines
    c.hear.new.lines c.in_ok-lines.ensures c.in_ok-said.field-0 c.in-Says.said c.in-Says.is c.in_ok-said.ensures.heard

pub returns-clause-output : goal.returns-clause-output
returns-clause-output g c = λ said agrees.
    too_long said agrees (g.S.Source.left c.args.src.now) (g.S.Source.left c.hear.new.source) c.in_ok-lines.lines
    c.hear.new.lines c.in_ok-lines.ensures c.in_ok-said.field-0 c.in-Over.is c.in_ok-said.ensures.heard
