-- The words of a basis of the form are well formed.
use Rattle.std.proofs.Common.{◌≡◌, Some, rules}
use Rattle.spec_server.specs.Step.{words_of_end}
use Rattle.lp_session.proofs.SolveStarts.{left_formed}
use Rattle.lp_session.proofs.working.words_of_end.Goals as goal

pub returns-in-Ended-Optimal-default-Some-default-clause-formed :
    goal.returns-in-Ended-Optimal-default-Some-default-clause-formed
returns-in-Ended-Optimal-default-Some-default-clause-formed c =
    let value : Some c.pack.result ≡ words_of_end c.args.form.now c.args.end.now = search rules in
    left_formed c.args.form.now c.args.end.now c.pack.result c.rows.ensures.kept c.requires value
