-- Where there is no memory to begin.
use Rattle.lp_serve.proofs.LinkTurns.{served_nothing}
use Rattle.lp_serve.proofs.Noting.{none_noted}
use Rattle.lp_serve.proofs.link.serve_link.Goals as goal

pub returns-in_default-clause-serves : goal.returns-in_default-clause-serves
returns-in_default-clause-serves g c = served_nothing _ _ c.args.pass.now.view

pub returns-in_default-clause-notes : goal.returns-in_default-clause-notes
returns-in_default-clause-notes g c = none_noted _
