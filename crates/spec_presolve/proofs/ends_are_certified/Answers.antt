use Rattle.spec_presolve.proofs.Halts.{halt_shows}
use Rattle.spec_presolve.proofs.LastModel.{ends_well}
use Rattle.spec_presolve.proofs.ends_are_certified.Goals as goal

pub returns : goal.returns
returns c limit m r certificate h e = halt_shows limit r.last r.halt (ends_well limit m r h).none_applies certificate e
