use Rattle.lp_mps.specs.Draft.{state_of}
use Rattle.lp_mps.proofs.NewNames.{rows_new}
use Rattle.lp_mps.proofs.read.draft.Draft.put_row.Goals as goal

pub push-requires-clause-new : goal.push-requires-clause-new
push-requires-clause-new c = rw c.in_ok-row.ensures (rows_new (state_of c.args.self.now) c.args.name.now c.requires)
