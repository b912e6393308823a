use Rattle.spec_serve.proofs.ManyFromOne.{one_runs_by}
use Rattle.spec_serve.proofs.one_worker_is_many.Goals as goal

pub returns : goal.returns
returns c = one_runs_by
