use Rattle.spec_serve.proofs.WorkersAgree.{workers_agree}
use Rattle.spec_serve.proofs.workers_agree.Goals as goal

pub returns : goal.returns
returns c = workers_agree
