use Rattle.spec_serve.proofs.LinksAlone.{links_run}
use Rattle.spec_serve.proofs.links_run_alone.Goals as goal

pub returns : goal.returns
returns c = links_run
