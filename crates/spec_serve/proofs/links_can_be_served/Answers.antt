use Rattle.spec_serve.proofs.LinksAlone.{is_served}
use Rattle.spec_serve.proofs.links_can_be_served.Goals as goal

pub returns : goal.returns
returns c = is_served
