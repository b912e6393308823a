use Rattle.spec_serve.proofs.KeptAsks.{link_kept, ended_link_kept, served_kept}
use Rattle.spec_serve.proofs.links_ask_kept_models.Goals as goal

pub returns : goal.returns
returns c = record { whole = link_kept; ended = ended_link_kept; served = served_kept }
