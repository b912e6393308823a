use Rattle.spec_serve.proofs.SpelledModels.{link_ended, link_whole, served_whole, served_ended}
use Rattle.spec_serve.proofs.models_of_links_are_spelled.Goals as goal

pub returns : goal.returns
returns c = record { ended = link_ended; whole = link_whole; served = served_whole; served_past = served_ended }
