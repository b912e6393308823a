use Rattle.spec_serve.proofs.InOrder.{served_in_order, published_once}
use Rattle.spec_serve.proofs.reads_stay_in_order.Goals as goal

pub returns : goal.returns
returns c = record { order = served_in_order; once = published_once }
