use Rattle.std.proofs.Common.{refl}
use Rattle.spec_pivot.proofs.Instance.{f, cost, b, tables, label, run_there}
use Rattle.spec_pivot.proofs.some_run_exists.Goals as goal

pub returns : goal.returns
returns c = (1, 2, f, cost, b, tables, (λ i. label), run_there, refl)
