use Rattle.spec_pivot.proofs.Pivot.{forth, back, units}
use Rattle.spec_pivot.proofs.pivots_keep_rows.Goals as goal

pub returns : goal.returns
returns c = record { forth = λ m t p j h n. forth m t p j h; back = back; units = units }
