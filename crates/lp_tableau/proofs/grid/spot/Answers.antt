-- The place in the block.
use Rattle.std.proofs.Common.{arith}
use Rattle.lp_tableau.proofs.BlockRows.{place_in}
use Rattle.lp_tableau.proofs.grid.spot.Goals as goal

pub overflow_mul-result : goal.overflow_mul-result
overflow_mul-result c = omega (arith, (place_in _ _ _ _ _ c.requires.block c.requires.row c.requires.column).row)

pub overflow_add-result : goal.overflow_add-result
overflow_add-result c = omega (arith, (place_in _ _ _ _ _ c.requires.block c.requires.row c.requires.column).place)

pub returns-clause-inside : goal.returns-clause-inside
returns-clause-inside c = (place_in _ _ _ _ _ c.requires.block c.requires.row c.requires.column).inside
