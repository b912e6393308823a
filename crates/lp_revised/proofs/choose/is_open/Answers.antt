-- A place without a column.

use Rattle.lp_revised.proofs.Opens.{free_is}
use Rattle.lp_revised.proofs.choose.is_open.Goals as goal

pub returns-in-None : goal.returns-in-None
returns-in-None c =
    free_is c.args.columns.now c.args.v.now c.args.i c.at.result
    c.is_zero.result c.in-None.is c.at.ensures c.is_zero.ensures
