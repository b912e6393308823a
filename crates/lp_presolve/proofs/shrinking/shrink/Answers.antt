-- What goes is in the model, and the bounds that are given are near.
use Rattle.lp_presolve.proofs.Shrunk.{goes_as, after_empty, after_single}
use Rattle.lp_presolve.proofs.shrinking.shrink.Goals as goal

pub remove_row-requires : goal.remove_row-requires
remove_row-requires c = (goes_as c.args.model.now _ _ c.in-Empty.is c.requires.chosen).inside

pub without_single-requires-clause-i_in_range : goal.without_single-requires-clause-i_in_range
without_single-requires-clause-i_in_range c = (goes_as c.args.model.now _ _ c.in-Single.is c.requires.chosen).inside

pub without_single-requires-clause-j_in_range : goal.without_single-requires-clause-j_in_range
without_single-requires-clause-j_in_range c = (goes_as c.args.model.now _ _ c.in-Single.is c.requires.chosen).alone.inside

pub without_single-requires-clause-lower : goal.without_single-requires-clause-lower
without_single-requires-clause-lower c = (goes_as c.args.model.now _ _ c.in-Single.is c.requires.chosen).near_lower

pub without_single-requires-clause-upper : goal.without_single-requires-clause-upper
without_single-requires-clause-upper c = (goes_as c.args.model.now _ _ c.in-Single.is c.requires.chosen).near_upper

pub without_fixed-requires : goal.without_fixed-requires
without_fixed-requires c = (goes_as c.args.model.now _ _ c.in-Fixed.is c.requires.chosen).inside

pub returns-in-Empty-clause-ok : goal.returns-in-Empty-clause-ok
returns-in-Empty-clause-ok c = after_empty c.args.model.now _ _ _ c.in-Empty.is c.remove_row.ensures

pub returns-in-Single-clause-ok : goal.returns-in-Single-clause-ok
returns-in-Single-clause-ok c = after_single c.args.model.now _ _ _ _ _ _ _ c.in-Single.is c.without_single.ensures
