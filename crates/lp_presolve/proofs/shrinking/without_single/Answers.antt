-- The bounds that a column has are less than 10 ^ 20 from 0, as those that are given.
use Rattle.lp_presolve.proofs.OldBounds.{bound_or_old}
use Rattle.spec_model.specs.Model.{no_column}
use Rattle.lp_presolve.proofs.shrinking.without_single.Goals as goal

pub set_bounds-requires-clause-lower : goal.set_bounds-requires-clause-lower
set_bounds-requires-clause-lower c =
    rw (c.or_old-lower.ensures, c.col-column.ensures)
    (bound_or_old _ _ c.requires.lower (c.requires.kept.columns c.args.j no_column c.requires.j_in_range).lower)

pub set_bounds-requires-clause-upper : goal.set_bounds-requires-clause-upper
set_bounds-requires-clause-upper c =
    rw (c.or_old-upper.ensures, c.col-column.ensures)
    (bound_or_old _ _ c.requires.upper (c.requires.kept.columns c.args.j no_column c.requires.j_in_range).upper)
