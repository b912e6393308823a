-- The copy has the parts of the model.
use Rattle.lp_presolve.proofs.copying.copied.Goals as goal

pub new-requires : goal.new-requires
new-requires c =
    rw (c.in_ok-name.ensures, c.name.ensures, c.sense.ensures, c.in_ok-objective.ensures, c.objective.ensures, c.offset.ensures, c.in_ok-rows.ensures, c.in_ok-columns.ensures)
    c.requires
