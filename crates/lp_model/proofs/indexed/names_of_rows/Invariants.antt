use Rattle.std.proofs.Common.{◌≡◌, map, take, IfSome}
use Rattle.spec_model.specs.Model.{ExactRow}
use Rattle.lp_model.proofs.indexed.names_of_rows.Given as goal

-- the names so far, if they are kept, are those of the rows that were passed, in order
abbrev pub invariant-loop-row : goal.invariant-loop-row
invariant-loop-row l =
    IfSome l.names (λ names. names ≡ map (λ (x : ExactRow). x.name) (take l.row-index l.rows))
