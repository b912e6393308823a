use Rattle.std.proofs.Common.{◌≡◌, map, take, IfSome}
use Rattle.spec_model.specs.Model.{ExactColumn}
use Rattle.lp_model.proofs.indexed.names_of_columns.Given as goal

-- the names so far, if they are kept, are those of the columns that were passed, in order
abbrev pub invariant-loop-column : goal.invariant-loop-column
invariant-loop-column l =
    IfSome l.names (λ names. names ≡ map (λ (x : ExactColumn). x.name) (take l.column-index l.columns))
