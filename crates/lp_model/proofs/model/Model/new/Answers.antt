use Rattle.std.proofs.Common.{◌≢◌}
use Rattle.spec_model.proofs.Pairs.{AllPairs-tail}
use Rattle.lp_model.proofs.model.Model.new.Goals as goal

pub names_of_rows-row_names-requires : goal.names_of_rows-row_names-requires
names_of_rows-row_names-requires c =
    rw c.deref.ensures.value (AllPairs-tail (λ a b. a ≢ b) c.args.objective _ c.requires.rows_distinct)
