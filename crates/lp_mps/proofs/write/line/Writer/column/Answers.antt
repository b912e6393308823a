-- The cost's card, then those of the entries.
use Rattle.std.proofs.Common.{[], ◌∷◌, map}
use Rattle.spec_model.specs.Model.{row, column}
use Rattle.spec_mps.specs.Written.{number_card}
use Rattle.lp_mps.proofs.AddSteps.{goes_on}
use Rattle.lp_mps.proofs.write.line.Writer.column.Goals as goal

pub returns : goal.returns
returns c =
    let h =
    rw (c.as_slice-name.ensures, c.as_slice.ensures, c.objective.ensures, c.col-column.ensures)
    at c.in_ok-number_card.ensures in
    let k = rw (c.as_slice-name.ensures, c.entries.ensures.value, c.col-column.ensures) at c.entries-2.ensures in
    goes_on c.args.self.now.style (number_card (column c.args.model.now c.args.j).name c.args.model.now.objective
    (column c.args.model.now c.args.j).cost ∷ [])
    (map (λ e. number_card (column c.args.model.now c.args.j).name (row c.args.model.now e.0).name e.1)
    (column c.args.model.now c.args.j).entries) _ _ _ c.entries-2.result h k
