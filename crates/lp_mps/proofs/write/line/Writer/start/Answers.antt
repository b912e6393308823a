-- The model's name, then its sense.
use Rattle.std.proofs.Common.{[], ◌∷◌}
use Rattle.spec_mps.specs.Written.{name_card, sense_cards}
use Rattle.lp_mps.proofs.AddSteps.{goes_on}
use Rattle.lp_mps.proofs.write.line.Writer.start.Goals as goal

pub returns : goal.returns
returns c =
    let h = rw (c.as_slice.ensures, c.name.ensures) at c.in_ok-name.ensures in
    let k = rw c.sense.ensures at c.sense-2.ensures in
    goes_on c.args.self.now.style (name_card c.args.model.now.name ∷ [])
    (sense_cards c.args.model.now.sense) _ _ _ c.sense-2.result h k
