use Rattle.std.proofs.Common.{◌≡◌, drop}
use Rattle.spec_mps.specs.Fields as card_field
use Rattle.lp_mps.proofs.card.fields.Fields.text_at.Given as goal

abbrev pub invariant-loop-field : goal.invariant-loop-field
invariant-loop-field l =
    card_field.text_at l.number (drop l.field-index l.field-items) ≡ card_field.text_at l.number l.self
