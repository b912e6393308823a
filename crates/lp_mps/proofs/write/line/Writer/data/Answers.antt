-- A card has a wide field exactly where its fields have one.
use Rattle.std.proofs.Common.{◌++◌, ◌∷◌, [], ap, ◌∙◌}
use Rattle.std.proofs.lemmas.Result.{err_from_is_err_and}
use Rattle.lp_mps.specs.Adds.{fields_of}
use Rattle.lp_mps.proofs.FieldSteps.{card_stops, card_done}
use Rattle.lp_mps.proofs.write.line.Writer.data.Goals as goal

pub returns-in_err-fields : goal.returns-in_err-fields
returns-in_err-fields c =
    let p = err_from_is_err_and c.from_residual.result c.from_residual.ensures.1 in
    rw (p.1, p.2)
    (card_stops c.args.self.now.style (fields_of c.args.fields.now) c.in_err-fields.field-0.0 c.in_err-fields.ensures)

pub returns : goal.returns
returns c =
    card_done c.args.self.now.style (fields_of c.args.fields.now) _ _ _ _ c.in_ok-fields.ensures c.new-line.ensures
    (c.in_ok-add_line.ensures ∙ ap (λ line. c.args.to.now ++ (line ++ 10 ∷ [])) c.as_slice.ensures)
