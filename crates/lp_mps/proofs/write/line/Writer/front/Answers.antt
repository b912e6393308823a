-- The start, then the rows, then the columns.
use Rattle.std.proofs.Common.{◌∷◌, ◌++◌}
use Rattle.std.proofs.lemmas.Result.{err_from_is_err_and}
use Rattle.spec_mps.specs.Written.{name_card, sense_cards, rows_cards, columns_cards}
use Rattle.lp_mps.proofs.AddSteps.{joined, behind, first, goes_on}
use Rattle.lp_mps.proofs.write.line.Writer.front.Goals as goal

pub returns-in_err-start : goal.returns-in_err-start
returns-in_err-start c =
    let p = err_from_is_err_and c.from_residual.result c.from_residual.ensures.1 in
    rw (p.1, p.2)
    (first c.args.self.now.style
    ((name_card c.args.model.now.name ∷ sense_cards c.args.model.now.sense) ++ rows_cards c.args.model.now)
    (columns_cards c.args.model.now) c.in_err-start.field-0.0
    (first c.args.self.now.style (name_card c.args.model.now.name ∷ sense_cards c.args.model.now.sense)
    (rows_cards c.args.model.now) c.in_err-start.field-0.0 c.in_err-start.ensures))

pub returns-in_err-rows : goal.returns-in_err-rows
returns-in_err-rows c =
    let p = err_from_is_err_and c.from_residual-in_err-rows.result c.from_residual-in_err-rows.ensures.1 in
    rw (p.1, p.2)
    (first c.args.self.now.style
    ((name_card c.args.model.now.name ∷ sense_cards c.args.model.now.sense) ++ rows_cards c.args.model.now)
    (columns_cards c.args.model.now) c.in_err-rows.field-0.0
    (behind c.args.self.now.style (name_card c.args.model.now.name ∷ sense_cards c.args.model.now.sense)
    (rows_cards c.args.model.now) _ _ c.in_err-rows.field-0.0 c.in_ok-start.ensures c.in_err-rows.ensures))

pub returns : goal.returns
returns c =
    goes_on c.args.self.now.style
    ((name_card c.args.model.now.name ∷ sense_cards c.args.model.now.sense) ++ rows_cards c.args.model.now)
    (columns_cards c.args.model.now) _ _ _ c.columns.result
    (joined c.args.self.now.style (name_card c.args.model.now.name ∷ sense_cards c.args.model.now.sense)
    (rows_cards c.args.model.now) _ _ _ c.in_ok-start.ensures c.in_ok-rows.ensures) c.columns.ensures
