use Rattle.std.specs.Prelude.{IfOk}
use Rattle.std.proofs.Common.{◌≡◌, Err, sym, subst, ap, ◌∙◌}
use Rattle.spec_mps.specs.Fields.{Is, free_fields, texts_of}
use Rattle.lp_mps.specs.CardAnswer.{GivesCard}
use Rattle.spec_bas.specs.Cards.{section_reading}
use Rattle.lp_bas.proofs.Readings.{skip_reading, section_is, given_is, none_misplaced}
use Rattle.lp_bas.proofs.reading.text_reading.Goals as goal

pub unreachable-requires : goal.unreachable-requires
unreachable-requires c =
    none_misplaced c.args.bytes.now c.in-Err-Misplaced.field-0-0
    (subst (λ e. GivesCard (Err e) (free_fields c.args.bytes.now)) c.in-Err-Misplaced.field-0-is
    c.in-Err-Misplaced.ensures)

pub returns-in-Ok-Skip : goal.returns-in-Ok-Skip
returns-in-Ok-Skip c = sym (skip_reading c.args.bytes.now (c.in-Ok-Skip.ensures ∙ ap Is c.in-Ok-Skip.field-0-is))

pub returns-in-Ok-Section : goal.returns-in-Ok-Section
returns-in-Ok-Section c =
    let e = section_is c.args.bytes.now c.in-Ok-Section.words
    (c.in-Ok-Section.ensures ∙ ap Is c.in-Ok-Section.field-0-is) in
    c.section_reading.ensures ∙ ap (λ ws. section_reading (texts_of ws)) c.as_slice.ensures ∙ sym e

pub returns-in-Ok-Given : goal.returns-in-Ok-Given
returns-in-Ok-Given c =
    let e = given_is c.args.bytes.now c.in-Ok-Given.words (c.in-Ok-Given.ensures ∙ ap Is c.in-Ok-Given.field-0-is) in
    subst (λ r. IfOk c.data_reading.result (λ reading. reading ≡ r)) (sym e) c.data_reading.ensures
