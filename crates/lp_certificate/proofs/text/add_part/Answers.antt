-- A line, unless the number is 0.
use Rattle.std.proofs.Common.{◌++◌, ap, ◌∙◌}
use Rattle.std.proofs.lemmas.Result.{on_ok_weaker}
use Rattle.spec_certificate.specs.TextWritten.{part_text_by}
use Rattle.lp_certificate.proofs.PartLines.{no_line, one_line}
use Rattle.lp_certificate.proofs.text.add_part.Goals as goal

pub returns-then-is_none : goal.returns-then-is_none
returns-then-is_none g c =
    no_line g.N.Number.writing c.args.letter c.args.name.now c.args.value.now _ c.is_none.result c.is_none.ensures
    c.if-is_none.true

pub returns : goal.returns
returns g c =
    let text = c.in_ok-add_part_text.ensures
    ∙ ap (λ before. before ++ part_text_by g.N.Number.writing c.args.letter c.args.name.now c.args.value.now)
    c.new-text.ensures in
    on_ok_weaker c.push.result
    (λ pushed. one_line g.N.Number.writing c.args.letter c.args.name.now c.args.value.now _ _ _ c.is_none.result
    c.is_none.ensures c.if-is_none.false pushed text)
    c.push.ensures.ok
