use Rattle.std.specs.Option.{option_copied}
use Rattle.lp_mps.specs.BoundSeen.{texts_made}
use Rattle.lp_mps.proofs.TextLists.{bound_texts_are}
use Rattle.lp_mps.proofs.read.bounds.bound_texts.Goals as goal

pub returns : goal.returns
returns c =
    bound_texts_are c.args.style c.args.kind c.args.fields.now c.has_bound_shape.result c.takes_value.result
    (option_copied c.text_read.result) (option_copied c.text_read-2.result)
    (option_copied c.text_read-3.result) (option_copied c.text_read-4.result)
    (texts_made c.texts_by.result) c.has_bound_shape.ensures c.if-not-has_bound_shape.false c.takes_value.ensures
    c.text_read.ensures c.text_read-2.ensures c.text_read-3.ensures c.text_read-4.ensures c.texts_by.ensures
