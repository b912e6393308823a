use Rattle.lp_mps.proofs.TextLists.{even_fields, odd_fields}
use Rattle.lp_mps.proofs.read.sets.SetAndPairs.new.Goals as goal

pub returns-then-fields-eq0 : goal.returns-then-fields-eq0
returns-then-fields-eq0 c = even_fields c.args.fields.now c.if-fields-eq0.true

pub returns-in-Some : goal.returns-in-Some
returns-in-Some c =
    odd_fields c.args.fields.now c.text.result.now c.in-Some.set.now
    c.in-Some.pairs.now c.in-Some.ensures.cases.0 c.text.ensures c.if-fields-eq0.false
