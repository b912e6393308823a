use Rattle.std.proofs.Common.{◌∙◌, ◌<◌, length, sym, ap, arith}
use Rattle.lp_mps.specs.Draft.{state_of}
use Rattle.lp_mps.specs.Numbers.{pairs_by}
use Rattle.lp_mps.proofs.TextLists.{few_pairs}
use Rattle.lp_mps.proofs.read.draft.Draft.pairs.Goals as goal

pub returns : goal.returns
returns c =
    let few : length c.loop-fields.fields.now < 2 = omega (arith, c.in_default.len_below) in
    sym c.loop-fields.invariant
    ∙ ap (pairs_by c.args.what (state_of c.loop-fields.self)) (few_pairs c.loop-fields.fields.now few)
