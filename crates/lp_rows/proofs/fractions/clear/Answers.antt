use Rattle.std.proofs.Common.{length, sym, ap, ◌∙◌}
use Rattle.lp_rows.proofs.Done.{item-at}
use Rattle.lp_rows.proofs.Cleared.{cleared_written, cleared_positive, below_gives}
use Rattle.lp_rows.proofs.fractions.clear.Goals as goal

pub eliminate-requires : goal.eliminate-requires
eliminate-requires g c =
    ap length c.deref.ensures.value ∙ c.requires.same ∙ sym (ap length c.deref_mut.ensures.value)

pub returns-in-Some-product-clause-rest : goal.returns-in-Some-product-clause-rest
returns-in-Some-product-clause-rest g c h =
    cleared_written g.T.Words.value c.args.row.now.numbers.items _ c.args.other.now.numbers.items
    c.deref_mut.result.now c.deref.result.now c.args.j _ _ _ _ _ _ _ _ c.index-entry.result.now.negative
    c.requires.same c.requires.column c.requires.positive c.requires.below c.in-Some.ensures.0 c.in-Some.ensures.1
    (below_gives g.T.Words.value g.T.Words.base _ c.in-Some-product.denominator c.in-Some-product.ensures)
    (item-at g.T.Words.value c.args.row.now.numbers.items c.args.j _ c.requires.column c.index-entry.ensures)
    c.deref_mut.ensures.value c.deref.ensures.value c.deref_mut.ensures.len (c.eliminate.ensures.each h)
    c.eliminate.ensures.len

pub returns-in-Some-product-clause-positive : goal.returns-in-Some-product-clause-positive
returns-in-Some-product-clause-positive g c h =
    cleared_positive _ _ _ _ _ c.requires.positive c.requires.below c.in-Some.ensures.0
    (below_gives g.T.Words.value g.T.Words.base _ c.in-Some-product.denominator c.in-Some-product.ensures)
