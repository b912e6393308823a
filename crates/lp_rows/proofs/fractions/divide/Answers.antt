use Rattle.lp_rows.proofs.Done.{item-at}
use Rattle.lp_rows.proofs.Divided.{divided}
use Rattle.lp_rows.proofs.fractions.divide.Goals as goal

pub returns-clause-rest : goal.returns-clause-rest
returns-clause-rest g c h =
    divided g.T.Words.value c.args.row.now.numbers.items c.turn.new.row c.deref_mut.result.now c.args.j _ _ _
    c.index-entry.result.now.negative c.requires.column c.requires.positive (c.is_none.ensures c.if-is_none.false)
    (item-at g.T.Words.value c.args.row.now.numbers.items c.args.j _ c.requires.column c.index-entry.ensures)
    c.deref_mut.ensures.value c.deref_mut.ensures.len c.turn.ensures.each c.turn.ensures.len
