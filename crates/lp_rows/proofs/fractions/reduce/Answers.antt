use Rattle.spec_exact.proofs.Coprime.{positive_left}
use Rattle.lp_rows.proofs.Divided.{without}
use Rattle.lp_rows.proofs.fractions.reduce.Goals as goal

pub returns-in-Some-clause-rest : goal.returns-in-Some-clause-rest
returns-in-Some-clause-rest g c h =
    without g.T.Words.value c.args.row.now.numbers.items c.part.new.row c.deref_mut.result.now _ _ _ _
    c.requires.positive c.in-Some.ensures c.deref_mut.ensures.value c.deref_mut.ensures.len (c.part.ensures.each h)
    c.part.ensures.len

pub returns-in-Some-clause-positive : goal.returns-in-Some-clause-positive
returns-in-Some-clause-positive g c h = positive_left _ _ _ c.in-Some.ensures c.requires.positive
