use Rattle.std.proofs.Common.{arith, refl}
use Rattle.lp_rows.proofs.Read.{read_at}
use Rattle.lp_rows.proofs.tableau.ends.number.Goals as goal

pub returns : goal.returns
returns g c =
    read_at g.T.Words.value c.args.row.now.numbers.items _ _ c.args.k c.index.result.now
    (omega (arith, c.requires.row.numbers, c.requires.inside)) c.index.ensures refl
