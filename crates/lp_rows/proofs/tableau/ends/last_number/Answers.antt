use Rattle.std.proofs.Common.{arith}
use Rattle.lp_rows.proofs.Cleared.{below_gives}
use Rattle.lp_rows.proofs.Read.{read_at}
use Rattle.lp_rows.proofs.tableau.ends.last_number.Goals as goal

pub returns-in-Some : goal.returns-in-Some
returns-in-Some g c =
    read_at g.T.Words.value c.args.row.now.numbers.items _ _ c.args.last c.index.result.now
    (omega (arith, c.requires.row.numbers)) c.index.ensures
    (below_gives g.T.Words.value g.T.Words.base _ c.in-Some.both c.in-Some.ensures)
