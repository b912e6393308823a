-- All sessions as they open, and the places of a new board.
use Rattle.std.proofs.Common.{ap}
use Rattle.lp_script.specs.Only.{sharing_of}
use Rattle.lp_script.proofs.Only.{only_first}
use Rattle.lp_script.proofs.Together.{rests-opening, opens}
use Rattle.lp_script.proofs.sessions.Sessions.new.Goals as goal

pub invariant_of-result : goal.invariant_of-result
invariant_of-result c =
    let all = rests-opening c.in_ok-all.all.items c.in_ok-all.ensures in (
      all.0,
      all.1,
      only_first _ c.in_ok-board.pass c.args.places c.in_ok-board.ensures.1 c.in_ok-board.ensures.2,
    )

pub returns : goal.returns
returns c =
    opens c.in_ok-all.all.items c.in_ok-all.ensures (sharing_of c.in_ok-board.pass.view) c.args.places
    (ap sharing_of c.in_ok-board.ensures.2)
