-- The run before a line feed, or all of the bytes ahead.
use Rattle.lp_base.proofs.RunSteps.{ahead_fits, ahead_room, ahead_some, at_room, at_some, front_fits}
use Rattle.lp_base.proofs.RunSteps.{run_found, run_plain}
use Rattle.lp_base.proofs.lines.Lines.take_run.Goals as goal

pub returns-in_ok-extend-in-Some : goal.returns-in_ok-extend-in-Some
returns-in_ok-extend-in-Some c =
    let found = c.in-Some.ensures in
    run_found c.args.self.now c.pass.new.self c.args.line.now c.extend.new.self c.ahead-ahead.result.now
    c.in-Some.at c.ahead-ahead.ensures found.0 found.1 found.2 c.pass.ensures c.in_ok-extend-in-Some.ensures

pub returns-in_ok-extend-in-None : goal.returns-in_ok-extend-in-None
returns-in_ok-extend-in-None c =
    run_plain c.args.self.now c.pass-in-None.new.self c.args.line.now c.extend-in-None.new.self
    c.ahead-ahead.result.now c.ahead-ahead.ensures c.requires.some c.requires.room
    c.in-None.ensures c.pass-in-None.ensures c.in_ok-extend-in-None.ensures

pub extend-requires : goal.extend-requires
extend-requires c =
    front_fits c.args.self.now c.ahead-ahead.result.now c.ahead-ahead.ensures c.requires.room c.args.line.now.len
    c.in-Some.at c.requires.len

pub pass-requires-clause-some : goal.pass-requires-clause-some
pass-requires-clause-some c =
    at_some c.args.self.now c.ahead-ahead.result.now c.ahead-ahead.ensures c.requires.room c.in-Some.at
    c.in-Some.ensures.0

pub pass-requires-clause-room : goal.pass-requires-clause-room
pass-requires-clause-room c =
    at_room c.args.self.now c.ahead-ahead.result.now c.ahead-ahead.ensures c.requires.room c.in-Some.at
    c.in-Some.ensures.0

pub extend-requires-in-None : goal.extend-requires-in-None
extend-requires-in-None c =
    ahead_fits c.args.self.now c.ahead-ahead.result.now c.ahead-ahead.ensures c.requires.room c.args.line.now.len
    c.requires.len

pub pass-requires-in-None-clause-some : goal.pass-requires-in-None-clause-some
pass-requires-in-None-clause-some c =
    ahead_some c.args.self.now c.ahead-ahead.result.now c.ahead-ahead.ensures c.requires.room

pub pass-requires-in-None-clause-room : goal.pass-requires-in-None-clause-room
pass-requires-in-None-clause-room c =
    ahead_room c.args.self.now c.ahead-ahead.result.now c.ahead-ahead.ensures c.requires.room
