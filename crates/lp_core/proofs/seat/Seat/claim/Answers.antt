use Rattle.std.proofs.Common.{rules}
use Rattle.lp_core.proofs.FormedWords.{claim_formed}
use Rattle.lp_core.proofs.StageSteps.{puts_raced, claims_win}
use Rattle.lp_core.proofs.seat.Seat.claim.Goals as goal

pub returns-then-claimed-count-clause-fits : goal.returns-then-claimed-count-clause-fits
returns-then-claimed-count-clause-fits c =
    puts_raced _ _ _ _ _ _ _ c.self.view_is _ _ c.in-Claims.words c.in-Claims.count c.len-claimed.result
    c.in-Claims.is c.self.invariant (search rules) (search rules) c.put-reply.ensures

pub returns-clause-fits : goal.returns-clause-fits
returns-clause-fits c =
    claims_win _ _ _ _ _ _ _ c.self.view_is c.in-Claims.words c.in-Claims.count _ c.in-Claims.is
    c.self.invariant (search rules) (search rules)

pub returns-clause-formed : goal.returns-clause-formed
returns-clause-formed c =
    claim_formed c.args.me c.args.places.now.items c.push_reserved.new.self.items (search rules) c.requires.formed
