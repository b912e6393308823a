-- The certificate and the basis of the end.
use Rattle.lp_revised.proofs.TwoPhases.{is_ended}
use Rattle.lp_revised.proofs.state.Revised.ended.Goals as goal

pub returns-clause-value : goal.returns-clause-value
returns-clause-value c =
    is_ended c.args.starts.now c.args.self.now c.args.pivots c.args.end.now _ _ c.in_ok-certificate.ensures.value
    c.in_ok-basis.ensures
