use Rattle.spec_server.specs.Output as output
use Rattle.lp_line.proofs.refusals.push_refusal.Goals as goal

pub returns-in-Repeated : goal.returns-in-Repeated
unfolding output.repeated_text
returns-in-Repeated c =
    rw c.in-Repeated.is (rw c.as_slice-in-Repeated.ensures at c.push_named-in-Repeated.ensures)
