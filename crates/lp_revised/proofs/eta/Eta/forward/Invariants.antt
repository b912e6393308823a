-- The loop over the entries.
use Rattle.lp_revised.proofs.EtaRuns.{ForwardTo}
use Rattle.lp_revised.proofs.eta.Eta.forward.Given as goal

-- the places before the next entry's are done
abbrev pub invariant-loop-row : goal.invariant-loop-row
invariant-loop-row l =
    ForwardTo l.self-inside.rows l.self-inside.place l.self-inside.entries l.fn.v l.by l.row-index l.v
