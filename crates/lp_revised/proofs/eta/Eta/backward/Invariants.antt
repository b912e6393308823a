-- The loop over the entries.
use Rattle.lp_revised.proofs.EtaRuns.{BackwardTo}
use Rattle.lp_revised.proofs.eta.Eta.backward.Given as goal

-- the places before the next entry's are taken off
abbrev pub invariant-loop-row : goal.invariant-loop-row
invariant-loop-row l = BackwardTo l.self-inside.rows l.self-inside.place l.self-inside.entries l.v l.row-index l.rest
