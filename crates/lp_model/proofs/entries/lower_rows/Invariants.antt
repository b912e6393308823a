use Rattle.lp_model.proofs.Lowered.{AreLowered}
use Rattle.lp_model.proofs.entries.lower_rows.Given as goal

-- of the entries from `place` on, those before `at` have their rows lowered by one, and those from `at` on are the old
-- ones
abbrev pub invariant-loop-at : goal.invariant-loop-at
invariant-loop-at l = AreLowered l.place l.at l.initial.entries l.entries
