-- The loop over the columns.
use Rattle.std.proofs.Common.{◌≡◌, Ok}
use Rattle.spec_model.specs.Model.{part}
use Rattle.spec_check.specs.Run as run
use Rattle.lp_check.specs.Sums as given
use Rattle.lp_check.proofs.wide.multipliers.columns_tight.Given as goal

-- condition 3 holds at the first j columns, by their reduced costs
abbrev pub invariant-loop-j : goal.invariant-loop-j
invariant-loop-j l = run.each l.j (λ j. given.column_tight l.model l.x j (part l.reduced j)) ≡ Ok tt
