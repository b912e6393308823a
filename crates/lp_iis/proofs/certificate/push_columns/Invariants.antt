use Rattle.std.proofs.Common.{◌≡◌, ◌++◌}
use Rattle.spec_check.specs.Checks.{priced}
use Rattle.spec_iis.specs.Rule.{gathered, column_sides}
use Rattle.lp_iis.proofs.certificate.push_columns.Given as goal

-- the list has the old sides and then those of the first j columns that the multipliers use
abbrev pub invariant-loop-j : goal.invariant-loop-j
invariant-loop-j l = l.to ≡ l.initial.to ++ gathered (λ j. column_sides j (priced l.model l.y j)) l.j
