use Rattle.std.proofs.Common.{◌≡◌, ◌++◌}
use Rattle.spec_model.specs.Model.{part}
use Rattle.spec_iis.specs.Rule.{gathered, row_sides}
use Rattle.lp_iis.proofs.certificate.push_rows.Given as goal

-- the list has the old sides and then those of the first i rows that the multipliers use
abbrev pub invariant-loop-i : goal.invariant-loop-i
invariant-loop-i l = l.to ≡ l.initial.to ++ gathered (λ i. row_sides i (part l.y i)) l.i
