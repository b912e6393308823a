use Rattle.std.proofs.Common.{◌≡◌, take}
use Rattle.std.specs.List.{filter}
use Rattle.spec_iis.specs.Sides.{is_listed}
use Rattle.spec_iis.specs.Only.{renumbered}
use Rattle.lp_iis.proofs.few.used_of.Given as goal

-- the few sides are those of the first i sides that are used, under their new numbers
abbrev pub invariant-loop-i : goal.invariant-loop-i
invariant-loop-i l = l.few ≡ filter (λ s. is_listed l.used (renumbered l.sides s)) (take l.i l.sides)
