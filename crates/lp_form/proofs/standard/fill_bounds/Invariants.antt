-- The loops over the columns and over the rows.
use Rattle.std.proofs.Common.{◌≡◌, map, take}
use Rattle.lp_form.specs.Bounds.{AreBounds}
use Rattle.lp_form.proofs.standard.fill_bounds.Given as goal

-- the lists have the lower and the upper bounds of the first j columns
abbrev pub invariant-loop-j : goal.invariant-loop-j
invariant-loop-j l = record {
  lower : l.lower ≡ map (λ c. c.lower) (take l.j l.model.columns);
  upper : l.upper ≡ map (λ c. c.upper) (take l.j l.model.columns);
}

-- the lists have the bounds of all columns and then the limits of the first i rows
abbrev pub invariant-loop-i : goal.invariant-loop-i
invariant-loop-i l = AreBounds l.model l.i l.lower l.upper
