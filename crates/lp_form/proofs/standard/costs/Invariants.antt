-- The loops over the columns and over the rows.
use Rattle.std.proofs.Common.{◌≡◌, ◌++◌, map, take, replicate}
use Rattle.spec_exact.specs.Fraction.{0ℚ}
use Rattle.spec_simplex.specs.Form.{least_cost}
use Rattle.lp_form.proofs.standard.costs.Given as goal

-- the costs are those of the first j columns, to be made least
abbrev pub invariant-loop-j : goal.invariant-loop-j
invariant-loop-j l = l.costs ≡ map (λ c. least_cost l.model.sense c.cost) (take l.j l.model.columns)

-- the costs are those of all columns, to be made least, and then one 0 for each row so far
abbrev pub invariant-loop : goal.invariant-loop
invariant-loop l = l.costs ≡ map (λ c. least_cost l.model.sense c.cost) l.model.columns ++ replicate l.counter 0ℚ
