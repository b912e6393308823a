-- No column so far may enter.
use Rattle.std.proofs.Common.{◌≡◌, None}
use Rattle.spec_simplex.specs.Tableau.{Tableau}
use Rattle.spec_simplex.specs.Step.{entering_below}
use Rattle.lp_rows.specs.Entering.{IsPriced}
use Rattle.lp_rows.proofs.choice.entering.Given as goal

abbrev pub invariant-loop-k : goal.invariant-loop-k
invariant-loop-k g l =
    (t : Tableau) → IsPriced g.T.Words.value t l.costs.numbers.items
    (g.T.Words.value l.costs.denominator) l.status l.fixed →
    entering_below t l.k ≡ None
