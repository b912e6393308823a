-- The flip and the pivot may be made.
use Rattle.std.proofs.Common.{sym, Some}
use Rattle.spec_exact.specs.Narrow.{number_limit}
use Rattle.lp_simplex.proofs.Choices.{chosen_is, can_make}
use Rattle.lp_simplex.proofs.primal.choice.choice.Goals as goal

pub returns-clause-possible : goal.returns-clause-possible
returns-clause-possible c =
    rw c.chosen.ensures
    (can_make (Some number_limit) c.args.tab.now _
    (chosen_is (Some number_limit) c.args.tab.now _ (sym c.in-Some.ensures.value) _ (sym c.in_ok-best.ensures)))
