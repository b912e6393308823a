-- The two are one fraction exactly where the test of equality says so.
use Rattle.lp_check.proofs.steps.stands_at.Goals as goal

pub returns-in-Some : goal.returns-in-Some
returns-in-Some c = rw c.in-Some.is c.are_same.ensures.test
