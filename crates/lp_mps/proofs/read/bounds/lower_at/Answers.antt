use Rattle.std.proofs.Common.{false, ◌||◌}
use Rattle.lp_mps.proofs.ListItems.{changed_at-set, changed_at-past}
use Rattle.lp_mps.proofs.read.bounds.lower_at.Goals as goal

pub returns-then-place-lowered : goal.returns-then-place-lowered
returns-then-place-lowered c =
    changed_at-set c.args.lowered.now c.args.place (λ b. b || c.args.sets_lower) false c.if-place-lowered.true

pub returns-else-place-lowered : goal.returns-else-place-lowered
returns-else-place-lowered c =
    changed_at-past c.args.lowered.now c.args.place (λ b. b || c.args.sets_lower) c.if-place-lowered.false
