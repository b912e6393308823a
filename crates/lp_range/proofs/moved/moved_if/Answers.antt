-- A column that is moved has an entry.
use Rattle.std.proofs.Common.{sym, ◌∙◌}
use Rattle.lp_range.proofs.Ranged.{moved_entry}
use Rattle.lp_range.proofs.moved.moved_if.Goals as goal

pub moved-requires-clause-entry : goal.moved-requires-clause-entry
moved-requires-clause-entry c =
    moved_entry c.args.tab.now c.args.at.position c.args.at.column (sym c.is_moved.ensures ∙ c.if-is_moved.true)
