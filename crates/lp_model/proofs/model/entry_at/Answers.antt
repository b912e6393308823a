use Rattle.std.proofs.Common.{◌∙◌}
use Rattle.lp_model.proofs.Halved.{entry_there, entry_none}
use Rattle.lp_model.proofs.model.entry_at.Goals as goal

pub returns-in-Ok : goal.returns-in-Ok
returns-in-Ok c = entry_there c.args.i c.in-Ok.place c.args.entries.now c.index-entries-place.result c.in-Ok.ensures

pub returns-in-Err : goal.returns-in-Err
returns-in-Err c = c.zero.ensures ∙ entry_none c.args.i c.in-Err.field-0 c.args.entries.now c.in-Err.ensures
