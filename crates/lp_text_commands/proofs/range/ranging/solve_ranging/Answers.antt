-- The basis that the solve leaves keeps the model.
use Rattle.lp_text_commands.proofs.Ranging.{keeps_at_end}
use Rattle.lp_text_commands.proofs.range.ranging.solve_ranging.Goals as goal

pub ranging_behind-requires-clause-keeps : goal.ranging_behind-requires-clause-keeps
ranging_behind-requires-clause-keeps c =
    keeps_at_end c.args.model.now _ _ c.in_ok-end.ensures
