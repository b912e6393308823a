-- The form has the model's rows and columns.
use Rattle.std.proofs.Common.{Some}
use Rattle.spec_exact.specs.Narrow.{number_limit}
use Rattle.spec_bas.proofs.FormSizes.{sized}
use Rattle.lp_text_commands.proofs.basis.stage.file_line.Goals as goal

pub feed-requires-clause-sizes : goal.feed-requires-clause-sizes
feed-requires-clause-sizes c = sized (Some number_limit) _ _ c.file.invariant.formed
