-- The form has the model's rows and columns.
use Rattle.std.proofs.Common.{Some}
use Rattle.spec_exact.specs.Narrow.{number_limit}
use Rattle.spec_bas.proofs.FormSizes.{sized}
use Rattle.lp_text_commands.proofs.basis.lines.print_basis.Goals as goal

pub write-requires-clause-sizes : goal.write-requires-clause-sizes
write-requires-clause-sizes c = sized (Some number_limit) c.args.model.now c.args.form.now c.requires.formed
