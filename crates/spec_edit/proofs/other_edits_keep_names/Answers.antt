use Rattle.spec_edit.proofs.EditNames.{edited-names}
use Rattle.spec_edit.proofs.other_edits_keep_names.Goals as goal

pub returns : goal.returns
returns c = edited-names
