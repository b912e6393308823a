use Rattle.spec_truth.proofs.MadeEdits.{edit_then}
use Rattle.spec_truth.proofs.edits_answered_ok_are_made.Goals as goal

pub returns : goal.returns
returns c = edit_then
