use Rattle.spec_edit.proofs.Meanings.{with_coefficient-means, without_row-means, new_coefficient}
use Rattle.spec_edit.proofs.changes_have_their_meaning.Goals as goal

pub returns-clause-coefficient : goal.returns-clause-coefficient
returns-clause-coefficient c = with_coefficient-means

pub returns-clause-without_row : goal.returns-clause-without_row
returns-clause-without_row c = without_row-means

pub returns-clause-new_coefficients : goal.returns-clause-new_coefficients
returns-clause-new_coefficients c = new_coefficient
