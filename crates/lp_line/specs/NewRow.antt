-- A new row, of the words after its command word.
use Rattle.std.specs.Prelude.{ℕ, Some, None, Ok, List}
use Rattle.spec_model.specs.Model.{Name}
use Rattle.spec_edit.specs.declared.edit.Edit.TheVariants.{AddRow}
use Rattle.spec_edit.specs.Edited.{ExactEdit}
use Rattle.spec_server.specs.EditCommand.{Reads, ◌>>=◌, kind_in, number_in, new_range_in}

-- the edit that adds a row without a range, by the words for its name, kind and right side; or the line's fault
abbrev pub plain_row : Name → List ℕ → List ℕ → Reads ExactEdit
plain_row name kind rhs = kind_in kind >>= λ k. number_in rhs >>= λ b. Ok (AddRow name k b None)

-- the edit that adds a row with a range, by the words for its name, kind, right side and range; or the line's fault
abbrev pub ranged_row : Name → List ℕ → List ℕ → List ℕ → Reads ExactEdit
ranged_row name kind rhs range =
    kind_in kind >>= λ k. number_in rhs >>= λ b. new_range_in k range >>= λ r. Ok (AddRow name k b (Some r))
