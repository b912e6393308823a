-- An edit that adds and removes no row and no column leaves the names.
use Rattle.std.proofs.Common.{◌≡◌, ℕ, ◌<◌, false, Ok, refl, subst, ⊎_elim}
use Rattle.spec_exact.specs.Fraction.{ℚ}
use Rattle.spec_model.specs.Model.{Model, Name, ExactRow, ExactColumn, width, height, row, column}
use Rattle.spec_edit.specs.declared.edit.Edit.TheVariants.{AddRow, DelRow, AddCol, DelCol, SetCost}
use Rattle.spec_edit.specs.declared.edit.Edit.TheVariants.{SetCoef, SetRhs, SetRange, SetBound, SetSense}
use Rattle.spec_edit.specs.Changes.{changed_row, changed_column, with_entry, with_cost}
use Rattle.spec_edit.specs.Changes.{with_coefficient, with_bounds, with_sense}
use Rattle.spec_edit.specs.Edited.{ExactEdit, with_right_side, edited}
use Rattle.spec_edit.specs.Meaning.{adds_or_removes, KeepsNames}
use Rattle.spec_edit.proofs.NameLemmas.{row_names-changed, column_names-changed}
use Rattle.spec_edit.proofs.Searches.{same_ok, at_column, at_entry, right_side-ok, range-ok}

-- a change of one row that leaves the row's name leaves all names of the model
at_a_row : (m : Model) (i : ℕ) (change : ExactRow → ExactRow) → i < height m →
    (change (row m i)).name ≡ (row m i).name → KeepsNames m (changed_row change m i)
at_a_row m i change l e = record { objective = refl; rows = row_names-changed m i change l e; columns = refl }

-- a change of one column that leaves the column's name leaves all names of the model
at_a_column : (m : Model) (j : ℕ) (change : ExactColumn → ExactColumn) → j < width m →
    (change (column m j)).name ≡ (column m j).name → KeepsNames m (changed_column change m j)
at_a_column m j change l e = record { objective = refl; rows = refl; columns = column_names-changed m j change l e }

-- a new right side of a row or of the objective leaves all names of the model
right_side-names : (m n : Model) (name : Name) (v : ℚ) → with_right_side m name v ≡ Ok n → KeepsNames m n
right_side-names m n name v h =
    ⊎_elim
    (λ e. subst (KeepsNames m) e (record { objective = refl; rows = refl; columns = refl }))
    (λ s. subst (KeepsNames m) s.model (at_a_row m s.place (λ (r : ExactRow). record r { rhs = v }) s.inside refl))
    (right_side-ok m n name v h)

-- an accepted edit that adds or removes no row and no column leaves all names
pub edited-names : (m n : Model) (e : ExactEdit) → adds_or_removes e ≡ false → edited m e ≡ Ok n → KeepsNames m n
unfolding edited
edited-names m n (AddRow name kind rhs range) other h = absurd (cc)
edited-names m n (DelRow name) other h = absurd (cc)
edited-names m n (AddCol name cost pairs) other h = absurd (cc)
edited-names m n (DelCol name) other h = absurd (cc)
edited-names m n (SetCost name v) other h =
    let s = at_column m n name (λ j. with_cost m j v) h in
    subst (KeepsNames m) s.model (at_a_column m s.place (λ (c : ExactColumn). record c { cost = v }) s.inside refl)
edited-names m n (SetCoef row column v) other h =
    let s = at_entry m n row column (λ i j. with_coefficient m i j v) h in
    subst (KeepsNames m) s.model (at_a_column m s.column
    (λ (c : ExactColumn). record c { entries = with_entry s.row v c.entries }) s.column_inside refl)
edited-names m n (SetRhs name v) other h = right_side-names m n name v h
edited-names m n (SetRange name range) other h =
    let s = range-ok m n name range h in
    subst (KeepsNames m) s.model (at_a_row m s.place (λ (r : ExactRow). record r { range = range }) s.inside refl)
edited-names m n (SetBound name bounds) other h =
    let s = at_column m n name (λ j. with_bounds m j bounds) h in
    subst (KeepsNames m) s.model
    (at_a_column m s.place (λ (c : ExactColumn). record c { lower = bounds.lower; upper = bounds.upper }) s.inside refl)
edited-names m n (SetSense sense) other h =
    subst (KeepsNames m) (same_ok (with_sense m sense) n h) (record { objective = refl; rows = refl; columns = refl })
