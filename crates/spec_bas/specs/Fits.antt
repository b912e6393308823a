-- That a form belongs to a model, and that what was read of a file gives a basis of the form.
use Rattle.std.specs.Prelude.{◌≡◌, ◌+◌, length}
use Rattle.spec_model.specs.Model.{Model, width, height}
use Rattle.spec_simplex.specs.Form.{Form}
use Rattle.spec_simplex.specs.Eliminate.{IsBasisOf}
use Rattle.spec_bas.specs.Steps.{State, marked_basis}

-- the form has as many rows as the model, and as many structural columns as the model has columns
pub record HasSizeOf (m : Model) (f : Form) : Type 0 where
  pub rows : f.rows ≡ height m
  pub cols : f.cols ≡ width m

-- The state has a status or none for each column of the form, structural or logical. With the usual status for each
-- column that has none, these are a basis of the form.
pub record IsMarking (f : Form) (s : State) : Type 0 where
  pub all : length s.marks ≡ f.cols + f.rows
  pub fits : IsBasisOf f (marked_basis f s)
