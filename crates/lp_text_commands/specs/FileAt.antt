-- Where the reading of a basis file stands, for a model and its form.
use Rattle.std.specs.Prelude.{ℕ, ◌≡◌, Some, Ok}
use Rattle.spec_exact.specs.Narrow.{number_limit}
use Rattle.spec_model.specs.declared.parts.SizeLimits.{SizeLimits}
use Rattle.spec_model.specs.Model.{Model}
use Rattle.spec_simplex.specs.Form.{Form, form_of}
use Rattle.spec_bas.specs.Steps as file
use Rattle.spec_bas.specs.Fits.{IsMarking}

-- the state of a reader of a basis file: the model, its limits and form, what the cards gave, and the number of lines
pub record FileAt : Type 0 where
  pub limits : SizeLimits
  pub model : Model
  pub form : Form
  pub state : file.State
  pub lines : ℕ

-- the form is that of the model, and the cards read so far give a basis of it
pub record IsFileAt (at : FileAt) : Type 0 where
  pub formed : form_of (Some number_limit) at.model ≡ Ok at.form
  pub marking : IsMarking at.form at.state
