-- The tableau of a basis, with which a warm start begins.
use Rattle.std.specs.Prelude.{◌≡◌, List, Some, Ok}
use Rattle.spec_exact.specs.Narrow.{number_limit}
use Rattle.spec_model.specs.Model.{Model}
use Rattle.spec_pivot.specs.declared.status.Status.{Status}
use Rattle.spec_simplex.specs.declared.ends.Fit.{Fit}
use Rattle.spec_simplex.specs.Form.{Form, form_of}
use Rattle.spec_simplex.specs.Tableau.{Tableau}
use Rattle.spec_simplex.specs.Eliminate.{IsBasisOf, start_from}
use Rattle.spec_simplex.specs.Fit.{fit_run}

-- t is the tableau of some basis of the model's form, and its fit is of this kind
pub record IsBegun (m : Model) (t : Tableau) (kind : Fit) : Type 0 where
  pub form : Form
  pub basis : List Status
  pub formed : form_of (Some number_limit) m ≡ Ok form
  pub fits : IsBasisOf form basis
  pub starts : start_from (Some number_limit) form basis ≡ Ok t
  pub fit : fit_run (Some number_limit) t ≡ Ok kind
