-- Models without a form.
use Rattle.std.specs.Prelude.{◌≡◌, Some, Err}
use Rattle.spec_exact.specs.Fraction.{ℚ}
use Rattle.spec_exact.specs.Narrow.{number_limit}
use Rattle.spec_model.specs.Model.{Model}
use Rattle.spec_simplex.specs.declared.ends.FormFault.{FormFault}
use Rattle.spec_simplex.specs.Form.{form_of}

-- the model has no form at 127 bits: bounds clash, or an operation is refused
abbrev pub HasNoForm : Model → Type 0
HasNoForm m = (why : FormFault ℚ) × (form_of (Some number_limit) m ≡ Err why)
