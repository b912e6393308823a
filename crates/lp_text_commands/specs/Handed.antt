-- The model that is to be solved, and from where.
use Rattle.std.specs.Prelude.{◌≡◌, Option, Some, None, option_map, Ok, Err}
use Rattle.spec_exact.specs.Fraction.{ℚ}
use Rattle.spec_exact.specs.Narrow.{number_limit}
use Rattle.spec_model.specs.Model.{Model}
use Rattle.spec_simplex.specs.declared.ends.FormFault.{FormFault}
use Rattle.spec_simplex.specs.Form.{form_of}
use Rattle.spec_simplex.specs.Eliminate.{IsBasisOf}
use Rattle.spec_commands.specs.BasisOut as reading
use Rattle.lp_text_commands.specs.declared.basis.starting.Start.{Start}

-- a model and the basis from which it is solved, if there is one, as the definition has what is handed
abbrev pub handed_of : Model → Option Start → reading.Handed
handed_of m start = record { model = m; basis = option_map (λ (s : Start). s.basis) start }

-- the start has the form of the model and a basis of it; there is no start if and only if the model has no form
abbrev pub IsStartOf : Model → Option Start → Type 0
IsStartOf m None = (why : FormFault ℚ) × (form_of (Some number_limit) m ≡ Err why)
IsStartOf m (Some s) = (form_of (Some number_limit) m ≡ Ok s.form) × IsBasisOf s.form s.basis
