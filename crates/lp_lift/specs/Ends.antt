-- What a step from a basis ends with.
use Rattle.std.specs.Prelude.{⊤}
use Rattle.spec_model.specs.Model.{Model}
use Rattle.spec_check.specs.Certificate.{IsFor}
use Rattle.lp_lift.specs.declared.lifted.Step.{Step}
use Rattle.lp_lift.specs.declared.lifted.Step.TheVariants.{Moved, Ended, Lost}

-- if the step ended with a certificate, that has the model's sizes, whatever it shows; of other steps nothing is asked
abbrev pub EndsFor : Model → Step → Type 0
EndsFor m Moved = ⊤
EndsFor m (Ended c) = IsFor m c
EndsFor m Lost = ⊤
