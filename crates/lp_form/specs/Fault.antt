-- Why a model has no form, as the code says it.
use Rattle.spec_exact.specs.Fraction.{ℚ}
use Rattle.spec_simplex.specs.declared.ends.FormFault.{FormFault}
use Rattle.spec_simplex.specs.declared.ends.FormFault.TheVariants as fault
use Rattle.lp_frac.specs.declared.stop.Stop.{Stop}
use Rattle.lp_form.specs.declared.fault.Clash.{Clash}
use Rattle.lp_frac.specs.declared.stop.Stop.TheVariants.{Cause, Past}

-- why a model has no form, as a stop of the code: the clash of a column as its cause, or the operation that was refused
abbrev pub stop_of : FormFault ℚ → Stop Clash
stop_of (fault.Clash j) = Cause (record { column = j })
stop_of (fault.Past p) = Past p
