-- With which numbers a basis stays optimal.
use Rattle.std.specs.Prelude.{◌≡◌, List, None, Ok}
use Rattle.spec_exact.specs.Fraction.{ℚ, ◌+ℚ◌, ◌-ℚ◌, ◌*ℚ◌}
use Rattle.spec_model.specs.Model.{Model}
use Rattle.spec_model.specs.Truth.{IsOptimal}
use Rattle.spec_check.specs.declared.certificate.Certificate.TheVariants.{Optimal}
use Rattle.spec_check.specs.Checks.{Checks}
use Rattle.spec_pivot.specs.declared.status.Status.{Status}
use Rattle.spec_pivot.specs.Simplex.{IsInside}
use Rattle.spec_simplex.specs.Form.{Form, form_of}
use Rattle.spec_simplex.specs.Eliminate.{IsBasisOf, start_from}
use Rattle.spec_simplex.specs.Tableau.{Tableau}
use Rattle.spec_runs.specs.Cold.{point, multipliers}
use Rattle.spec_range.specs.declared.range.Ends.{Ends}
use Rattle.spec_range.specs.declared.range.Range.{Range}

-- the model has a form without a limit, the basis is one of it, and the point and multipliers of its tableau show that
-- this point is optimal in the model
pub record Keeps (m : Model) (basis : List Status) : Type 0 where
  pub form : Form
  pub formed : form_of None m ≡ Ok form
  pub fits : IsBasisOf form basis
  pub tableau : Tableau
  pub started : start_from None form basis ≡ Ok tableau
  pub checks : Checks m (Optimal (point tableau) (multipliers tableau))

-- the number t is in the span of the basis: in the model that has t in place of one number, `with_number t`, the basis
-- shows that its point is optimal
abbrev pub Span : (ℚ → Model) → List Status → ℚ → Type 0
Span with_number basis t = Keeps (with_number t) basis

-- t is at least the low end, if there is one, and at most the high end, if there is one
abbrev pub IsIn : Ends ℚ → ℚ → Type 0
IsIn e t = IsInside e.low e.high t

-- The range of a number that is now c, in a model with the optimal value v: it has exactly the numbers of the basis's
-- span. With each number t of them the optimal value is v plus the slope times t less c.
pub record IsRange (with_number : ℚ → Model) (basis : List Status) (c v : ℚ) (r : Range ℚ) : Type 0 where
  pub inside : (t : ℚ) → Span with_number basis t → IsIn r.ends t
  pub whole : (t : ℚ) → IsIn r.ends t → Span with_number basis t
  pub value : (t : ℚ) → IsIn r.ends t → IsOptimal (with_number t) (v +ℚ (t -ℚ c) *ℚ r.slope)
