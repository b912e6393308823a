-- What a range needs of a tableau, and from what ranges start.
use Rattle.std.specs.Prelude.{◌≡◌, ℕ, ◌<◌, List, Some, Ok}
use Rattle.spec_exact.specs.Narrow.{number_limit}
use Rattle.spec_exact.specs.Run.{Run, refused_as}
use Rattle.spec_model.specs.Model.{Model}
use Rattle.spec_pivot.specs.declared.status.Status.{Status}
use Rattle.spec_pivot.specs.declared.status.Status.TheVariants.{Basic}
use Rattle.spec_simplex.specs.declared.ends.StartStop.TheVariants as stop
use Rattle.spec_simplex.specs.Form.{Form, form_of}
use Rattle.spec_simplex.specs.Tableau.{Tableau, all_columns, status_at}
use Rattle.spec_simplex.specs.Dual.{place_of}
use Rattle.spec_simplex.specs.Eliminate.{start_from}
use Rattle.spec_range.specs.Span.{Keeps}

-- the position of each basic column of the tableau is one of its rows
abbrev pub IsSeated : Tableau → Type 0
IsSeated t = (k : ℕ) → k < all_columns t → status_at t k ≡ Basic → place_of t k < t.rows

-- what ranges start from: the tableau of a basis, or the operation that is refused in making it
abbrev pub Start : Type 0
Start = Run Tableau

-- the form is that of some model that the basis keeps, so that it shows an optimum of it
abbrev pub IsKept : Form → List Status → Type 0
IsKept f basis = (m : Model) × (form_of (Some number_limit) m ≡ Ok f) × Keeps m basis

-- `start` is what starting from the basis gives: its tableau, or the refusal of an operation; the basis is not singular
abbrev pub IsStart : Form → List Status → Start → Type 0
IsStart f basis start = start_from (Some number_limit) f basis ≡ refused_as stop.Past start

-- the form is the model's, the basis keeps the model, and `start` is its tableau, or the refusal of that
pub record IsFrom (m : Model) (f : Form) (basis : List Status) (start : Start) : Type 0 where
  pub formed : form_of (Some number_limit) m ≡ Ok f
  pub keeps : Keeps m basis
  pub is_start : IsStart f basis start
