-- A card without a row: a column is at its upper bound, or where it does without a card.
use Rattle.std.specs.Prelude.{ℕ, not, is_some, Ok}
use Rattle.spec_model.specs.Model.{Model, Name}
use Rattle.spec_model.specs.Kept.{column_place}
use Rattle.spec_pivot.specs.declared.status.Status.TheVariants.{AtUpper}
use Rattle.spec_simplex.specs.Form.{Form, form_upper}
use Rattle.spec_bas.specs.declared.fault.BasCode.TheVariants as code
use Rattle.spec_exact.specs.Run.{◌>>=◌}
use Rattle.spec_bas.specs.Steps.{State, Check, need, must, is_marked, mark, lower_first}
use Rattle.lp_bas.specs.declared.marks.Stands.{Stands}
use Rattle.lp_bas.specs.declared.marks.Stands.TheVariants as stands

-- the state in which column j has this status, at its upper bound or its usual one; a fault where it is to be at an
-- upper bound that it lacks
abbrev pub put_step : Stands → Form → State → ℕ → Check State
put_step stands.AtUpper f s j = must (is_some (form_upper f j)) code.NoUpperBound >>= λ _. Ok (mark j AtUpper s)
put_step stands.Usual f s j = Ok (mark j (lower_first f j) s)

-- the state after a card that gives a named column this status; a fault where the name is unknown, the column has a
-- status from an earlier card, or is to be at an upper bound that it lacks
abbrev pub single_step : Stands → Model → Form → State → Name → Check State
single_step to m f s column =
    need (column_place m column) code.UnknownColumn >>= λ j.
    must (not (is_marked s j)) code.Repeated >>= λ _.
    put_step to f s j
