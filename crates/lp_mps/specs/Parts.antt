-- Parts of steps.
use Rattle.std.specs.Prelude.{◌||◌, Ok, length, nat_lt}
use Rattle.spec_model.specs.declared.parts.Kind.{Kind}
use Rattle.spec_model.specs.declared.parts.SizeLimits.{SizeLimits}
use Rattle.spec_model.specs.Model.{Name}
use Rattle.spec_mps.specs.declared.fault.Code.TheVariants as code
use Rattle.spec_mps.specs.Checks.{Check, ◌>>=◌, must}
use Rattle.spec_mps.specs.Reader.{State, is_first, with_row}

-- the state with one more row, or with its objective, where the name is known to be valid and free; a fault where there
-- are too many rows
abbrev pub put_row : SizeLimits → State → Kind → Name → Check State
put_row limits s kind name =
    must (is_first s kind || nat_lt (length s.rows) limits.rows) code.Limit >>= λ _. Ok (with_row s kind name)
