-- How many columns of a basis are basic.
use Rattle.std.specs.Prelude.{ℕ, List, length}
use Rattle.spec_pivot.specs.declared.status.Status.{Status}
use Rattle.spec_simplex.specs.Eliminate.{basics_below}

-- how many of the statuses are those of basic columns
abbrev pub basics : List Status → ℕ
basics statuses = basics_below statuses (length statuses)
