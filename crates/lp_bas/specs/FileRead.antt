-- A basis file that is read line by line.
use Rattle.std.specs.Prelude.{ℕ}
use Rattle.spec_bas.specs.Steps.{State}

-- the state of a reader of a basis file, and the number of lines that it has read
pub record FileRead : Type 0 where
  pub state : State
  pub lines : ℕ
