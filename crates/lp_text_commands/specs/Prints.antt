-- What is put after what was printed before.
use Rattle.std.specs.Prelude.{ℕ, ◌≡◌, ◌++◌, List}

-- the text `after` is `before` with an output that `Out` allows behind it
pub record Prints (Out : List ℕ → Type 0) (before after : List ℕ) : Type 0 where
  pub output : List ℕ
  pub is_output : Out output
  pub behind : after ≡ before ++ output
