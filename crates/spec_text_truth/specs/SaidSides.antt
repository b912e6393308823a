-- What the lines behind a line `IIS` say of a model.
use Rattle.std.specs.Prelude.{ℕ, ◌≡◌, List, ◌++◌, length, map, All, decimal}
use Rattle.spec_model.specs.Model.{Model}
use Rattle.spec_iis.specs.declared.side.Side.{Side}
use Rattle.spec_iis.specs.Sides.{IsSide}
use Rattle.spec_iis.specs.Irreducible.{IsIrreducible}
use Rattle.spec_server.specs.Output.{ended_lines}
use Rattle.spec_commands.specs.IisOut.{side_line}

-- The bytes `behind` begin with the lines of as many sides of m, limits of rows and bounds of columns, as the text
-- `count` says. No point meets all of them, though each set of all but one is met by some point. No other sides of m,
-- as many as these, have these lines.
pub record SaysSides (m : Model) (count behind : List ℕ) : Type 0 where
  pub sides : List Side
  pub more : List ℕ
  pub counted : count ≡ decimal (length sides)
  pub listed : behind ≡ ended_lines (map (side_line m) sides) ++ more
  pub irreducible : IsIrreducible m sides
  pub no_others : (others : List Side) (rest : List ℕ) → length others ≡ length sides → All (IsSide m) others →
      behind ≡ ended_lines (map (side_line m) others) ++ rest → others ≡ sides
