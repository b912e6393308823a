-- Factors that are being made, and what a call of the making answers.
use Rattle.std.specs.Prelude.{◌≡◌, ◌≤◌, length, All}
use Rattle.spec_model.specs.Kept.{row_limit}
use Rattle.spec_factor.specs.Factors.{Pair, Chosen}

-- factors in the making have at most 256 places, and the column of each of their pairs has an item for each place
pub record AreChosen (s : Chosen) : Type 0 where
  pub few : length s.columns ≤ row_limit
  pub long : All (λ (e : Pair). length e.column ≡ length s.columns) s.pairs
