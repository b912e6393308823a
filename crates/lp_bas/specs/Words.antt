-- The words of written cards.
use Rattle.std.specs.Prelude.{ℕ, List, codes}
use Rattle.spec_pivot.specs.declared.status.Status.{Status}
use Rattle.spec_pivot.specs.declared.status.Status.TheVariants.{Basic, AtLower, AtUpper, AtZero}

-- the word of a card of a column and a row, by the row's status: XU at its upper limit, else XL
abbrev pub pair_word : Status → List ℕ
pair_word Basic = codes "XL"
pair_word AtLower = codes "XL"
pair_word AtUpper = codes "XU"
pair_word AtZero = codes "XL"
