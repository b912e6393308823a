-- A pair of factors, held as the items of its column that are not 0.
use Rattle.std.specs.Prelude.{◌≡◌, ◌≢◌, ℕ, ◌<◌, ◌≤◌, List, length, get_or, All}
use Rattle.std.proofs.Common.{refl}
use Rattle.std.specs.Coded.{Coded, code_by, coded×, coded_ℕ, coded_list}
use Rattle.spec_exact.specs.Fraction.{ℚ, 0ℚ}
use Rattle.spec_exact.specs.Coded.{fraction_code}
use Rattle.spec_exact.specs.Narrow.{IsNarrow}
use Rattle.spec_model.specs.Model.{entry_of}
use Rattle.spec_model.specs.Kept.{AreEntries, row_limit}
use Rattle.spec_exact.specs.Run.{made}
use Rattle.spec_factor.specs.Factors.{Pair, Factors}

-- the pair at a place whose column has `rows` items: these entries, and 0 elsewhere
abbrev pub pair_of : ℕ → ℕ → List (ℕ × ℚ) → Pair
pair_of rows place entries = record { place = place; column = made rows (λ i. entry_of entries i) }

-- The items are the entries of a column that are not 0, in the order of their places, of at most 127 bits. The entry at
-- the pair's own place is `pivot`, which is not 0.
pub record IsEta (rows place : ℕ) (pivot : ℚ) (items : List (ℕ × ℚ)) : Type 0 where
  pub few : rows ≤ row_limit
  pub inside : place < rows
  pub entries : AreEntries rows items
  pub own : entry_of items place ≡ pivot
  pub not_zero : pivot ≢ 0ℚ
  pub narrow : All (λ e. IsNarrow e.1) items

-- how a pair is stored: as its place and its column, from which it is made again
abbrev pub pair_code : Coded Pair
pair_code =
    code_by (ℕ × List ℚ) (coded× coded_ℕ (coded_list fraction_code)) (λ e. (e.place, e.column))
    (λ p. record { place = p.0; column = p.1 }) (λ e. refl)

-- the items are the first n of a list that are not 0, with their places in order; each has at most 127 bits
pub record AreItems (n : ℕ) (column : List ℚ) (items : List (ℕ × ℚ)) : Type 0 where
  pub entries : AreEntries n items
  pub read : (i : ℕ) → i < n → entry_of items i ≡ get_or column i 0ℚ
  pub narrow : All (λ e. IsNarrow e.1) items

-- factors have at most 256 places, and the column of each of their pairs has an item for each place
pub record AreFactorsOf (s : Factors) : Type 0 where
  pub few : length s.basic ≤ row_limit
  pub columns : All (λ (e : Pair). length e.column ≡ length s.basic) s.pairs
