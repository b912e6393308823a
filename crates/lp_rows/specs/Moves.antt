-- What flips and pivots do to rows, by the number of a position and the number of a column: the columns below n are
-- structural and logical, and the last number is the value of the basic column times the denominator of all bounds.
use Rattle.std.specs.Prelude.{◌≡◌, ◌≢◌, ℕ, zero, suc, ◌+◌, ◌<◌, List, [], ◌∷◌, length, All}
use Rattle.spec_exact.specs.Fraction.{ℚ, 0ℚ, ◌+ℚ◌, ◌-ℚ◌, ◌*ℚ◌, inverse}
use Rattle.spec_pivot.specs.Tableau.{pivot_row, pivoted}
use Rattle.lp_rows.specs.declared.fractions.Row.{Row}
use Rattle.lp_rows.specs.Row.{fraction_at}
use Rattle.lp_rows.specs.Shows.{IsRow}

-- the number of column k of a row, as a fraction
abbrev pub number_at : {T : Type 0} → (T → ℕ) → Row T → ℕ → ℚ
number_at value row k = fraction_at value row.numbers.items (value row.denominator) k

-- the number of column k of row i, as a fraction, and 0 where there is no such row
abbrev pub number_in : {T : Type 0} → (T → ℕ) → List (Row T) → ℕ → ℕ → ℚ
number_in value [] i k = 0ℚ
number_in value (row ∷ rows) zero k = number_at value row k
number_in value (row ∷ rows) (suc i) k = number_in value rows i k

-- the row `new` is `old` with a last number that is v less
pub record IsLess {T : Type 0} (value : T → ℕ) (n : ℕ) (v : ℚ) (old new : Row T) : Type 0 where
  pub row : IsRow value n new
  pub others : (k : ℕ) → k < n → number_at value new k ≡ number_at value old k
  pub last : number_at value new n ≡ number_at value old n -ℚ v

-- the row `new` is `old`, with a last number that is v less, divided by its number of column j
pub record IsScaled {T : Type 0} (value : T → ℕ) (n j : ℕ) (v : ℚ) (old new : Row T) : Type 0 where
  pub row : IsRow value n new
  pub others : (k : ℕ) → k < n → number_at value new k ≡ number_at value old k *ℚ inverse (number_at value old j)
  pub last : number_at value new n ≡ (number_at value old n -ℚ v) *ℚ inverse (number_at value old j)

-- the row `new` is `old` less the row `own` times old's number of column j
pub record IsCleared {T : Type 0} (value : T → ℕ) (n j : ℕ) (own old new : Row T) : Type 0 where
  pub row : IsRow value n new
  pub each : (k : ℕ) → k < n + 1 →
      number_at value new k ≡ number_at value old k -ℚ number_at value old j *ℚ number_at value own k

-- each row of `new` is that of `old` less the row `own` times its number of column j
pub record AreCleared {T : Type 0} (value : T → ℕ) (n j : ℕ) (own : Row T) (old new : List (Row T)) : Type 0 where
  pub len : length new ≡ length old
  pub rows : All (IsRow value n) new
  pub each : (i k : ℕ) → i < length old → k < n + 1 →
      number_in value new i k ≡ number_in value old i k -ℚ number_in value old i j *ℚ number_at value own k

-- each row of `new` is that of `old` with a last number that is less by v times its number of column j
pub record AreMoved {T : Type 0} (value : T → ℕ) (n j : ℕ) (v : ℚ) (old new : List (Row T)) : Type 0 where
  pub len : length new ≡ length old
  pub rows : All (IsRow value n) new
  pub others : (i k : ℕ) → i < length old → k < n → number_in value new i k ≡ number_in value old i k
  pub last : (i : ℕ) → i < length old →
      number_in value new i n ≡ number_in value old i n -ℚ number_in value old i j *ℚ v

-- by how much column j moves when the last number of row p comes to v: the difference over the row's number of column j
abbrev pub step_to : {T : Type 0} → (T → ℕ) → ℕ → ℕ → ℕ → ℚ → List (Row T) → ℚ
step_to value n p j v rows = (number_in value rows p n -ℚ v) *ℚ inverse (number_in value rows p j)

-- A pivot at position p in column j took the rows `old` to `new` and the reduced costs `cost` to `costs`. The column
-- that leaves comes to the value v, and column j goes on from the value w.
pub record AreTurned {T : Type 0} (value : T → ℕ) (n p j : ℕ) (v w : ℚ) (old new : List (Row T)) (cost costs : Row T) :
    Type 0 where
  pub len : length new ≡ length old
  pub rows : All (IsRow value n) new
  pub costs_row : IsRow value n costs
  pub entries : (i k : ℕ) → i < length old → k < n →
      number_in value new i k ≡ pivoted (number_in value old) p j i k
  pub own : number_in value new p n ≡ step_to value n p j v old +ℚ w
  pub last : (i : ℕ) → i < length old → i ≢ p →
      number_in value new i n ≡ number_in value old i n -ℚ number_in value old i j *ℚ step_to value n p j v old
  pub reduced : (k : ℕ) → k < n → number_at value costs k ≡
      number_at value cost k -ℚ number_at value cost j *ℚ pivot_row (number_in value old) p j k
