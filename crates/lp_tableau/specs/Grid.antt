-- Rows that are kept one after the other.
use Rattle.std.specs.Prelude.{◌≡◌, ℕ, ◌+◌, ◌*◌, ◌<◌, ◌≤◌, zero, suc, List}
use Rattle.std.specs.Prelude.{[], ◌∷◌, ◌++◌, length, take, drop, get_or, All}
use Rattle.spec_exact.specs.Fraction.{ℚ, 0ℚ}
use Rattle.spec_exact.specs.Laws.{IsWithin}
use Rattle.spec_exact.specs.Narrow.{number_limit}
use Rattle.spec_simplex.specs.Tableau.{at_place}

-- rows of fractions, each column by column
abbrev pub Rows : Type 0
Rows = List (List ℚ)

-- the first m rows of n items each in a list that has its rows one after the other
abbrev pub rows_of : ℕ → ℕ → List ℚ → List (List ℚ)
rows_of n zero items = []
rows_of n (suc m) items = take n items ∷ rows_of n m (drop n items)

-- the rows f 0 .. f (m - 1), one after the other
abbrev pub flat : ℕ → (ℕ → List ℚ) → List ℚ
flat zero f = []
flat (suc m) f = flat m f ++ f m

-- the list has m times n items, for m rows of n, and these are no more than a tableau has: 256 and 1,024
pub record IsBlock (m n : ℕ) (items : List ℚ) : Type 0 where
  pub few_rows : m ≤ 256
  pub few_columns : n ≤ 1024
  pub size : length items ≡ m * n

-- there are m rows, each of n items
pub record IsGrid (m n : ℕ) (rows : List (List ℚ)) : Type 0 where
  pub height : length rows ≡ m
  pub width : All (λ row. length row ≡ n) rows

-- the list is a block of m rows of n items, each of which is within 127 bits
pub record IsHeld (m n : ℕ) (items : List ℚ) : Type 0 where
  pub block : IsBlock m n items
  pub narrow : All (IsWithin number_limit) items

-- each item of the rows is within 127 bits
pub record IsNarrowGrid (rows : List (List ℚ)) : Type 0 where
  pub each : (i k : ℕ) → IsWithin number_limit (at_place rows i k)

-- ---- the columns in which a row is not 0

-- the row is 0 in each column from a on that is below b
abbrev pub ZeroFrom : List ℚ → ℕ → ℕ → Type 0
ZeroFrom row a b = (k : ℕ) → a ≤ k → k < b → get_or row k 0ℚ ≡ 0ℚ

-- k is one of n columns, from a on, and the row is 0 in those from a up to k; of column k itself nothing is asked
pub record IsNext (row : List ℚ) (a k n : ℕ) : Type 0 where
  pub from : a ≤ k
  pub inside : k < n
  pub before : ZeroFrom row a k

-- the columns of the list rise, from a on and below n, and in all other columns from a on and below n the row is 0
abbrev pub Covers : List ℚ → ℕ → ℕ → List ℕ → Type 0
Covers row a n [] = ZeroFrom row a n
Covers row a n (k ∷ ks) = IsNext row a k n × Covers row (k + 1) n ks

-- the columns of the list rise and are below n, and in all others of the first n the row is 0
pub record IsListed (row : List ℚ) (n : ℕ) (spots : List ℕ) : Type 0 where
  pub covers : Covers row 0 n spots
