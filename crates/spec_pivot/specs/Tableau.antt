-- Rows of fractions, by the number of a row and the number of a column, and pivots on them.
use Rattle.std.specs.Prelude.{◌≡◌, ℕ, ◌<◌, cond, nat_eq}
use Rattle.spec_exact.specs.Fraction.{ℚ, ◌-ℚ◌, ◌*ℚ◌, 0ℚ, 1ℚ, inverse}
use Rattle.spec_exact.specs.Sums.{sum_below}

-- rows of fractions, as a function of a row and a column
abbrev pub Matrix : Type 0
Matrix = ℕ → ℕ → ℚ

-- row p divided by its entry in column j, as a function of the column; 0 in each column where that entry is 0
abbrev pub pivot_row : Matrix → ℕ → ℕ → ℕ → ℚ
pivot_row t p j k = t p k *ℚ inverse (t p j)

-- the rows after a pivot in row p and column j, where the entry is not 0: row p is divided by it, and each other row
-- loses the multiple of row p that makes its entry in column j 0
abbrev pub pivoted : Matrix → ℕ → ℕ → Matrix
pivoted t p j i k = cond (nat_eq i p) (pivot_row t p j k) (t i k -ℚ t i j *ℚ pivot_row t p j k)

-- the basic columns by position after a pivot: column j at position p, and at each other position the one that was
-- there
abbrev pub entered : (ℕ → ℕ) → ℕ → ℕ → ℕ → ℕ
entered basic p j i = cond (nat_eq i p) j (basic i)

-- each of the m rows of s is a combination of the m rows of t
abbrev pub Spans : ℕ → Matrix → Matrix → Type 0
Spans m s t = (w : Matrix) × ((i k : ℕ) → i < m → s i k ≡ sum_below m (λ r. w i r *ℚ t r k))

-- 1 where both numbers are the same, 0 elsewhere
abbrev pub delta : ℕ → ℕ → ℚ
delta i r = cond (nat_eq i r) 1ℚ 0ℚ

-- each of the m basic columns is 1 in its own row and 0 in all other rows
abbrev pub IsUnit : ℕ → Matrix → (ℕ → ℕ) → Type 0
IsUnit m t basic = (i r : ℕ) → i < m → r < m → t r (basic i) ≡ delta i r
