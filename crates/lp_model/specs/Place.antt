-- Where the entry of a row stands among those of a column, or belongs.
use Rattle.std.specs.Prelude.{ℕ, ◌≡◌, ◌<◌, ◌≤◌, ◌+◌, List, length, take, drop, All, Result, Ok, Err}
use Rattle.std.specs.List.{HoldsAt}
use Rattle.spec_exact.specs.Fraction.{ℚ}

-- all entries of `front` are of rows before this one, and all of `back` of rows behind it
pub record IsSplit (row : ℕ) (front back : List (ℕ × ℚ)) : Type 0 where
  pub before : All (λ e. e.0 < row) front
  pub behind : All (λ e. row < e.0) back

-- the entry of this row stands at place k, between those of rows before it and those of rows behind it
pub record StandsAt (row k : ℕ) (entries : List (ℕ × ℚ)) : Type 0 where
  pub inside : k < length entries
  pub here : HoldsAt (λ e. e.0 ≡ row) entries k
  pub split : IsSplit row (take k entries) (drop (k + 1) entries)

-- this row has no entry, and one would stand at place k, between those of rows before it and those of rows behind it
pub record BelongsAt (row k : ℕ) (entries : List (ℕ × ℚ)) : Type 0 where
  pub inside : k ≤ length entries
  pub split : IsSplit row (take k entries) (drop k entries)

-- what a search for the row's entry answers: the place where it stands, or as an error the place where it belongs
abbrev pub IsPlace : ℕ → List (ℕ × ℚ) → Result ℕ ℕ → Type 0
IsPlace row entries (Ok k) = StandsAt row k entries
IsPlace row entries (Err k) = BelongsAt row k entries
