-- What the dual method needs of a tableau, so that its flips and pivots may be made.
use Rattle.std.specs.Prelude.{◌≡◌, ◌≢◌, ℕ, ◌<◌, length, true}
use Rattle.spec_exact.specs.Fraction.{ℚ, 0ℚ}
use Rattle.spec_pivot.specs.declared.status.Status.{Status}
use Rattle.spec_pivot.specs.declared.status.Status.TheVariants.{Basic}
use Rattle.spec_simplex.specs.Tableau.{Tableau, all_columns, entry_at, basic_at, status_at, lower_at, upper_at}
use Rattle.spec_simplex.specs.Step.{NamesBound, CanFlip}
use Rattle.spec_simplex.specs.declared.ends.DualEnd.{DualEnd}
use Rattle.spec_simplex.specs.declared.ends.DualEnd.TheVariants.{Optimal, Infeasible}
use Rattle.spec_simplex.specs.declared.ends.DualChoice.{DualChoice}
use Rattle.spec_simplex.specs.declared.ends.DualChoice.TheVariants.{End, Pivot}
use Rattle.spec_simplex.specs.Fit.{needs_flip_at}

-- column k is the basic one of some position
pub record HasPlace (t : Tableau) (k : ℕ) : Type 0 where
  pub place : ℕ
  pub inside : place < t.rows
  pub holds : basic_at t place ≡ k

-- each basic column has a position, and there are as many basic columns and statuses listed as positions and columns
pub record IsSeated (t : Tableau) : Type 0 where
  pub all_basic : length t.basic ≡ t.rows
  pub all_statuses : length t.status ≡ all_columns t
  pub places : (k : ℕ) → k < all_columns t → status_at t k ≡ Basic → HasPlace t k

-- each basic column has a position, and each column that needs its other bound may flip
pub record IsDualStart (t : Tableau) : Type 0 where
  pub seated : IsSeated t
  pub flips : (k : ℕ) → k < all_columns t → needs_flip_at t k ≡ true → CanFlip t k

-- a dual pivot may be made: column j is nonbasic, its entry at position p is not 0, and the column there has the bound
-- that it goes to
pub record CanEnter (t : Tableau) (p j : ℕ) (to : Status) : Type 0 where
  pub place : p < t.rows
  pub column : j < all_columns t
  pub nonbasic : status_at t j ≢ Basic
  pub entry : entry_at t p j ≢ 0ℚ
  pub bound : (v : ℚ) × NamesBound to (lower_at t (basic_at t p)) (upper_at t (basic_at t p)) v

-- if the end is an infeasible one, its position is one of the tableau's
abbrev pub IsPlace : Tableau → DualEnd → Type 0
IsPlace t Optimal = Unit {0}
IsPlace t (Infeasible p way) = p < t.rows

-- the dual choice can be carried out: an infeasible end names a position, and a pivot one at which its column can enter
abbrev pub CanTake : Tableau → DualChoice → Type 0
CanTake t (End end) = IsPlace t end
CanTake t (Pivot p j to) = CanEnter t p j to
