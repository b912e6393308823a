-- What factors stand for: a basis, as the matrix of its columns by rows and places. Numbers have no limit.
use Rattle.std.specs.Prelude.{◌≡◌, ◌≢◌, ℕ, ◌+◌, ◌<◌, List, [], ◌∷◌, length, get_or, All, cond, nat_eq}
use Rattle.spec_exact.specs.Fraction.{ℚ, 0ℚ, ◌-ℚ◌, ◌*ℚ◌, inverse}
use Rattle.spec_exact.specs.Sums.{sum_below}
use Rattle.spec_pivot.specs.declared.status.Status.{Status}
use Rattle.spec_pivot.specs.declared.status.Status.TheVariants.{Basic}
use Rattle.spec_pivot.specs.Tableau.{Matrix, delta}
use Rattle.spec_simplex.specs.Form.{Form}
use Rattle.spec_simplex.specs.Eliminate.{basis_at}
use Rattle.spec_factor.specs.Factors.{Pair, pair_at, Factors, column_entry}

-- one step of ftran in exact numbers: it applies to v the matrix that makes the pair's column, where that is not 0 at
-- the pair's place, the unit vector of this place
abbrev pub forward_one : Pair → (ℕ → ℚ) → ℕ → ℚ
forward_one e v i =
    cond (nat_eq i e.place) (v e.place *ℚ inverse (pair_at e e.place))
    (v i -ℚ pair_at e i *ℚ (v e.place *ℚ inverse (pair_at e e.place)))

-- ftran in exact numbers: v after the steps of all pairs, of which the first pair's comes first
abbrev pub forward : List Pair → (ℕ → ℚ) → ℕ → ℚ
forward [] v = v
forward (e ∷ es) v = forward es (forward_one e v)

-- the pair's place is one of the m places, and its column is not 0 there
pub record IsPair (m : ℕ) (e : Pair) : Type 0 where
  pub place : e.place < m
  pub pivot : pair_at e e.place ≢ 0ℚ

-- The pairs stand for the basis that has in each place s the column `basis r s` by rows r: ftran makes each of its
-- columns the unit vector of its place. Each pair has one of the m places and is not 0 there.
pub record StandsFor (m : ℕ) (pairs : List Pair) (basis : Matrix) : Type 0 where
  pub sound : All (IsPair m) pairs
  pub units : (s i : ℕ) → s < m → i < m → forward pairs (λ r. basis r s) i ≡ delta s i

-- the list z, with a number for each of the m places, solves basis * z = v, where v is by rows, and no other numbers do
pub record SolvesColumns (m : ℕ) (basis : Matrix) (v z : List ℚ) : Type 0 where
  pub all : length z ≡ m
  pub solves : (r : ℕ) → r < m → sum_below m (λ s. basis r s *ℚ get_or z s 0ℚ) ≡ get_or v r 0ℚ
  pub only : (x : ℕ → ℚ) → ((r : ℕ) → r < m → sum_below m (λ s. basis r s *ℚ x s) ≡ get_or v r 0ℚ) → (s : ℕ) → s < m →
      x s ≡ get_or z s 0ℚ

-- the list y, with a number for each of the m rows, solves y * basis = c, where c is by places, and no other numbers do
pub record SolvesRows (m : ℕ) (basis : Matrix) (c y : List ℚ) : Type 0 where
  pub all : length y ≡ m
  pub solves : (s : ℕ) → s < m → sum_below m (λ r. get_or y r 0ℚ *ℚ basis r s) ≡ get_or c s 0ℚ
  pub only : (x : ℕ → ℚ) → ((s : ℕ) → s < m → sum_below m (λ r. x r *ℚ basis r s) ≡ get_or c s 0ℚ) → (r : ℕ) → r < m →
      x r ≡ get_or y r 0ℚ

-- the basis matrix in which the column of place p is replaced by `column`, a list by rows
abbrev pub with_column : Matrix → ℕ → List ℚ → Matrix
with_column basis p column r s = cond (nat_eq s p) (get_or column r 0ℚ) (basis r s)

-- ---- bases of a form

-- the basis matrix, by rows and places: in each place the column of the form's equations whose number `basic` has
-- there, and column 0 past the end of `basic`
abbrev pub basis_of : Form → List ℕ → Matrix
basis_of f basic r s = column_entry f r (get_or basic s 0)

-- s are factors of the basic columns of a basis: each basic column has one of the f.rows places, and the pairs stand
-- for the matrix of these columns
pub record AreFactors (f : Form) (basis : List Status) (s : Factors) : Type 0 where
  pub all : length s.basic ≡ f.rows
  pub in_range : (p : ℕ) → p < f.rows → get_or s.basic p 0 < f.cols + f.rows
  pub marked : (p : ℕ) → p < f.rows → basis_at basis (get_or s.basic p 0) ≡ Basic
  pub placed : (k : ℕ) → k < f.cols + f.rows → basis_at basis k ≡ Basic →
      (p : ℕ) × (p < f.rows) × (get_or s.basic p 0 ≡ k)
  pub stands : StandsFor f.rows s.pairs (basis_of f s.basic)

-- the basic columns of a basis are dependent: one of them, as a column of the form's equations, is a combination of
-- basic columns of lesser numbers
pub record AreDependent (f : Form) (basis : List Status) : Type 0 where
  pub column : ℕ
  pub in_range : column < f.cols + f.rows
  pub basic : basis_at basis column ≡ Basic
  pub weights : ℕ → ℚ
  pub others : (k : ℕ) → weights k ≢ 0ℚ → (k < column) × (basis_at basis k ≡ Basic)
  pub combines : (r : ℕ) → r < f.rows →
      column_entry f r column ≡ sum_below (f.cols + f.rows) (λ k. weights k *ℚ column_entry f r k)
