-- Steps of the dual simplex method with bounds on the variables. Numbers have no limit.
use Rattle.std.specs.Prelude.{◌≡◌, ℕ, ◌<◌, Option, Some}
use Rattle.spec_exact.specs.Fraction.{ℚ, ◌-ℚ◌, ◌*ℚ◌, 0ℚ, ◌≤ℚ◌, ◌<ℚ◌, abs_ℚ, inverse}
use Rattle.spec_exact.specs.Sums.{sum_below}
use Rattle.spec_pivot.specs.declared.status.Status.{Status}
use Rattle.spec_pivot.specs.declared.status.Status.TheVariants.{Basic, AtLower, AtUpper, AtZero}
use Rattle.spec_pivot.specs.declared.status.Way.{Way}
use Rattle.spec_pivot.specs.declared.status.Way.TheVariants.{Up, Down}
use Rattle.spec_pivot.specs.Tableau.{Matrix}
use Rattle.spec_pivot.specs.Simplex.{Bounds, IsFixed, IsInside, Table, sign, after_pivot}

-- ---- reduced costs

-- the reduced cost d suits the status, so that no move of the column lowers the cost: d is at least 0 at the lower
-- bound, at most 0 at the upper one, and 0 where there are no bounds. Of a basic column nothing is asked.
abbrev pub Suits : Status → ℚ → Type 0
Suits Basic d = Unit {0}
Suits AtLower d = 0ℚ ≤ℚ d
Suits AtUpper d = d ≤ℚ 0ℚ
Suits AtZero d = d ≡ 0ℚ

-- dual feasible: each of the n columns that is not fixed has a reduced cost that suits its status
abbrev pub IsDualFeasible : ℕ → Bounds → Table → Type 0
IsDualFeasible n b t = (k : ℕ) → k < n → ¬ (IsFixed b k) → Suits (t.status k) (t.reduced k)

-- of each of the n columns that has both bounds the lower one is at most the upper one
abbrev pub IsOrdered : ℕ → Bounds → Type 0
IsOrdered n b = (k : ℕ) (l u : ℚ) → k < n → b.lower k ≡ Some l → b.upper k ≡ Some u → l ≤ℚ u

-- ---- the column that leaves

-- the value v is past the bound c: below it as the lower one, if the way back is up, or above it as the upper one, if
-- it is down
abbrev pub IsPast : Way → Option ℚ → Option ℚ → ℚ → ℚ → Type 0
IsPast Up lower upper v c = (lower ≡ Some c) × (v <ℚ c)
IsPast Down lower upper v c = (upper ≡ Some c) × (c <ℚ v)

-- the status at the bound that a value comes back to: the lower one as it goes up, the upper one as it goes down
abbrev pub bound_behind : Way → Status
bound_behind Up = AtLower
bound_behind Down = AtUpper

-- the basic column at position p, one of m, is past its bound c, and has to go this way to come back
pub record Leaves (m : ℕ) (b : Bounds) (t : Table) (way : Way) (p : ℕ) (c : ℚ) : Type 0 where
  pub position : p < m
  pub past : IsPast way (b.lower (t.basic p)) (b.upper (t.basic p)) (t.value (t.basic p)) c

-- ---- the column that enters

-- the entry of column k in row p of the tableau, or its negative where the leaving column has to fall
abbrev pub row_of : Table → Way → ℕ → ℕ → ℚ
row_of t way p k = sign way *ℚ t.entry p k

-- A nonbasic column of this status can move so that the leaving column goes its way, where a is its entry in the row of
-- the leaving column, or the negative of that if it has to fall. At its lower bound a is below 0, at its upper one
-- above 0, without bounds not 0. A basic column never helps.
abbrev pub Helps : Status → ℚ → Type 0
Helps Basic a = ⊥
Helps AtLower a = a <ℚ 0ℚ
Helps AtUpper a = 0ℚ <ℚ a
Helps AtZero a = ¬ (a ≡ 0ℚ)

-- column k may enter as the column at position p goes this way: it is not fixed, and can move so that it helps
pub record IsCandidate (b : Bounds) (t : Table) (way : Way) (p k : ℕ) : Type 0 where
  pub not_fixed : ¬ (IsFixed b k)
  pub helps : Helps (t.status k) (row_of t way p k)

-- the ratio of column k: the magnitude of its reduced cost over that of its entry in row p, or 0 where the entry is 0.
-- If the tableau is dual feasible and a candidate k enters, the cost rises by so much for each unit that the column at
-- position p moves.
abbrev pub ratio : Table → ℕ → ℕ → ℚ
ratio t p k = abs_ℚ (t.reduced k) *ℚ inverse (abs_ℚ (t.entry p k))

-- column j, one of n, is a candidate to enter, and none has a smaller ratio
pub record IsCheapest (n : ℕ) (b : Bounds) (t : Table) (way : Way) (p j : ℕ) : Type 0 where
  pub in_range : j < n
  pub candidate : IsCandidate b t way p j
  pub least : (k : ℕ) → k < n → IsCandidate b t way p k → ratio t p j ≤ℚ ratio t p k

-- ---- the step

-- how far column j rises, so that the column at position p comes to c; below 0 where it falls
abbrev pub shift : Table → ℕ → ℕ → ℚ → ℚ
shift t p j c = (t.value (t.basic p) -ℚ c) *ℚ inverse (t.entry p j)

-- the tableau after a step of the dual method: column j takes the place of the column at position p,
-- which goes to its bound c
abbrev pub after_dual : ℕ → Table → Way → ℕ → ℕ → ℚ → Table
after_dual m t way p j c = after_pivot m t Up j p (shift t p j c) (bound_behind way)

-- ---- the ends

-- at the n values x the sum of each of the m rows of f is 0, and each value is within its bounds
pub record IsSolution (m n : ℕ) (f : Matrix) (b : Bounds) (x : ℕ → ℚ) : Type 0 where
  pub solves : (i : ℕ) → i < m → sum_below n (λ k. f i k *ℚ x k) ≡ 0ℚ
  pub within : (k : ℕ) → k < n → IsInside (b.lower k) (b.upper k) (x k)

-- a combination a of the m rows of f, and for each column with a_k not 0 the bound w_k that keeps a_k x_k at least at
-- a_k w_k, with the sum of all a_k w_k more than 0: so no values solve the rows within the bounds (Farkas)
pub record Refutes (m n : ℕ) (f : Matrix) (b : Bounds) (a w : ℕ → ℚ) : Type 0 where
  pub weights : ℕ → ℚ
  pub combined : (k : ℕ) → a k ≡ sum_below m (λ r. weights r *ℚ f r k)
  pub above : (k : ℕ) → k < n → 0ℚ <ℚ a k → b.lower k ≡ Some (w k)
  pub below : (k : ℕ) → k < n → a k <ℚ 0ℚ → b.upper k ≡ Some (w k)
  pub positive : 0ℚ <ℚ sum_below n (λ k. a k *ℚ w k)

-- complementary slackness: with a reduced cost above 0 the value is the lower bound, with one below 0 the upper bound
pub record IsComplementary (b : Bounds) (t : Table) (k : ℕ) : Type 0 where
  pub above : 0ℚ <ℚ t.reduced k → b.lower k ≡ Some (t.value k)
  pub below : t.reduced k <ℚ 0ℚ → b.upper k ≡ Some (t.value k)
