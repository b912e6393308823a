-- Steps of the simplex method with bounds on the variables. Numbers have no limit.
use Rattle.std.specs.Prelude.{◌≡◌, ℕ, suc, ◌<◌, ◌⊎◌, Option, Some, None, IfSome, Bool, false, cond, nat_eq}
use Rattle.spec_exact.specs.Fraction.{ℚ, ◌+ℚ◌, ◌-ℚ◌, ◌*ℚ◌, neg_ℚ, 0ℚ, 1ℚ, ◌≤ℚ◌, ◌<ℚ◌}
use Rattle.spec_exact.specs.Sums.{sum_below}
use Rattle.spec_pivot.specs.declared.status.Status.{Status}
use Rattle.spec_pivot.specs.declared.status.Status.TheVariants.{Basic, AtLower, AtUpper, AtZero}
use Rattle.spec_pivot.specs.declared.status.Way.{Way}
use Rattle.spec_pivot.specs.declared.status.Way.TheVariants.{Up, Down}
use Rattle.spec_pivot.specs.Tableau.{Matrix, Spans, delta, IsUnit, pivot_row, pivoted, entered}

-- ---- bounds

-- the bounds of columns: a lower and an upper one for each, which may be absent, and whether it is barred from
-- entering, as artificial columns are
pub record Bounds : Type 0 where
  pub lower : ℕ → Option ℚ
  pub upper : ℕ → Option ℚ
  pub barred : ℕ → Bool

-- column k is fixed: both bounds are there, and equal
abbrev pub IsFixed : Bounds → ℕ → Type 0
IsFixed b k = (v : ℚ) × (b.lower k ≡ Some v) × (b.upper k ≡ Some v)

-- column k may enter: it is not barred, and not fixed
abbrev pub MayEnter : Bounds → ℕ → Type 0
MayEnter b k = (b.barred k ≡ false) × ¬ (IsFixed b k)

-- v is at least the lower bound, if there is one, and at most the upper bound, if there is one
pub record IsInside (l u : Option ℚ) (v : ℚ) : Type 0 where
  pub lower : IfSome l (λ k. k ≤ℚ v)
  pub upper : IfSome u (λ k. v ≤ℚ k)

-- the value v is where its status says: at that bound, or at 0 if there is no bound; of a basic one nothing is asked
abbrev pub Stands : Status → Option ℚ → Option ℚ → ℚ → Type 0
Stands Basic l u v = Unit {0}
Stands AtLower l u v = l ≡ Some v
Stands AtUpper l u v = u ≡ Some v
Stands AtZero l u v = (l ≡ None) × (u ≡ None) × (v ≡ 0ℚ)

-- ---- tableaus

-- a tableau by functions: the entries by position and column, the basic column of each position, and each column's
-- value, reduced cost and status
pub record Table : Type 0 where
  pub entry : Matrix
  pub basic : ℕ → ℕ
  pub value : ℕ → ℚ
  pub reduced : ℕ → ℚ
  pub status : ℕ → Status

-- d are reduced costs: the costs less a combination of the rows of f, and 0 in the basic columns
pub record AgreesWith (m : ℕ) (f : Matrix) (basic : ℕ → ℕ) (cost d : ℕ → ℚ) : Type 0 where
  pub weights : ℕ → ℚ
  pub less : (k : ℕ) → d k ≡ cost k -ℚ sum_below m (λ r. weights r *ℚ f r k)
  pub at_basic : (i : ℕ) → i < m → d (basic i) ≡ 0ℚ

-- t is a tableau of the m rows f over n columns with these costs and bounds. Its rows and those of f are combinations
-- of each other, its basic columns are unit columns and alone have the status `Basic`, and its reduced costs are of
-- these costs. Its values solve the rows, and each value stands where its status says.
pub record IsTableau (m n : ℕ) (f : Matrix) (cost : ℕ → ℚ) (b : Bounds) (t : Table) : Type 0 where
  pub in_range : (i : ℕ) → i < m → t.basic i < n
  pub forth : Spans m t.entry f
  pub back : Spans m f t.entry
  pub units : IsUnit m t.entry t.basic
  pub costs : AgreesWith m f t.basic cost t.reduced
  pub marked : (i : ℕ) → i < m → t.status (t.basic i) ≡ Basic
  pub placed : (k : ℕ) → k < n → t.status k ≡ Basic → (i : ℕ) × (i < m) × (t.basic i ≡ k)
  pub stands : (k : ℕ) → k < n → Stands (t.status k) (b.lower k) (b.upper k) (t.value k)
  pub solves : (i : ℕ) → i < m → sum_below n (λ k. f i k *ℚ t.value k) ≡ 0ℚ

-- each of the n values is within its bounds
abbrev pub IsWithin : ℕ → Bounds → Table → Type 0
IsWithin n b t = (k : ℕ) → k < n → IsInside (b.lower k) (b.upper k) (t.value k)

-- two tables give each of the first n columns the same status
abbrev pub SameStatuses : ℕ → Table → Table → Type 0
SameStatuses n t u = (k : ℕ) → k < n → t.status k ≡ u.status k

-- tableaus t and u of n columns have the same values, the same reduced costs, and for each basic column the same row,
-- at whatever position it stands in each
pub record SameTableau (m n : ℕ) (t u : Table) : Type 0 where
  pub values : (k : ℕ) → k < n → t.value k ≡ u.value k
  pub reduced : (k : ℕ) → t.reduced k ≡ u.reduced k
  pub rows : (r i : ℕ) → r < m → i < m → t.basic r ≡ u.basic i → (k : ℕ) → t.entry r k ≡ u.entry i k

-- ---- the entering column

-- a column of this status can move this way: up from its lower bound, down from its upper one, both ways if it has
-- none; a basic column never
abbrev pub CanMove : Way → Status → Type 0
CanMove Up AtLower = Unit {0}
CanMove Up AtZero = Unit {0}
CanMove Down AtUpper = Unit {0}
CanMove Down AtZero = Unit {0}
CanMove _ _ = ⊥

-- a column with the reduced cost d lowers the cost as it moves this way: up where d is below 0, down where d is above 0
abbrev pub Improves : Way → ℚ → Type 0
Improves Up d = d <ℚ 0ℚ
Improves Down d = 0ℚ <ℚ d

-- column k may enter, can move that way, and lowers the cost when it does
pub record IsEligible (b : Bounds) (t : Table) (way : Way) (k : ℕ) : Type 0 where
  pub may_enter : MayEnter b k
  pub status : CanMove way (t.status k)
  pub improves : Improves way (t.reduced k)

-- column j, one of n, is eligible to move this way, and no lesser column is eligible to move any way
pub record Enters (n : ℕ) (b : Bounds) (t : Table) (way : Way) (j : ℕ) : Type 0 where
  pub in_range : j < n
  pub eligible : IsEligible b t way j
  pub least : (k : ℕ) (w : Way) → k < j → ¬ (IsEligible b t w k)

-- ---- the move

-- 1 where a column rises, -1 where it falls
abbrev pub sign : Way → ℚ
sign Up = 1ℚ
sign Down = neg_ℚ 1ℚ

-- how each column moves while column j moves by one its way, and no other nonbasic column does
abbrev pub ray : ℕ → Table → Way → ℕ → ℕ → ℚ
ray m t way j k = sign way *ℚ (delta j k -ℚ sum_below m (λ i. delta (t.basic i) k *ℚ t.entry i j))

-- the value of column k once column j has moved by theta its way
abbrev pub moved : ℕ → Table → Way → ℕ → ℚ → ℕ → ℚ
moved m t way j theta k = t.value k +ℚ theta *ℚ ray m t way j k

-- column k, at v, is at the bound that it would pass if it moved by r
abbrev pub IsBlocked : Bounds → ℕ → ℚ → ℚ → Type 0
IsBlocked b k v r = ((0ℚ <ℚ r) × (b.upper k ≡ Some v)) ⊎ ((r <ℚ 0ℚ) × (b.lower k ≡ Some v))

-- the basic column at position i is at the bound that it would pass, after column j moves by theta
abbrev pub IsBlockedAt : ℕ → Bounds → Table → Way → ℕ → ℚ → ℕ → Type 0
IsBlockedAt m b t way j theta i =
    IsBlocked b (t.basic i) (moved m t way j theta (t.basic i)) (ray m t way j (t.basic i))

-- ---- steps

-- the statuses s, but with v for column k
abbrev pub status_set : (ℕ → Status) → ℕ → Status → ℕ → Status
status_set s k v i = cond (nat_eq i k) v (s i)

-- the tableau after column j has moved by theta and taken position p, whose column goes to the status `to`
abbrev pub after_pivot : ℕ → Table → Way → ℕ → ℕ → ℚ → Status → Table
after_pivot m t way j p theta to =
    record {
      entry = pivoted t.entry p j;
      basic = entered t.basic p j;
      value = moved m t way j theta;
      reduced = λ k. t.reduced k -ℚ t.reduced j *ℚ pivot_row t.entry p j k;
      status = status_set (status_set t.status (t.basic p) to) j Basic;
    }

-- the tableau after column j has moved by theta to the status `to`; the basis stays
abbrev pub after_flip : ℕ → Table → Way → ℕ → ℚ → Status → Table
after_flip m t way j theta to =
    record {
      entry = t.entry;
      basic = t.basic;
      value = moved m t way j theta;
      reduced = t.reduced;
      status = status_set t.status j to;
    }

-- A pivot of any method may be made so: column j is not basic, its entry at position p is not 0, and the move by theta
-- takes the column at p to where the status `to` says.
pub record Exchanges (m n : ℕ) (b : Bounds) (t : Table) (way : Way) (j p : ℕ) (theta : ℚ) (to : Status) : Type 0 where
  pub in_range : j < n
  pub nonbasic : ¬ (t.status j ≡ Basic)
  pub position : p < m
  pub entry : ¬ (t.entry p j ≡ 0ℚ)
  pub to_nonbasic : ¬ (to ≡ Basic)
  pub lands : Stands to (b.lower (t.basic p)) (b.upper (t.basic p)) (moved m t way j theta (t.basic p))

-- a flip of any method may be made so: column j is not basic,
-- and the move by theta takes it to where the status `to` says
pub record Crosses (m n : ℕ) (b : Bounds) (t : Table) (way : Way) (j : ℕ) (theta : ℚ) (to : Status) : Type 0 where
  pub in_range : j < n
  pub nonbasic : ¬ (t.status j ≡ Basic)
  pub to_nonbasic : ¬ (to ≡ Basic)
  pub lands : Stands to (b.lower j) (b.upper j) (moved m t way j theta j)

-- A pivot by Bland's rule: column j enters by it, and the move by theta, at least 0, brings the column at position p to
-- a bound, where it stays. Of the basic columns that it brings to a bound, this is the least.
pub record Pivots (m n : ℕ) (b : Bounds) (t : Table) (way : Way) (j p : ℕ) (theta : ℚ) (to : Status) : Type 0 where
  pub enters : Enters n b t way j
  pub position : p < m
  pub forward : 0ℚ ≤ℚ theta
  pub blocked : IsBlockedAt m b t way j theta p
  pub least : (i : ℕ) → i < m → t.basic i < t.basic p → ¬ (IsBlockedAt m b t way j theta i)
  pub to_nonbasic : ¬ (to ≡ Basic)
  pub lands : Stands to (b.lower (t.basic p)) (b.upper (t.basic p)) (moved m t way j theta (t.basic p))

-- a flip by Bland's rule: column j enters by it, and the move by theta, more than 0, takes it to its other bound
pub record Flips (m n : ℕ) (b : Bounds) (t : Table) (way : Way) (j : ℕ) (theta : ℚ) (to : Status) : Type 0 where
  pub enters : Enters n b t way j
  pub forward : 0ℚ <ℚ theta
  pub to_nonbasic : ¬ (to ≡ Basic)
  pub lands : Stands to (b.lower j) (b.upper j) (moved m t way j theta j)

-- whether a step exchanges two columns, or takes one column to its other bound
pub data StepKind : Type 0 where
  Pivot : StepKind
  Flip : StepKind

-- what a step does: its kind, which column moves, which way and how far, and the status `to`. In a pivot the column at
-- `position` gets that status, in a flip the column that moves.
pub record Label : Type 0 where
  pub kind : StepKind
  pub way : Way
  pub column : ℕ
  pub position : ℕ
  pub theta : ℚ
  pub to : Status

-- a pivot or a flip by Bland's rule, as this kind says, with the numbers of the label l, leads from t to u
abbrev pub StepOf : StepKind → ℕ → ℕ → Bounds → Label → Table → Table → Type 0
StepOf Pivot m n b l t u =
    Pivots m n b t l.way l.column l.position l.theta l.to × (u ≡ after_pivot m t l.way l.column l.position l.theta l.to)
StepOf Flip m n b l t u = Flips m n b t l.way l.column l.theta l.to × (u ≡ after_flip m t l.way l.column l.theta l.to)

-- a pivot or a flip by Bland's rule, as the label l says, leads from t to u
abbrev pub IsStep : ℕ → ℕ → Bounds → Label → Table → Table → Type 0
IsStep m n b l t u = StepOf l.kind m n b l t u

-- t 0 is a tableau of these rows, costs and bounds, and from each t i the step with the label l i leads to the next,
-- for len steps
pub record IsRun (m n : ℕ) (f : Matrix) (cost : ℕ → ℚ) (b : Bounds)
    (t : ℕ → Table) (l : ℕ → Label) (len : ℕ) : Type 0 where
  pub first : IsTableau m n f cost b (t 0)
  pub steps : (i : ℕ) → i < len → IsStep m n b (l i) (t i) (t (suc i))
