-- Two tableaus of one basis, and a state over factors beside a tableau: what is the same in both, where positions may
-- differ.
use Rattle.std.specs.Prelude.{◌≡◌, ℕ, ◌+◌, ◌<◌, List, [], length, get_or, map}
use Rattle.spec_exact.specs.Fraction.{ℚ, 0ℚ}
use Rattle.spec_pivot.specs.declared.status.Status.TheVariants.{Basic}
use Rattle.spec_simplex.specs.declared.ends.Choice.{Choice}
use Rattle.spec_simplex.specs.declared.ends.Choice.TheVariants.{End, Flip, Pivot}
use Rattle.spec_simplex.specs.Form.{Form}
use Rattle.spec_simplex.specs.Start.{cost_at}
use Rattle.spec_simplex.specs.Tableau.{Tableau, all_columns, basic_at, status_at}
use Rattle.spec_factor.specs.Factors.{Pair}
use Rattle.spec_factor.specs.Basis.{StandsFor, basis_of}
use Rattle.spec_factor.specs.Revised.{Revised, factor_column}

-- choice d at tableau u does what choice c does at tableau t: the same end, the same flip, or a pivot with the same two
-- columns, move and bound, whose position may be another
abbrev pub SameChoice : Tableau → Tableau → Choice ℚ → Choice ℚ → Type 0
SameChoice t u (End end) d = d ≡ End end
SameChoice t u (Flip j) d = d ≡ Flip j
SameChoice t u (Pivot p j theta to) d =
    (q : ℕ) × (q < u.rows) × (basic_at t p ≡ basic_at u q) × (d ≡ Pivot q j theta to)

-- the basic columns of t stand in the places of `basic`, each in one, and the pairs stand for their columns of the
-- form's equations, with an artificial as its row's logical
pub record Places (f : Form) (t : Tableau) (basic : List ℕ) (pairs : List Pair) : Type 0 where
  pub all : length basic ≡ f.rows
  pub in_range : (p : ℕ) → p < f.rows → get_or basic p 0 < all_columns t
  pub marked : (p : ℕ) → p < f.rows → status_at t (get_or basic p 0) ≡ Basic
  pub placed : (k : ℕ) → k < all_columns t → status_at t k ≡ Basic → (p : ℕ) × (p < f.rows) × (get_or basic p 0 ≡ k)
  pub stands : StandsFor f.rows pairs (basis_of f (map (λ k. factor_column t k) basic))

-- the tableau without its rows and reduced costs, and with these basic columns
abbrev pub bare_with : Tableau → List ℕ → Tableau
bare_with t basic = record t { entries = []; basic = basic; reduced = [] }

-- the state over factors with the values, statuses and bounds of the columns of t, these basic columns by place, these
-- pairs and this count of replacements
abbrev pub state : Tableau → List ℕ → List Pair → ℕ → Revised
state t basic pairs replaced = record { bare = bare_with t basic; pairs = pairs; replaced = replaced }

-- the state s over factors goes with the tableau t: it has the values, statuses and bounds of t, and factors of the
-- basic columns of t, whose places may be others than the positions in t
pub record GoesWith (f : Form) (t : Tableau) (s : Revised) : Type 0 where
  pub basic : List ℕ
  pub pairs : List Pair
  pub replaced : ℕ
  pub same : s ≡ state t basic pairs replaced
  pub places : Places f t basic pairs

-- a form with a cost for each column, whose logicals cost 0, as that of each model
pub record HasCosts (f : Form) : Type 0 where
  pub all : length f.cost ≡ f.cols + f.rows
  pub free : (i : ℕ) → i < f.rows → cost_at f.cost (f.cols + i) ≡ 0ℚ
