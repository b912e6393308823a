-- The rule in plain words: each claimed place is held by one view or done, and a done place is owned by one view.
use Rattle.std.specs.Prelude.{◌≡◌, ◌≢◌, ℕ, ◌<◌, ◌≤◌, ◌⊎◌, List, length, Some}
use mathlib.Core.Option.{some}
use lib.ListN.{get_elem?}
use Rattle.atomic_table.specs.Table.{State}
use Rattle.basis_board.specs.declared.seats.View.{View}
use Rattle.spec_board.specs.Words.{IsWellFormed}
use Rattle.basis_board.specs.Board.{Has, times, count, done, Shows, holding}
use Rattle.basis_board.specs.Rule.{Kept}

-- f is 1 of what one pass of the board knows, and 0 of what each other pass knows
pub record JustOne (f : View → ℕ) (views : List View) : Type 0 where
  pub seat : ℕ
  pub view : View
  pub there : get_elem? views seat ≡ some view
  pub one : f view ≡ 1
  pub others : (j : ℕ) (u : View) → j ≢ seat → get_elem? views j ≡ some u → f u ≡ 0

-- f is 0 of what each pass of the board knows
abbrev pub NoView : (View → ℕ) → List View → Type 0
NoView f views = (j : ℕ) (u : View) → get_elem? views j ≡ some u → f u ≡ 0

-- the place is claimed by exactly one pass, which knows what it wrote there, and the place is not done
pub record IsTaken (s : State ℕ View) (k : ℕ) : Type 0 where
  pub holder : JustOne (holding k) s.views
  pub words : (xs : List ℕ) → holder.view.held ≡ Some (k, xs) → Shows s.words k xs
  pub undone : done s.words k ≡ 0
  pub in_no_own : NoView (λ v. times k v.own) s.views

-- the place is done, its words are well formed, and exactly one pass published it, once
pub record IsShown (s : State ℕ View) (k : ℕ) : Type 0 where
  pub no_holder : NoView (holding k) s.views
  pub is_done : done s.words k ≡ 1
  pub formed : (xs : List ℕ) × Shows s.words k xs × IsWellFormed xs
  pub owner : JustOne (λ v. times k v.own) s.views

-- each place that a pass has seen is done and begins with the words that it saw; it has seen all words of a place that
-- it published
pub record Remembers (s : State ℕ View) (v : View) : Type 0 where
  pub seen : (k : ℕ) (xs : List ℕ) → Has v.seen (k, xs) → (done s.words k ≡ 1) × Shows s.words k xs
  pub own : (k : ℕ) → Has v.own k → (xs : List ℕ) × Has v.seen (k, xs) × (length xs ≡ 49)

-- the board's rule in plain words: each place below the count is claimed or done, none from there on is, and what
-- passes saw stays
pub record Means (s : State ℕ View) : Type 0 where
  pub below : (k : ℕ) → k < count s.words → IsTaken s k ⊎ IsShown s k
  pub beyond : (k : ℕ) → count s.words ≤ k → (done s.words k ≡ 0) × NoView (holding k) s.views
  pub views : (j : ℕ) (v : View) → get_elem? s.views j ≡ some v → Remembers s v

-- in each state of a board that keeps the rule `Kept`, what `Means` says in plain words is true
abbrev pub AllMeans : Type 0
AllMeans = (places : ℕ) (s : State ℕ View) → Kept places s → Means s
