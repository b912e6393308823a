-- All rows of a pivot: the row at its position, and then the others.
use Rattle.std.proofs.Common.{◌≡◌, ℕ, ◌+◌, ◌<◌, ◌≤◌, Bool, List, [], get_or, Option, Some, Ok, Err}
use Rattle.std.proofs.Common.{nat_eq, ne_eqb, cond, subst, ap, ◌∙◌, arith}
use Rattle.std.proofs.lemmas.Bool.{eq-eqb}
use Rattle.spec_exact.specs.Fraction.{ℚ}
use Rattle.spec_exact.specs.declared.past.Past.{Past}
use Rattle.spec_exact.specs.Run.{Run, ◌>>=◌, steps}
use Rattle.spec_simplex.specs.Step.{scaled_run, cleared_run, turned_run}
use Rattle.spec_exact.proofs.RunsInOrder.{steps_more, steps_stop}
use Rattle.spec_exact.specs.Narrow.{number_limit}
use Rattle.lp_tableau.specs.Grid.{IsGrid}
use Rattle.lp_tableau.specs.Twins.{twinned}

-- the rows after row i: a multiple of row p taken off it, so that column j is 0 in it; or all as they are where i is p
abbrev pub turned_at : Option ℕ → ℕ → ℕ → ℕ → ℕ → List (List ℚ) → Run (List (List ℚ))
turned_at limit n p j i rows = cond (nat_eq i p) (Ok rows) (cleared_run limit n p j i rows)

module _ (limit : Option ℕ) (m n : ℕ) (rows : List (List ℚ)) (p j : ℕ) where
  pub first_refused : (e : Past ℚ) → scaled_run limit n rows p j ≡ Err e → turned_run limit m n rows p j ≡ Err e
  unfolding turned_run
  first_refused e h = ap (λ o. o >>= λ scaled. steps m (turned_at limit n p j) scaled) h

  pub row_refused : (k : ℕ) (scaled now : List (List ℚ)) (e : Past ℚ) → scaled_run limit n rows p j ≡ Ok scaled →
      steps k (turned_at limit n p j) scaled ≡ Ok now → k < m → (k ≡ p → ⊥) → cleared_run limit n p j k now ≡ Err e →
      turned_run limit m n rows p j ≡ Err e
  unfolding turned_run
  row_refused k scaled now e h s l d g =
      ap (λ o. o >>= λ scaled. steps m (turned_at limit n p j) scaled) h
      ∙ steps_stop k m (turned_at limit n p j) scaled now e l s
      (ap (λ b. cond b (Ok now) (cleared_run limit n p j k now)) (ne_eqb k p d) ∙ g)

  pub rows_turned : (k : ℕ) (scaled now : List (List ℚ)) → scaled_run limit n rows p j ≡ Ok scaled →
      steps k (turned_at limit n p j) scaled ≡ Ok now → m ≤ k → k ≤ m → turned_run limit m n rows p j ≡ Ok now
  unfolding turned_run
  rows_turned k scaled now h s l g =
      let z : k ≡ m = omega arith in
      ap (λ o. o >>= λ scaled. steps m (turned_at limit n p j) scaled) h
      ∙ subst (λ i. steps i (turned_at limit n p j) scaled ≡ Ok now) z s

-- one row more
module _ (limit : Option ℕ) (n p j k : ℕ) (scaled now : List (List ℚ))
    (s : steps k (turned_at limit n p j) scaled ≡ Ok now) where
  pub row_passed : k ≡ p → steps (k + 1) (turned_at limit n p j) scaled ≡ Ok now
  row_passed e =
      steps_more k (turned_at limit n p j) scaled now now s
      (ap (λ b. cond b (Ok now) (cleared_run limit n p j k now)) (eq-eqb k p e))

  pub row_turned : (next : List (List ℚ)) → (k ≡ p → ⊥) → cleared_run limit n p j k now ≡ Ok next →
      steps (k + 1) (turned_at limit n p j) scaled ≡ Ok next
  row_turned next d g =
      steps_more k (turned_at limit n p j) scaled now next s
      (ap (λ b. cond b (Ok now) (cleared_run limit n p j k now)) (ne_eqb k p d) ∙ g)

-- all rows before row i are turned, and row p is as it was scaled
pub record IsTurning (c m : ℕ) (turned : List Bool) (p j i : ℕ) (scaled grid : List (List ℚ)) : Type 0 where
  pub done : steps i (turned_at (Some number_limit) (c + m + m) p j) (twinned c turned scaled) ≡ Ok (twinned c turned
      grid)
  pub kept : get_or grid p [] ≡ get_or scaled p []
  pub shape : IsGrid m (c + m) grid
