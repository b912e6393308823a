-- The basic columns that move with one that is not basic.
use Rattle.std.proofs.Common.{◌≡◌, ℕ, ◌<◌, ◌≤◌, List, Option, Ok, Err}
use Rattle.std.proofs.Common.{false, cond, sym, subst, ap, ◌∙◌, arith}
use Rattle.spec_exact.specs.Fraction.{ℚ}
use Rattle.spec_exact.specs.declared.past.Past.{Past}
use Rattle.spec_exact.specs.Run.{Run, steps}
use Rattle.spec_simplex.specs.Tableau.{Tableau}
use Rattle.spec_simplex.specs.Step.{is_place, moved_at, moved_run}
use Rattle.spec_exact.proofs.RunsInOrder.{steps_stop}

-- u is t but for its values
abbrev pub MovedFrom : Tableau → Tableau → Type 0
MovedFrom t u = u ≡ record t { value = u.value }

-- the values after position i: its basic column moved as column j moves by theta, or all as they are where `but` names
-- it
abbrev pub move_at : Option ℕ → Tableau → ℕ → ℚ → Option ℕ → ℕ → List ℚ → Run (List ℚ)
move_at limit t j theta but i values = cond (is_place but i) (Ok values) (moved_at limit t j theta i values)

module _ (limit : Option ℕ) (t : Tableau) (j : ℕ) (theta : ℚ) (but : Option ℕ) where
  at_same : (u : Tableau) (i : ℕ) → MovedFrom t u →
      moved_at limit u j theta i u.value ≡ moved_at limit t j theta i u.value
  at_same u i e = ap (λ w. moved_at limit w j theta i u.value) e

  pub move_refused : (u : Tableau) (i : ℕ) (p : Past ℚ) → steps i (move_at limit t j theta but) t.value ≡ Ok u.value →
      MovedFrom t u → i < t.rows → is_place but i ≡ false → moved_at limit u j theta i u.value ≡ Err p →
      moved_run limit t j theta but ≡ Err p
  unfolding moved_run
  move_refused u i p s e h b g =
      steps_stop i t.rows (move_at limit t j theta but) t.value u.value p h s
      (ap (λ b. cond b (Ok u.value) (moved_at limit t j theta i u.value)) b ∙ (let z = at_same u i e in sym z) ∙ g)

  pub all_moved : (i : ℕ) (values : List ℚ) → steps i (move_at limit t j theta but) t.value ≡ Ok values → t.rows ≤ i →
      i ≤ t.rows → moved_run limit t j theta but ≡ Ok values
  unfolding moved_run
  all_moved i values s h l =
      let z : i ≡ t.rows = omega arith in
      subst (λ k. steps k (move_at limit t j theta but) t.value ≡ Ok values) z s
