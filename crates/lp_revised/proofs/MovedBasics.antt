-- The basic columns that move with one that is given by places, and flips.
use Rattle.std.proofs.Common.{◌≡◌, ℕ, ◌<◌, List, get_or, set, Option, Some, None, Ok, Err}
use Rattle.std.proofs.Common.{false, cond, refl, sym, ap, ◌∙◌}
use Rattle.spec_exact.specs.Fraction.{ℚ, 0ℚ}
use Rattle.spec_exact.specs.declared.past.Past.{Past}
use Rattle.spec_pivot.specs.declared.status.Status.{Status}
use Rattle.spec_pivot.specs.declared.status.Way.{Way}
use Rattle.spec_simplex.specs.declared.ends.RowStart.{RowStart}
use Rattle.spec_exact.specs.Run.{Run, ◌>>=◌, difference_run, less_product}
use Rattle.spec_simplex.specs.Tableau.{Tableau, basic_at, status_at, lower_at, upper_at, or_zero}
use Rattle.spec_simplex.specs.Step.{directed, other_bound, is_place, moved_at, moved_run, flip_way, flipped}
use Rattle.spec_exact.proofs.RunsInOrder.{steps_stop}
use Rattle.spec_exact.specs.Narrow.{number_limit}
use Rattle.spec_factor.specs.Revised.{Revised, bare_of, seen, flip_over_run}
use Rattle.spec_factor.proofs.Selection.{steps_same}
use Rattle.lp_tableau.proofs.Flips.{range_stops, flip_stops, flip_made}
use Rattle.lp_revised.specs.Moved.{WithValues, moved_by, moves_by}
use Rattle.lp_revised.proofs.Seen.{seen_at}

module _ (starts : List (RowStart ℚ)) (s : Revised) (z : List ℚ) (theta : ℚ) (but : Option ℕ) where
  abbrev step_by : ℕ → List ℚ → Run (List ℚ)
  step_by i values = cond (is_place but i) (Ok values) (moved_by starts s.bare z theta i values)

  -- where the basic columns of the places below i were moved, and moving that of place i is refused an operation,
  -- moving all of them is refused it
  pub move_refused : (u : Revised) (i : ℕ) (p : Past ℚ) → moves_by starts s.bare z theta but i ≡ Ok u.bare.value →
      WithValues s u → i < s.bare.rows → is_place but i ≡ false
      → moved_by starts u.bare z theta i u.bare.value ≡ Err p → moves_by starts s.bare z theta but s.bare.rows ≡ Err p
  move_refused u i p h e l b g =
      steps_stop i s.bare.rows step_by s.bare.value u.bare.value p l h
      (ap (λ b. cond b (Ok u.bare.value) (moved_by starts s.bare z theta i u.bare.value)) b
      ∙ sym (ap (λ (w : Revised). moved_by starts w.bare z theta i u.bare.value) e) ∙ g)

  -- moving all basic columns place by place, by the solved column, moves them as `moved_run` does in the tableau that
  -- the step sees
  pub moves_are : (j : ℕ) →
      moves_by starts s.bare z theta but s.bare.rows ≡ moved_run (Some number_limit) (seen starts s.bare j z) j theta
      but
  unfolding moved_run
  moves_are j =
      steps_same s.bare.rows step_by (λ i values. cond (is_place but i) (Ok values)
      (moved_at (Some number_limit) (seen starts s.bare j z) j theta i values)) s.bare.value
      (λ i values l. ap (λ a. cond (is_place but i) (Ok values)
      (less_product (Some number_limit) a theta (get_or values (basic_at s.bare i) 0ℚ) >>= λ v. Ok
      (set values (basic_at s.bare i) v))) (sym (seen_at starts s.bare j z i l)))

module _ (starts : List (RowStart ℚ)) (s : Revised) (z : List ℚ) (j : ℕ) where
  abbrev sight : Tableau
  sight = seen starts s.bare j z

  abbrev range : Run ℚ
  range = difference_run (Some number_limit) (or_zero (upper_at s.bare j)) (or_zero (lower_at s.bare j))

  -- where the distance between the column's bounds is refused, the flip over factors is refused it
  pub flip_refused : (p : Past ℚ) → range ≡ Err p → flip_over_run (Some number_limit) s sight j ≡ Err p
  unfolding flip_over_run
  flip_refused p h = ap (λ o. o >>= λ u. Ok (record s { bare = bare_of u })) (range_stops (Some number_limit) sight j p
      h)

  module _ (r : ℚ) (h : range ≡ Ok r) (way : Way) (w : way ≡ flip_way (status_at s.bare j)) (theta : ℚ)
      (d : theta ≡ directed way r) where
    -- where moving the basic columns by the distance between the column's bounds is refused, the flip over factors is
    -- refused it
    pub flip_moves_refused : (p : Past ℚ) → moves_by starts s.bare z theta None s.bare.rows ≡ Err p →
        flip_over_run (Some number_limit) s sight j ≡ Err p
    unfolding flip_over_run
    flip_moves_refused p m =
        ap (λ o. o >>= λ u. Ok (record s { bare = bare_of u }))
        (flip_stops (Some number_limit) sight j r h way w theta p d (sym (moves_are starts s z theta None j) ∙ m))

    -- where the basic columns were moved by the distance between the column's bounds, the flip over factors gives the
    -- state with these values and the other bound as status
    pub flips : (to : Status) (u new : Revised) → to ≡ other_bound way → s.bare ≡ bare_of s.bare →
        moves_by starts s.bare z theta None s.bare.rows ≡ Ok u.bare.value → WithValues s u
        → new ≡ record u { bare = flipped u.bare j to u.bare.value } →
        flip_over_run (Some number_limit) s sight j ≡ Ok new
    unfolding flip_over_run
    flips to u new t b m e is =
        let v = u.bare.value in
        ap (λ o. o >>= λ u. Ok (record s { bare = bare_of u }))
        (flip_made (Some number_limit) sight j r h way w theta to (record sight { value = v })
        (flipped (record sight { value = v }) j to v) d t (sym (moves_are starts s z theta None j) ∙ m) refl refl)
        ∙ ap (λ (x : Tableau). Ok (record s { bare = flipped (record x { value = v }) j to v })) (sym b)
        ∙ ap (λ (x : Revised). Ok (record x { bare = flipped x.bare j to v })) (sym e) ∙ ap Ok (sym is)
