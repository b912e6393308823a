-- How the basic columns move with an entering column that is given by places.
use Rattle.std.specs.Prelude.{◌≡◌, ℕ, suc, List, [], slice_set, get_or, Option, Some, Ok, if◌then◌else◌}
use Rattle.spec_exact.specs.Fraction.{ℚ, 0ℚ}
use Rattle.spec_simplex.specs.declared.ends.RowStart.{RowStart}
use Rattle.spec_exact.specs.Run.{Run, ◌>>=◌, less_product, steps}
use Rattle.spec_exact.specs.Narrow.{number_limit}
use Rattle.spec_simplex.specs.Tableau.{Tableau, basic_at}
use Rattle.spec_pivot.specs.declared.status.Status.{Status}
use Rattle.spec_simplex.specs.Step.{is_place, shifted_run, exchanged, turned}
use Rattle.spec_factor.specs.Factors.{with_pair}
use Rattle.spec_factor.specs.Revised.{Revised, seen_entry}

-- the state u is s but for the values of the columns, of which nothing is asked
abbrev pub WithValues : Revised → Revised → Type 0
WithValues s u = u ≡ record s { bare = record s.bare { value = u.bare.value } }

-- the values after the basic column at position i moved with the entering column, which is z by places and moves by
-- theta: by the opposite of its entry times theta; or the refusal
abbrev pub moved_by : List (RowStart ℚ) → Tableau → List ℚ → ℚ → ℕ → List ℚ → Run (List ℚ)
moved_by starts t z theta i values =
    less_product (Some number_limit) (seen_entry starts t z i) theta (get_or values (basic_at t i) 0ℚ) >>= λ v.
    Ok (slice_set values (basic_at t i) v)

-- the values after the basic columns at the first n positions moved with the entering column, which is z by places and
-- moves by theta; the one at position `but` stays. Or the first refusal.
abbrev pub moves_by : List (RowStart ℚ) → Tableau → List ℚ → ℚ → Option ℕ → ℕ → Run (List ℚ)
moves_by starts t z theta but n =
    steps n (λ i values. if is_place but i then Ok values else moved_by starts t z theta i values) t.value

-- a pivot without the renewal of factors, or the first refusal: column j, which is z by places, moves by theta and
-- takes place p, whose column goes to the bound `to`
abbrev pub exchanged_by : List (RowStart ℚ) → Revised → List ℚ → ℕ → ℕ → ℚ → Status → Run Revised
exchanged_by starts s z p j theta to =
    moves_by starts s.bare z theta (Some p) s.bare.rows >>= λ values.
    shifted_run (Some number_limit) values j theta >>= λ shifted.
    Ok (record {
      bare = exchanged (turned s.bare shifted [] []) p j to;
      pairs = with_pair s.pairs p z;
      replaced = suc s.replaced;
    })

-- a state of the revised simplex with these lower and upper bounds in place of its own
abbrev pub fixed_at : Revised → List (Option ℚ) → List (Option ℚ) → Revised
fixed_at s lower upper = record s { bare = record s.bare { lower = lower; upper = upper } }
