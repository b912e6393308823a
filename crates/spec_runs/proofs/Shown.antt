-- What the end of a run of the primal method, from a tableau of the form's costs, shows of the model.
use Rattle.std.proofs.Common.{◌≡◌, ℕ, ◌+◌, ◌<◌, List, length, Option, Some, ap, ◌∙◌, arith}
use Rattle.spec_exact.specs.Fraction.{ℚ, 0ℚ}
use Rattle.spec_model.specs.Model.{Model, width, height, part}
use Rattle.spec_check.specs.declared.certificate.Certificate.{Certificate}
use Rattle.spec_check.specs.Certificate.{IsFor}
use Rattle.spec_check.specs.Checks.{Checks}
use Rattle.spec_pivot.specs.declared.status.Way.{Way}
use Rattle.spec_pivot.specs.Simplex.{Bounds}
use Rattle.spec_simplex.specs.declared.ends.PrimalEnd.{PrimalEnd}
use Rattle.spec_simplex.specs.declared.ends.PrimalEnd.TheVariants.{Optimal, Unbounded}
use Rattle.spec_simplex.specs.declared.ends.Choice.TheVariants.{End}
use Rattle.spec_simplex.specs.Form.{formed}
use Rattle.spec_simplex.specs.Start.{cost_at}
use Rattle.spec_simplex.specs.Tableau.{Tableau, value_at, reduced_at}
use Rattle.spec_simplex.specs.Phases.{PrimalEnded}
use Rattle.spec_exact.proofs.RunsInOrder.{length-made}
use Rattle.spec_simplex.specs.Tables.{table_of, IsTableauOf, IsWithinBounds, IsMeant}
use Rattle.spec_simplex.specs.Begins.{form_rows}
use Rattle.spec_runs.specs.Cold.{point, multipliers, moves_by, moves_below, direction, certificate_at}
use Rattle.spec_simplex.proofs.RunParts.{get_or-made}
use Rattle.spec_simplex.proofs.FormOfModel.{Limited}
use Rattle.spec_simplex.proofs.FormOfModel.{HasBounds}
use Rattle.spec_runs.proofs.EndOptimal.{optimal_checks}
use Rattle.spec_runs.proofs.EndUnbounded.{unbounded_checks}
use Rattle.spec_runs.proofs.Directions.{moves_are}

pub record Shows (m : Model) (c : Certificate (List ℚ)) : Type 0 where
  pub for : IsFor m c
  pub checks : Checks m c

-- ---- the lists of a certificate
module _ (m n : ℕ) (f : ℕ → ℕ → ℚ) (cost : ℕ → ℚ) (b : Bounds) (t : Tableau) (s : IsTableauOf m n f cost b t) where
  pub point_length : length (point t) ≡ n
  point_length = length-made t.cols (value_at t) ∙ s.cols

  pub point_at : (j : ℕ) → j < n → part (point t) j ≡ value_at t j
  point_at j l = get_or-made t.cols (value_at t) 0ℚ j (omega (arith, l, s.cols))

  pub multipliers_length : length (multipliers t) ≡ m
  multipliers_length = length-made t.rows (λ i. reduced_at t (t.cols + i)) ∙ s.rows

  -- multiplier i of a tableau is the reduced cost of the logical column of row i
  pub multiplier_at : (i : ℕ) → i < m → part (multipliers t) i ≡ reduced_at t (n + i)
  multiplier_at i l =
      get_or-made t.rows (λ i. reduced_at t (t.cols + i)) 0ℚ i (omega (arith, l, s.rows))
      ∙ ap (λ n. reduced_at t (n + i)) s.cols

  pub direction_length : (j : ℕ) (way : Way) → length (direction t j way) ≡ n
  direction_length j way = length-made t.cols (moves_by t j way) ∙ s.cols

  -- entry k of a direction is how the positions move structural column k
  pub direction_at : (j : ℕ) (way : Way) (k : ℕ) → k < n → part (direction t j way) k ≡ moves_below t j way k m
  direction_at j way k l =
      get_or-made t.cols (moves_by t j way) 0ℚ k (omega (arith, l, s.cols)) ∙ ap (moves_below t j way k) s.rows

module _ (m : Model) (ls : List (Option ℚ × Option ℚ)) (h : Limited m ls)
    (signs : ℕ → ℚ) (b : Bounds) (bs : HasBounds (formed m ls) b)
    (fixed : (i : ℕ) → i < height m →
    (b.lower (width m + height m + i) ≡ Some 0ℚ) × (b.upper (width m + height m + i) ≡ Some 0ℚ)) where
  abbrev r : ℕ
  r = height m

  abbrev w : ℕ
  w = width m

  abbrev F : ℕ → ℕ → ℚ
  F = form_rows (formed m ls) signs

  abbrev costs : ℕ → ℚ
  costs = cost_at (formed m ls).cost

  -- where artificials are fixed at 0, the certificate of a meant end of the primal method shows its answer of the model
  pub primal_shows : (limit : Option ℕ) (e : PrimalEnded) → IsTableauOf r w F costs b e.tableau →
      IsWithinBounds r w b e.tableau → IsMeant r w F costs b limit e.tableau (End e.end) →
      Shows m (certificate_at e.tableau e.end)
  primal_shows limit e after within = by e.end
    where
      by : (end : PrimalEnd) → IsMeant r w F costs b limit e.tableau (End end) → Shows m (certificate_at e.tableau end)
      by Optimal none = record {
        for = (point_length r w F costs b e.tableau after, multipliers_length r w F costs b e.tableau after);
        checks =
            optimal_checks m ls h signs b bs fixed (table_of e.tableau) after.tableau within (point e.tableau)
            (point_length r w F costs b e.tableau after) (point_at r w F costs b e.tableau after)
            (multipliers e.tableau) (multiplier_at r w F costs b e.tableau after) none;
      }
      by (Unbounded j way) g = record {
        for = (point_length r w F costs b e.tableau after, direction_length r w F costs b e.tableau after j way);
        checks =
            unbounded_checks m ls h signs b bs fixed (table_of e.tableau) after.tableau within
            way j g (point e.tableau) (direction e.tableau j way)
            (point_length r w F costs b e.tableau after) (point_at r w F costs b e.tableau after)
            (λ k l. direction_at r w F costs b e.tableau after j way k l
            ∙ moves_are r (w + r + r) F costs b e.tableau j way after.tableau g.enters k);
      }
