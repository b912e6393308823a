-- A flip, part by part.
use Rattle.std.proofs.Common.{◌≡◌, ℕ, Option, None, Ok, Err, sym, ap, ◌∙◌}
use Rattle.spec_exact.specs.Fraction.{ℚ}
use Rattle.spec_exact.specs.declared.past.Past.{Past}
use Rattle.spec_pivot.specs.declared.status.Status.{Status}
use Rattle.spec_pivot.specs.declared.status.Way.{Way}
use Rattle.spec_exact.specs.Run.{Run, ◌>>=◌, difference_run}
use Rattle.spec_simplex.specs.Tableau.{Tableau, status_at, lower_at, upper_at, or_zero}
use Rattle.spec_simplex.specs.Step.{directed, other_bound, flip_way, moved_run, flipped, flip_run}
use Rattle.lp_tableau.proofs.Moved.{MovedFrom}

module _ (limit : Option ℕ) (t : Tableau) (j : ℕ) where
  abbrev range : Run ℚ
  range = difference_run limit (or_zero (upper_at t j)) (or_zero (lower_at t j))

  pub range_stops : (e : Past ℚ) → range ≡ Err e → flip_run limit t j ≡ Err e
  unfolding flip_run
  range_stops e h =
      ap (λ o. o >>= λ range. moved_run limit t j (directed (flip_way (status_at t j)) range) None >>=
      λ values. Ok (flipped t j (other_bound (flip_way (status_at t j))) values)) h

  module _ (r : ℚ) (h : range ≡ Ok r) (way : Way) (w : way ≡ flip_way (status_at t j)) where
    from_range : flip_run limit t j
        ≡ (moved_run limit t j (directed way r) None >>= λ values. Ok (flipped t j (other_bound way) values))
    unfolding flip_run
    from_range =
        ap (λ o. o >>= λ range. moved_run limit t j (directed (flip_way (status_at t j)) range) None >>=
        λ values. Ok (flipped t j (other_bound (flip_way (status_at t j))) values)) h
        ∙ ap (λ b. moved_run limit t j (directed b r) None >>= λ values. Ok (flipped t j (other_bound b) values))
        (sym w)

    pub flip_stops : (theta : ℚ) (e : Past ℚ) → theta ≡ directed way r → moved_run limit t j theta None ≡ Err e →
        flip_run limit t j ≡ Err e
    flip_stops theta e d m =
        from_range ∙ ap (λ o. o >>= λ values. Ok (flipped t j (other_bound way) values))
        (ap (λ q. moved_run limit t j q None) (sym d) ∙ m)

    pub flip_made : (theta : ℚ) (to : Status) (u z : Tableau) → theta ≡ directed way r → to ≡ other_bound way →
        moved_run limit t j theta None ≡ Ok u.value → MovedFrom t u → z ≡ flipped u j to u.value →
        flip_run limit t j ≡ Ok z
    flip_made theta to u z d b m f e =
        from_range ∙ ap (λ o. o >>= λ values. Ok (flipped t j (other_bound way) values))
        (ap (λ q. moved_run limit t j q None) (sym d) ∙ m)
        ∙ ap (λ s. Ok (flipped t j s u.value)) (sym b) ∙ ap (λ x. Ok (flipped x j to u.value)) (sym f) ∙ ap Ok (sym e)
