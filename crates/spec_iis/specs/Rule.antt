-- The rule by which sides are left out, one by one, as far as what is left stays infeasible.
use Rattle.std.specs.Prelude.{ℕ, zero, suc, ◌≡◌, ◌⊎◌, ◌<◌, Bool, true, false, List, [], ◌∷◌, ◌++◌, length, get_or, All}
use Rattle.std.specs.Prelude.{Option, Ok, if◌then◌else◌}
use Rattle.std.specs.List.{remove, filter}
use Rattle.spec_exact.specs.Fraction.{ℚ, 0ℚ, lt_ℚ}
use Rattle.spec_model.specs.Model.{Model, ExactRow, width, height, row, limits, part}
use Rattle.spec_model.specs.Truth.{IsFeasible, IsInfeasible}
use Rattle.spec_check.specs.declared.certificate.Certificate.{Certificate}
use Rattle.spec_check.specs.declared.certificate.Certificate.TheVariants.{Optimal, Infeasible, Clash, Unbounded}
use Rattle.spec_check.specs.Checks.{priced}
use Rattle.spec_check.specs.Run.{Run, lower_run, upper_run}
use Rattle.spec_iis.specs.declared.side.Side.{Side}
use Rattle.spec_iis.specs.Sides.{end_of, IsSide, is_listed, Among}
use Rattle.spec_iis.specs.Only.{renumbered, only}

-- ---- the sides that a certificate uses, those of rows first

-- the lists f 0 .. f (n - 1) joined
abbrev pub gathered : {A : Type 0} → (ℕ → List A) → ℕ → List A
gathered f zero = []
gathered f (suc n) = gathered f n ++ f n

-- the list of this side if it is used; else empty
abbrev pub side_if : Bool → Side → List Side
side_if used s = if used then s ∷ [] else []

-- the list of the side of row i that a multiplier d uses: the lower limit for d above 0, the upper one for d below 0,
-- and none for 0
unfoldable pub row_sides : ℕ → ℚ → List Side
row_sides i d =
    side_if (lt_ℚ 0ℚ d) (record { row = true; at = i; upper = false })
    ++ side_if (lt_ℚ d 0ℚ) (record { row = true; at = i; upper = true })

-- the list of the side of column j that the multipliers use, by g, the sum of its coefficients times the multipliers of
-- their rows: the lower bound for g below 0, the upper one for g above 0, and none for 0
unfoldable pub column_sides : ℕ → ℚ → List Side
column_sides j g =
    side_if (lt_ℚ g 0ℚ) (record { row = false; at = j; upper = false })
    ++ side_if (lt_ℚ 0ℚ g) (record { row = false; at = j; upper = true })

-- the sides that a certificate of infeasibility uses, those of rows first, each in the order of their numbers; of a
-- clash both bounds of its column; none of any other certificate
unfoldable pub used : Model → Certificate (List ℚ) → List Side
used m (Infeasible y) =
    gathered (λ i. row_sides i (part y i)) (height m) ++ gathered (λ j. column_sides j (priced m y j)) (width m)
used m (Clash j) = record { row = false; at = j; upper = false } ∷ record { row = false; at = j; upper = true } ∷ []
used m (Optimal x y) = []
used m (Unbounded x r) = []

-- those sides of a list that a certificate uses, where the certificate is for the model with the sides of this list
-- alone
unfoldable pub used_among : Model → List Side → Certificate (List ℚ) → List Side
used_among m sides cert = filter (λ s. is_listed (used (only m sides) cert) (renumbered sides s)) sides

-- the few sides are among `sides`, and no point meets all of them
pub record IsClash (m : Model) (sides few : List Side) : Type 0 where
  pub among : Among few sides
  pub infeasible : IsInfeasible (only m few)

-- ---- sides that are kept, and others that are still to be looked at, in order

-- The rule comes to the set s: it looks at s on its way, or ends with it. It has kept some sides, and the rest is still
-- to be tried, in order. It looks at all of them without the first of the rest. Where no point meets these, that side
-- is left out; where one does, it is kept.
abbrev pub Reaches : Model → List Side → List Side → List Side → Type 0
Reaches m kept [] s = s ≡ kept
Reaches m kept (x ∷ rest) s =
    (s ≡ kept ++ rest)
    ⊎ (IsInfeasible (only m (kept ++ rest)) × Reaches m kept rest s)
    ⊎ (((z : List ℚ) × IsFeasible (only m (kept ++ rest)) z) × Reaches m (kept ++ x ∷ []) rest s)

-- The rule's invariant. The kept sides and the rest, still to be tried, are sides of the model that no point meets
-- together. For each kept side its point meets all other kept sides and the rest.
pub record IsFiltered (m : Model) (kept rest : List Side) (points : List (List ℚ)) : Type 0 where
  pub present : All (IsSide m) (kept ++ rest)
  pub infeasible : IsInfeasible (only m (kept ++ rest))
  pub one_each : length points ≡ length kept
  pub feasible : (k : ℕ) → k < length kept → IsFeasible (only m (remove kept k ++ rest)) (get_or points k [])

-- ---- at a limit

-- the upper limit of a row if the flag says so, else the lower one, at a limit on numbers; or the refusal
abbrev pub end_run : Bool → Option ℕ → ExactRow → Run (Option ℚ)
end_run true limit r = upper_run limit r
end_run false limit r = lower_run limit r

-- if the side is of a row, the limit on numbers does not refuse the operation that gives its limit, which is the exact
-- one
abbrev pub IsRead : Option ℕ → Model → Side → Type 0
IsRead limit m s = s.row ≡ true → end_run s.upper limit (row m s.at) ≡ Ok (end_of s.upper (limits m s.at))
