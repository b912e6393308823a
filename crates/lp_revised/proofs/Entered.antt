-- The entering column: once one enters no more are priced.
use Rattle.std.proofs.Common.{◌≡◌, ℕ, zero, suc, ◌+◌, ◌-◌, ◌<◌, List, Option, Some, None, Ok, Err, ap, ◌∙◌, subst}
use Rattle.std.proofs.Common.{arith}
use Rattle.spec_exact.specs.Fraction.{ℚ}
use Rattle.spec_exact.specs.declared.past.Past.{Past}
use Rattle.spec_pivot.specs.declared.status.Way.{Way}
use Rattle.spec_simplex.specs.declared.ends.Entering.{Entering}
use Rattle.spec_simplex.specs.Form.{Form}
use Rattle.spec_exact.specs.Run.{Run, ◌>>=◌, steps}
use Rattle.spec_simplex.specs.Tableau.{Tableau, all_columns}
use Rattle.spec_simplex.specs.Step.{or_enters}
use Rattle.spec_exact.proofs.RunsInOrder.{steps_more, steps_stop}
use Rattle.spec_exact.specs.Narrow.{number_limit}
use Rattle.spec_factor.specs.Revised.{way_run, or_priced, entering_run}

module _ (f : Form) (costs y : List ℚ) (t : Tableau) where
  -- the search for an entering column at column k: what was found before stays; else column k is priced
  abbrev pub priced_at : ℕ → Option Entering → Run (Option Entering)
  priced_at k e = or_priced (Some number_limit) f costs y t k e

  -- where no column below k enters, and pricing column k is refused an operation, the search for an entering column is
  -- refused it
  pub way_refused : (k : ℕ) (p : Past ℚ) → steps k priced_at None ≡ Ok None → k < all_columns t →
      way_run (Some number_limit) f costs y t k ≡ Err p → entering_run (Some number_limit) f costs y t ≡ Err p
  unfolding entering_run
  way_refused k p h l g =
      steps_stop k (all_columns t) priced_at None None p l h (ap (λ o. o >>= λ way. Ok (or_enters None k way)) g)

  stays : (n d : ℕ) (e : Entering) → steps n priced_at None ≡ Ok (Some e) → steps (n + d) priced_at None ≡ Ok (Some e)
  stays n zero e h = ap (λ i. steps i priced_at None) (let z : n + 0 ≡ n = omega arith in z) ∙ h
  stays n (suc d) e h =
      ap (λ i. steps i priced_at None) (let z : n + suc d ≡ suc (n + d) = omega arith in z)
      ∙ ap (λ o. o >>= λ e. priced_at (n + d) e) (stays n d e h)

  -- where no column below k enters, and column k may enter in a direction, column k enters in that direction
  pub enters : (k : ℕ) (w : Way) → steps k priced_at None ≡ Ok None → k < all_columns t →
      way_run (Some number_limit) f costs y t k ≡ Ok (Some w) →
      entering_run (Some number_limit) f costs y t ≡ Ok (Some (record { col = k; direction = w }))
  unfolding entering_run
  enters k w h l g =
      let z : k + 1 + (all_columns t - (k + 1)) ≡ all_columns t = omega (arith, l) in
      subst (λ i. steps i priced_at None ≡ Ok (Some (record { col = k; direction = w }))) z
      (stays (k + 1) (all_columns t - (k + 1)) (record { col = k; direction = w })
      (steps_more k priced_at None None (Some (record { col = k; direction = w })) h
      (ap (λ o. o >>= λ way. Ok (or_enters None k way)) g)))

  -- where no column below k enters, and k is the number of all columns, no column enters
  pub none_enters : (k : ℕ) → steps k priced_at None ≡ Ok None → k ≡ all_columns t →
      entering_run (Some number_limit) f costs y t ≡ Ok None
  unfolding entering_run
  none_enters k h e = subst (λ i. steps i priced_at None ≡ Ok None) e h
