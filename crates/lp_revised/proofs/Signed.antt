-- Signs of columns, and the multipliers.
use Rattle.std.proofs.Common.{◌≡◌, ℕ, ◌-◌, ◌<◌, ◌≤◌, List, length, get_or, Some, sym, ap, ◌∙◌, subst, le-leb}
use Rattle.std.proofs.lemmas.Bool.{lt-leb}
use Rattle.std.proofs.lemmas.List.{get_or_default}
use Rattle.spec_exact.specs.Fraction.{ℚ, 0ℚ, ◌*ℚ◌, neg_ℚ}
use Rattle.spec_exact.proofs.Ruleset.{one-*ℚ, neg-*ℚ}
use Rattle.spec_simplex.specs.declared.ends.RowStart.{RowStart}
use Rattle.spec_simplex.specs.declared.ends.RowStart.TheVariants.{Within, Below, Above}
use Rattle.spec_exact.specs.Run.{Run}
use Rattle.spec_exact.specs.Narrow.{number_limit}
use Rattle.spec_simplex.specs.Start.{start_at, logical_sign}
use Rattle.spec_simplex.specs.Tableau.{Tableau, form_columns}
use Rattle.spec_factor.specs.Factors.{Pair, btran_run}
use Rattle.spec_factor.specs.Revised.{Revised, sign_of, basic_costs, multipliers_run}

-- a number is the sign of a logical column whose row starts within its limits, times that number
one_times : (v : ℚ) → v ≡ logical_sign (Within 0ℚ) *ℚ v
one_times v = sym (one-*ℚ v)

module _ (starts : List (RowStart ℚ)) (t : Tableau) (k : ℕ) (v : ℚ) where
  -- where column k is structural or logical, v is the sign of column k times v
  pub of_form : k < form_columns t → v ≡ sign_of starts t k *ℚ v
  of_form l = rw (lt-leb (form_columns t) k l) (one_times v)

  -- the sign of artificial column k is that of the logical column of its row's start, if the start was read at k less
  -- the first artificial
  pub of_start : (s : RowStart ℚ) (first : ℕ) → first ≡ form_columns t → first ≤ k → k - first < length starts →
      s ≡ get_or starts (k - first) s → sign_of starts t k ≡ logical_sign s
  of_start s first e l h is =
      rw (le-leb (form_columns t) k (subst (λ n. n ≤ k) e l))
      (ap logical_sign (ap (λ n. start_at starts (k - n)) (sym e)
      ∙ sym (is ∙ get_or_default starts (k - first) s (Within 0ℚ) h)))

  -- where column k's row starts below its limits, -v is v times the sign of column k
  pub turned : (g x : ℚ) → sign_of starts t k ≡ logical_sign (Below g) → x ≡ neg_ℚ v → x ≡ sign_of starts t k *ℚ v
  turned g x e is = is ∙ ap neg_ℚ (one_times v) ∙ sym (neg-*ℚ (logical_sign (Within 0ℚ)) v) ∙ ap (λ a. a *ℚ v) (sym e)

  -- where column k's row starts within its limits, v is v times the sign of column k
  pub within_as_it_is : (g : ℚ) → sign_of starts t k ≡ logical_sign (Within g) → v ≡ sign_of starts t k *ℚ v
  within_as_it_is g e = one_times v ∙ ap (λ a. a *ℚ v) (sym e)

  -- where column k's row starts above its limits, v is v times the sign of column k
  pub above_as_it_is : (g : ℚ) → sign_of starts t k ≡ logical_sign (Above g) → v ≡ sign_of starts t k *ℚ v
  above_as_it_is g e = one_times v ∙ ap (λ a. a *ℚ v) (sym e)

-- btran of the basic costs by the state's pairs gives the multipliers of the state
pub multipliers_are : (starts : List (RowStart ℚ)) (costs : List ℚ) (s : Revised) (places : ℕ) (pairs : List Pair)
    (list : List ℚ) (r : Run (List ℚ))
    → places ≡ s.bare.rows → pairs ≡ s.pairs → list ≡ basic_costs starts costs s.bare →
    btran_run (Some number_limit) places
    pairs list ≡ r → multipliers_run (Some number_limit) starts costs s ≡ r
unfolding multipliers_run
multipliers_are starts costs s places pairs list r p q l h =
    ap (λ m. btran_run (Some number_limit) m s.pairs (basic_costs starts costs s.bare)) (sym p)
    ∙ ap (λ es. btran_run (Some number_limit) places es (basic_costs starts costs s.bare)) (sym q)
    ∙ ap (btran_run (Some number_limit) places pairs) (sym l) ∙ h
