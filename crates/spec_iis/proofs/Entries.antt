-- The entries of a column in the rows that stay.
use Rattle.std.proofs.Common.{◌≡◌, ◌≢◌, ℕ, ◌<◌, Bool, true, false, cond, eqb, List, [], ◌∷◌}
use Rattle.std.proofs.Common.{map, All, refl, ap, ◌∙◌, eq-eqb, ne_eqb}
use borrow.Author.Tests.{eqb-true, eqb-false}
use Rattle.std.specs.List.{filter}
use Rattle.std.proofs.lemmas.List.Elements.{All-map, All-filter, filter_passes}
use Rattle.std.proofs.lemmas.List.Kept.{AllPairs-filter}
use Rattle.spec_exact.specs.Fraction.{ℚ, 0ℚ}
use Rattle.spec_exact.specs.Narrow.{IsNarrow}
use Rattle.spec_model.specs.Model.{entry_of}
use Rattle.spec_model.specs.Kept.{AreEntries}
use Rattle.spec_model.proofs.Pairs.{AllPairs-weaker, AllPairs-map}
use Rattle.spec_iis.specs.Only.{rank, only_entries}
use Rattle.spec_iis.proofs.Picked.{rank_mono, rank_injective}

module _ (p : ℕ → Bool) where
  -- an entry with the new number of its row among those that pass the test
  abbrev moved : ℕ × ℚ → ℕ × ℚ
  moved e = (rank p e.0, e.1)

  -- where row i passes the test, the entries in rows that pass give it the same coefficient under its new number
  pub entry_of-only : (es : List (ℕ × ℚ)) (i : ℕ) → p i ≡ true → entry_of (only_entries p es) (rank p i) ≡ entry_of es i
  unfolding only_entries
  entry_of-only [] i h = refl
  entry_of-only (e ∷ es) i h = by (p e.0) refl (entry_of-only es i h)
    where
      others : List (ℕ × ℚ)
      others = filter (λ e. p e.0) es

      here : p e.0 ≡ true → eqb (rank p e.0) (rank p i) ≡ eqb e.0 i
      here g = same (eqb e.0 i) refl
        where
          same : (t : Bool) → eqb e.0 i ≡ t → eqb (rank p e.0) (rank p i) ≡ t
          same true q = eq-eqb (rank p e.0) (rank p i) (ap (rank p) (eqb-true e.0 i q))
          same false q = ne_eqb (rank p e.0) (rank p i) (λ r. eqb-false e.0 i q (rank_injective p e.0 i g h r))

      other : p e.0 ≡ false → e.0 ≢ i
      other f q = let g : p e.0 ≡ true = ap p q ∙ h in cc

      by : (t : Bool) → p e.0 ≡ t →
          entry_of (map (λ e. (rank p e.0, e.1)) others) (rank p i) ≡ entry_of es i →
          entry_of (map (λ e. (rank p e.0, e.1)) (cond t (e ∷ others) others)) (rank p i)
          ≡ cond (eqb e.0 i) e.1 (entry_of es i)
      by true g rest = rw (here g) (ap (cond (eqb e.0 i) e.1) rest)
      by false g rest = rw (ne_eqb e.0 i (other g)) rest

  -- where entries are in order, of the first n rows and not 0, those in rows that pass a test are so for the rows that
  -- pass
  pub only_entries-kept : (n : ℕ) (es : List (ℕ × ℚ)) → AreEntries n es → AreEntries (rank p n) (only_entries p es)
  unfolding only_entries
  only_entries-kept n es h = record {
    inside = All-map (λ (e : ℕ × ℚ). e.0 < rank p n) moved others
        (λ k d l. rank_mono p _ n (kept_inside k d l) (passes k d l));
    ascending = AllPairs-map (λ (d e : ℕ × ℚ). d.0 < e.0) moved others
        (AllPairs-weaker (λ e. p e.0 ≡ true) (λ d e. d.0 < e.0) (λ d e. rank p d.0 < rank p e.0)
        (λ d e q r l. rank_mono p d.0 e.0 l q) others passes
        (AllPairs-filter (λ d e. d.0 < e.0) (λ e. p e.0) es h.ascending));
    not_zero = All-map (λ (e : ℕ × ℚ). e.1 ≢ 0ℚ) moved others (All-filter (λ e. p e.0) (λ e. e.1 ≢ 0ℚ) es h.not_zero);
  }
    where
      others : List (ℕ × ℚ)
      others = filter (λ e. p e.0) es

      passes : All (λ e. p e.0 ≡ true) others
      passes = filter_passes (λ e. p e.0) es

      kept_inside : All (λ e. e.0 < n) others
      kept_inside = All-filter (λ e. p e.0) (λ e. e.0 < n) es h.inside

  -- where all coefficients have at most 127 bits, so have those of the entries in rows that pass a test
  pub only_entries-narrow : (es : List (ℕ × ℚ)) → All (λ e. IsNarrow e.1) es → All (λ e. IsNarrow e.1) (only_entries p es)
  unfolding only_entries
  only_entries-narrow es h =
      All-map (λ (e : ℕ × ℚ). IsNarrow e.1) moved (filter (λ e. p e.0) es)
      (All-filter (λ e. p e.0) (λ e. IsNarrow e.1) es h)
