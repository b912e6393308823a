-- Names that have their places.
use Rattle.std.proofs.Common.{◌≡◌, ◌≢◌, ℕ, ◌<◌, Option, Some, List, get_or, All, sym, ap, ◌∙◌, arith}
use Rattle.std.specs.List.{AllPairs}
use Rattle.spec_model.specs.Model.{Name}

module _ (place : Name → Option ℕ) (name : ℕ → Name) (n : ℕ) (at : (k : ℕ) → k < n → place (name k) ≡ Some k) where
  -- two numbers below n with the same name are the same
  same_place : (i k : ℕ) → i < n → k < n → name i ≡ name k → i ≡ k
  same_place i k l r e = let p : ◌≡◌ {A = Option ℕ} (Some i) (Some k) = sym (at i l) ∙ ap place e ∙ at k r in cc

  -- the names of distinct numbers below n are distinct
  pub named_once : (ks : List ℕ) → All (λ k. k < n) ks → AllPairs (λ i k. i ≢ k) ks →
      AllPairs (λ i k. name i ≢ name k) ks
  named_once ks low once i k d l r e =
      once i k d l r (same_place (get_or ks i d) (get_or ks k d) (low i d (omega arith)) (low k d r) e)

  -- where no name of these numbers has the place j, none of these numbers is j
  pub unnamed : (ks : List ℕ) (j : ℕ) → j < n → All (λ k. place (name k) ≢ Some j) ks → All (λ k. k ≢ j) ks
  unnamed ks j l h q d r e = h q d r (ap (λ k. place (name k)) e ∙ at j l)
