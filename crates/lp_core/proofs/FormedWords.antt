-- The words of places stay well formed.
--
-- `claim_formed`: one claimed place more leaves the words of done places well formed.
-- `done_formed`: a place that becomes done with well-formed words leaves all words well formed.
use Rattle.std.proofs.Common.{◌≡◌, ℕ, zero, suc, List, [], ◌∷◌, ◌++◌, Some, sym, subst, ◌⊎◌, inl, inr}
use Rattle.spec_board.specs.Words.{IsWellFormed}
use Rattle.spec_board.specs.declared.place.Place.TheVariants as place
use Rattle.spec_board.specs.Reads.{Words}
use Rattle.spec_board.specs.Places.{ExactPlace, place_at, with_place}
use Rattle.spec_board.proofs.SharedPlaces.{some_same, place_before}
use Rattle.lp_core.specs.Core.{AreFormed}

pub claim_formed : (me : ℕ) (ps qs : List ExactPlace) → qs ≡ ps ++ place.Claimed me ∷ [] → AreFormed ps → AreFormed qs
claim_formed me ps qs e formed k words at =
    by
    (place_before ps k (place.Done words) (place.Claimed me)
    (subst (λ rs. place_at rs k ≡ Some (place.Done words)) e at))
  where
    by : (place_at ps k ≡ Some (place.Done words)) ⊎ (place.Done words ≡ place.Claimed me) → IsWellFormed words
    by (inl h) = formed k words h
    by (inr h) = cc

-- a place of those with another at k
with_at : (ps : List ExactPlace) (k j : ℕ) (new p : ExactPlace) → place_at (with_place ps k new) j ≡ Some p →
    (place_at ps j ≡ Some p) ⊎ (p ≡ new)
with_at [] k j new p e = inl e
with_at (q ∷ ps) zero zero new p e = inr (sym (some_same new p e))
with_at (q ∷ ps) zero (suc j) new p e = inl e
with_at (q ∷ ps) (suc k) zero new p e = inl e
with_at (q ∷ ps) (suc k) (suc j) new p e = with_at ps k j new p e

pub done_formed : (ps qs : List ExactPlace) (k : ℕ) (words : Words) → qs ≡ with_place ps k (place.Done words) →
    IsWellFormed words → AreFormed ps → AreFormed qs
done_formed ps qs k words e well formed j ws at =
    by
    (with_at ps k j (place.Done words) (place.Done ws)
    (subst (λ rs. place_at rs j ≡ Some (place.Done ws)) e at))
  where
    by : (place_at ps j ≡ Some (place.Done ws)) ⊎ (place.Done ws ≡ place.Done words) → IsWellFormed ws
    by (inl h) = formed j ws h
    by (inr h) = let same : words ≡ ws = cc in subst IsWellFormed same well
