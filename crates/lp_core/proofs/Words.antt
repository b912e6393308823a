-- Places by their numbers, as the code reads and writes them.
--
-- `no_words_past`: past the last place there are no words.
-- `words_there`: the words in the place that a list has at k are those at place k.
-- `past_stays`: writing past the last place changes no place.
use Rattle.std.proofs.Common.{◌≡◌, ℕ, zero, suc, ◌<◌, ◌≤◌, List, [], ◌∷◌, length, Some, None, refl, sym, ap, ◌∙◌, arith}
use Rattle.std.specs.Prelude.{get_or, set}
use Rattle.spec_board.specs.Places.{ExactPlace, place_at, with_place}
use Rattle.lp_core.specs.Looks.{words_in, words_at}

-- below the number of places, place k is element k of the list
place_get : (ps : List ExactPlace) (k : ℕ) (d : ExactPlace) → k < length ps → place_at ps k ≡ Some (get_or ps k d)
place_get [] k d h = absurd (omega arith)
place_get (p ∷ ps) zero d h = refl
place_get (p ∷ ps) (suc k) d h = place_get ps k d (omega arith)

-- from the number of places on there is no place
place_past : (ps : List ExactPlace) (k : ℕ) → length ps ≤ k → place_at ps k ≡ None
place_past [] k h = refl
place_past (p ∷ ps) zero h = absurd (omega arith)
place_past (p ∷ ps) (suc k) h = place_past ps k (omega arith)

pub no_words_past : (ps : List ExactPlace) (k : ℕ) → length ps ≤ k → None ≡ words_at ps k
no_words_past ps k h = sym (ap words_in (place_past ps k h))

pub words_there : (ps : List ExactPlace) (k : ℕ) (d p : ExactPlace) → k < length ps → get_or ps k d ≡ p →
    words_in (Some p) ≡ words_at ps k
words_there ps k d p h e = sym (ap words_in (place_get ps k d h ∙ ap Some e))

-- writing element k of the list gives the places with the new one at k
set_is_with : (ps : List ExactPlace) (k : ℕ) (new : ExactPlace) → set ps k new ≡ with_place ps k new
set_is_with [] k new = refl
set_is_with (p ∷ ps) zero new = refl
set_is_with (p ∷ ps) (suc k) new = ap (λ qs. p ∷ qs) (set_is_with ps k new)

pub past_stays : (ps : List ExactPlace) (k : ℕ) (new : ExactPlace) → length ps ≤ k → ps ≡ with_place ps k new
past_stays [] k new h = refl
past_stays (p ∷ ps) zero new h = absurd (omega arith)
past_stays (p ∷ ps) (suc k) new h = ap (λ qs. p ∷ qs) (past_stays ps k new (omega arith))
