-- The list of places that are claimed, with one more behind it, with another place at a number, and after a read.
--
-- `place_more`: with one more place behind them, the places before have their numbers.
-- `place_last`: a place that is appended to n places has number n.
-- `some_same`: where `Some p` is `Some q`, p is q.
-- `place_before`: a place of the longer list is one of the places before, or the new one.
-- `length_with`: another place at a number leaves the number of places as it was.
-- `with_same`: where number k had a place, it has the new one after the change at k.
-- `with_other`: a change at number j leaves the places at all other numbers.
-- `place_below`: a number that has a place is below the number of places.
-- `answers_keep`: a read of a session leaves each place as it is, but for the one that the session has claimed.
use Rattle.std.proofs.Common.{◌≡◌, ℕ, zero, suc, List, [], ◌∷◌, ◌++◌, Some, length, refl, Option, sym, ◌⊎◌, inl, inr}
use Rattle.std.proofs.Common.{ap, ◌∙◌, subst, ◌<◌, arith}
use Rattle.spec_board.specs.declared.place.Place.TheVariants.{Claimed, Done}
use Rattle.spec_board.specs.declared.read.Read.TheVariants as read
use Rattle.spec_board.specs.Reads.{ExactRead}
use Rattle.spec_board.specs.Places.{ExactPlace, place_at, with_place, Answers}

-- ---- one more place
pub place_more : (ps : List ExactPlace) (k : ℕ) (p new : ExactPlace) → place_at ps k ≡ Some p →
    place_at (ps ++ new ∷ []) k ≡ Some p
place_more [] k p new h = cc
place_more (q ∷ ps) zero p new h = h
place_more (q ∷ ps) (suc k) p new h = place_more ps k p new h

pub place_last : (ps : List ExactPlace) (new : ExactPlace) → place_at (ps ++ new ∷ []) (length ps) ≡ Some new
place_last [] new = refl
place_last (p ∷ ps) new = place_last ps new

pub some_same : (p q : ExactPlace) → ◌≡◌ {A = Option ExactPlace} (Some p) (Some q) → p ≡ q
some_same p q e = cc

pub place_before : (ps : List ExactPlace) (k : ℕ) (p new : ExactPlace) → place_at (ps ++ new ∷ []) k ≡ Some p →
    (place_at ps k ≡ Some p) ⊎ (p ≡ new)
place_before [] zero p new h = inr (sym (some_same new p h))
place_before [] (suc k) p new h = cc
place_before (q ∷ ps) zero p new h = inl h
place_before (q ∷ ps) (suc k) p new h = place_before ps k p new h

-- ---- another place at k
pub length_with : (ps : List ExactPlace) (k : ℕ) (new : ExactPlace) → length (with_place ps k new) ≡ length ps
length_with [] k new = refl
length_with (p ∷ ps) zero new = refl
length_with (p ∷ ps) (suc k) new = ap suc (length_with ps k new)

pub with_same : (ps : List ExactPlace) (k : ℕ) (old new : ExactPlace) → place_at ps k ≡ Some old →
    place_at (with_place ps k new) k ≡ Some new
with_same [] k old new h = cc
with_same (p ∷ ps) zero old new h = refl
with_same (p ∷ ps) (suc k) old new h = with_same ps k old new h

pub with_other : (ps : List ExactPlace) (j k : ℕ) (new : ExactPlace) → (j ≡ k → ⊥) →
    place_at (with_place ps j new) k ≡ place_at ps k
with_other [] j k new h = refl
with_other (p ∷ ps) zero zero new h = absurd (h refl)
with_other (p ∷ ps) zero (suc k) new h = refl
with_other (p ∷ ps) (suc j) zero new h = refl
with_other (p ∷ ps) (suc j) (suc k) new h = with_other ps j k new (λ e. h (ap suc e))

-- ---- places that are there
pub place_below : (ps : List ExactPlace) (k : ℕ) (p : ExactPlace) → place_at ps k ≡ Some p → k < length ps
place_below [] k p h = cc
place_below (q ∷ ps) zero p h = omega arith
place_below (q ∷ ps) (suc k) p h = let l = place_below ps k p h in omega arith

-- a place stays as it is, unless it is the one that the session has claimed
pub answers_keep : (places session : ℕ) (now next : List ExactPlace) (r : ExactRead) (k : ℕ) (p : ExactPlace) →
    Answers places now session r next → (p ≡ Claimed session → ⊥) → place_at now k ≡ Some p → place_at next k ≡ Some p
answers_keep places session now next (read.Count c) k p a other h = subst (λ ps. place_at ps k ≡ Some p) (sym a.1) h
answers_keep places session now next (read.NotDone j) k p a other h = subst (λ ps. place_at ps k ≡ Some p) (sym a.2) h
answers_keep places session now next (read.Seen j words) k p a other h = subst (λ ps. place_at ps k ≡ Some p) (sym a.3) h
answers_keep places session now next (read.Claim j) k p a other h =
    subst (λ ps. place_at ps k ≡ Some p) (sym a.2) (place_more now k p (Claimed session) h)
answers_keep places session now next (read.Lost c) k p a other h = subst (λ ps. place_at ps k ≡ Some p) (sym a.1) h
answers_keep places session now next (read.Done j words) k p a other h =
    let apart : j ≡ k → ⊥ = λ e. other (some_same p (Claimed session) (sym h ∙ sym (ap (place_at now) e) ∙ a.0)) in
    subst (λ ps. place_at ps k ≡ Some p) (sym a.1) (with_other now j k (Done words) apart ∙ h)
