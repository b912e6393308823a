-- What reads change of the places that the words of a board spell.
--
-- `spelled_with`: with place k replaced, the spelled places are as before but for place k.
-- `reads_change`: places that answer a read change as the spelled places of a board do.
use Rattle.std.proofs.Common.{◌≡◌, ℕ, zero, suc, List, [], ◌∷◌, map, refl, ap, ◌∙◌}
use Rattle.std.specs.Prelude.{slice_set}
use Rattle.std.proofs.lemmas.List.{map-append}
use Rattle.spec_board.specs.declared.place.Place.TheVariants as place
use Rattle.spec_board.specs.declared.read.Read.TheVariants as read
use Rattle.spec_board.specs.Reads.{ExactRead}
use Rattle.spec_board.specs.Places.{ExactPlace, with_place, Answers}
use Rattle.basis_board.specs.Spelled.{spelled, Changes}

pub spelled_with : (ps : List ExactPlace) (k : ℕ) (p : ExactPlace) →
    map spelled (with_place ps k p) ≡ slice_set (map spelled ps) k (spelled p)
spelled_with [] k p = refl
spelled_with (q ∷ ps) zero p = refl
spelled_with (q ∷ ps) (suc k) p = ap (λ xs. spelled q ∷ xs) (spelled_with ps k p)

pub reads_change : (places session : ℕ) (now next : List ExactPlace) (r : ExactRead) →
    Answers places now session r next → Changes now r next
reads_change places session now next (read.Count c) a = ap (map spelled) a.1
reads_change places session now next (read.NotDone k) a = ap (map spelled) a.2
reads_change places session now next (read.Seen k words) a = ap (map spelled) a.3
reads_change places session now next (read.Claim k) a =
    ap (map spelled) a.2 ∙ map-append spelled now (place.Claimed session ∷ [])
reads_change places session now next (read.Lost c) a = ap (map spelled) a.1
reads_change places session now next (read.Done k words) a =
    ap (map spelled) a.1 ∙ spelled_with now k (place.Done words)
